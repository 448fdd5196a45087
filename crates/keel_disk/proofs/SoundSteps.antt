-- Every answer of a call leaves a sound device sound.
use Rattle.std.proofs.Common.{◌≡◌, ℕ, ◌+◌, ◌==◌, ◌<◌, ◌≤◌, nat_le, true, false, List, [], ◌∷◌, ◌++◌, length, take, drop, Option, Some, None, IfSome, MatchOption, Result, Ok, Err, refl, sym, ◌∙◌, ap, subst, arith, if◌then◌else◌, is_some, unwrap_or, option_map, option_and_then, take-add, take_all, length-set, length-append, ⊎_elim}
use Rattle.std.proofs.lemmas.Bool.{cases_lt}
use Rattle.std.proofs.lemmas.List.{take-append-le, length_push}
use Rattle.std.proofs.lemmas.List.Elements.{All-set, All-push}
use Rattle.keel_base.specs.declared.file_name.FileName.{FileName}
use Rattle.keel_base.specs.Name.{IsName}
use Rattle.keel_base.specs.declared.failure.Fault.{Fault}
use Rattle.keel_base.specs.declared.failure.Fault.TheVariants.{Plain}
use Rattle.keel_disk.specs.declared.error.DiskError.{DiskError}
use Rattle.keel_disk.specs.declared.error.DiskError.TheVariants as error
use Rattle.keel_disk.specs.declared.state.File.{File}
use Rattle.keel_disk.specs.declared.state.Operation.{Operation}
use Rattle.keel_disk.specs.declared.state.Operation.TheVariants.{Link, Move, Unlink, Shorten}
use Rattle.keel_disk.specs.declared.change.Change.{Change}
use Rattle.keel_disk.specs.declared.change.Change.TheVariants.{Create, Append, Sync, Rename, Remove, Cut, SyncDir}
use Rattle.keel_disk.specs.Directory.{Named, operated, operated_all}
use Rattle.keel_disk.specs.State.{State, new_file, file_at, shortened, files_operated, files_operated_all, settled_through, file_of, has_waiting_cut}
use Rattle.keel_disk.specs.Step.{extended, spoiled, synced, cut_read, with_file, with_waiting, created, unlinked_name, cut_file, done, failed, DiskStep}
use Rattle.keel_disk.specs.Image.{AreBytes}
use Rattle.keel_disk.specs.Sound.{AreOwn, IsFile, IsSound, IsLawful}
use Rattle.keel_disk.proofs.Directories.{operated_all-append}
use Rattle.keel_disk.proofs.Owning.{own-more, own-unlinked, own-link, own-move}
use Rattle.keel_disk.proofs.SoundFiles.{new_is_file, is_file_at, extended_is_file, spoiled_is_file, synced_is_file, cut_is_file, files-operated}

-- ---- parts of a step

-- one file is changed
pub sound-with_file : (number : ℕ) (change : File → File) (state : State) → ((file : File) → IsFile file → IsFile (change file)) → IsSound state → IsSound (with_file number change state)
sound-with_file number change state kept sound =
    let new = change (file_at number state.files) in
    record {
      one_to_one = λ count. subst (λ bound. AreOwn bound (operated_all (take count state.waiting) state.firm)) (sym (length-set state.files number new)) (sound.one_to_one count);
      files = All-set IsFile state.files number new (kept (file_at number state.files) (is_file_at number state.files sound.files)) sound.files;
    }

-- where one operation more is done, all others are
done_first : (count : ℕ) (waiting : List Operation) (operation : Operation) → length waiting < count → take count (waiting ++ operation ∷ []) ≡ waiting ++ operation ∷ []
done_first count waiting operation more = take_all count (waiting ++ operation ∷ []) (omega (arith, length-append waiting (operation ∷ [])))

-- one operation more waits
pub own-waiting : (bound more count : ℕ) (waiting : List Operation) (operation : Operation) (firm : Named ℕ) → bound ≤ more
    → ((k : ℕ) → AreOwn bound (operated_all (take k waiting) firm)) → (AreOwn bound (operated_all waiting firm) → AreOwn more (operated operation (operated_all waiting firm)))
    → AreOwn more (operated_all (take count (waiting ++ operation ∷ [])) firm)
own-waiting bound more count waiting operation firm le own step =
    ⊎_elim
    (λ full.
    let all : length waiting < count = full in
    let whole : AreOwn bound (operated_all waiting firm) = subst (λ operations. AreOwn bound (operated_all operations firm)) (take_all (length waiting) waiting (omega arith)) (own (length waiting)) in
    subst (λ d. AreOwn more d) (sym (ap (λ operations. operated_all operations firm) (done_first count waiting operation all) ∙ operated_all-append waiting (operation ∷ []) firm)) (step whole))
    (λ short.
    let some : count ≤ length waiting = short in
    subst (λ operations. AreOwn more (operated_all operations firm)) (sym (take-append-le count waiting (operation ∷ []) some)) (own-more bound more (operated_all (take count waiting) firm) le (own count)))
    (cases_lt (length waiting) count)

sound-waiting : (operation : Operation) (state : State) → ((directory : Named ℕ) → AreOwn (length state.files) directory → AreOwn (length state.files) (operated operation directory)) → IsSound state → IsSound (with_waiting operation state)
sound-waiting operation state step sound = record {
  one_to_one = λ count. own-waiting (length state.files) (length state.files) count state.waiting operation state.firm (omega arith) sound.one_to_one (step (operated_all state.waiting state.firm));
  files = sound.files;
}

sound-created : (name : FileName) (state : State) → IsName name → IsSound state → IsSound (created name state)
sound-created name state named sound =
    let bound = length state.files in
    record {
      one_to_one = λ count. subst (λ more. AreOwn more (operated_all (take count (state.waiting ++ Link name bound ∷ [])) state.firm)) (sym (length_push state.files new_file))
          (own-waiting bound (bound + 1) count state.waiting (Link name bound) state.firm (omega arith) sound.one_to_one (own-link bound name (operated_all state.waiting state.firm) named));
      files = All-push IsFile state.files new_file sound.files new_is_file;
    }

sound-unlinked : (name : FileName) (state : State) → IsSound state → IsSound (unlinked_name name state)
sound-unlinked name state sound =
    elim (is_some (file_of name state)) as (λ b. IsSound (if b then with_waiting (Unlink name) state else state)) [
      | true ↦ sound-waiting (Unlink name) state (λ directory own. own-unlinked (length state.files) name directory own) sound
      | false ↦ sound
    ]

sound-cut : (number size : ℕ) (state : State) → IsSound state → IsSound (cut_file number size state)
sound-cut number size state sound =
    let shorter = with_file number (cut_read size) state in
    elim (nat_le (length (file_at number state.files).read) size) as (λ b. IsSound (if b then state else with_waiting (Shorten number size) shorter)) [
      | true ↦ sound
      | false ↦ sound-waiting (Shorten number size) shorter (λ directory own. own) (sound-with_file number (cut_read size) state (cut_is_file size) sound)
    ]

pub length-operated : (operations : List Operation) (files : List File) → length (files_operated_all operations files) ≡ length files
length-operated [] files = refl
length-operated (Shorten number size ∷ rest) files = length-operated rest (files_operated (Shorten number size) files) ∙ length-set files number (shortened size (file_at number files))
length-operated (Link name number ∷ rest) files = length-operated rest files
length-operated (Move from to ∷ rest) files = length-operated rest files
length-operated (Unlink name ∷ rest) files = length-operated rest files

-- some first operations become firm
pub sound-settled : (kept : ℕ) (state : State) → IsSound state → IsSound (settled_through kept state)
sound-settled kept state sound = record {
  one_to_one = λ count.
      let both : operated_all (take (kept + count) state.waiting) state.firm ≡ operated_all (take count (drop kept state.waiting)) (operated_all (take kept state.waiting) state.firm) =
      ap (λ operations. operated_all operations state.firm) (take-add kept count state.waiting) ∙ operated_all-append (take kept state.waiting) (take count (drop kept state.waiting)) state.firm in
      subst (λ bound. AreOwn bound (operated_all (take count (drop kept state.waiting)) (operated_all (take kept state.waiting) state.firm))) (sym (length-operated (take kept state.waiting) state.files))
      (subst (AreOwn (length state.files)) both (sound.one_to_one (kept + count)));
  files = files-operated (take kept state.waiting) state.files sound.files;
}

-- where all operations are done, reads see the directory
pub own-read : (state : State) → IsSound state → AreOwn (length state.files) (operated_all state.waiting state.firm)
own-read state sound =
    subst (λ operations. AreOwn (length state.files) (operated_all operations state.firm)) (take_all (length state.waiting) state.waiting (omega arith)) (sound.one_to_one (length state.waiting))

-- ---- what an Ok leaves

mapped : (change : ℕ → State) (found : Option ℕ) → ((number : ℕ) → IsSound (change number)) → IfSome (option_map change found) IsSound
mapped change None each = tt
mapped change (Some number) each = each number

sound-append : (bytes : List ℕ) (state : State) (found : Option ℕ) → AreBytes bytes → IsSound state
    → IfSome (option_and_then (λ number. if has_waiting_cut number state.waiting then None else Some (with_file number (extended bytes (length bytes)) state)) found) IsSound
sound-append bytes state None all sound = tt
sound-append bytes state (Some number) all sound =
    elim (has_waiting_cut number state.waiting) as (λ b. IfSome (if b then None else Some (with_file number (extended bytes (length bytes)) state)) IsSound) [
      | true ↦ tt
      | false ↦ sound-with_file number (extended bytes (length bytes)) state (λ file is. extended_is_file bytes (length bytes) file all is) sound
    ]

pub sound-done : (change : Change) (state : State) → IsLawful change → IsSound state → IfSome (done change state) IsSound
sound-done (Create name) state lawful sound = sound-created name state lawful sound
sound-done (Append name bytes) state lawful sound = sound-append bytes state (file_of name state) lawful sound
sound-done (Sync name) state lawful sound = mapped (λ number. with_file number synced state) (file_of name state) (λ number. sound-with_file number synced state synced_is_file sound)
sound-done (Rename from to) state lawful sound =
    mapped (λ number. with_waiting (Move from to) state) (file_of from state) (λ number. sound-waiting (Move from to) state (λ directory own. own-move (length state.files) from to directory lawful own) sound)
sound-done (Remove name) state lawful sound = sound-unlinked name state sound
sound-done (Cut name size) state lawful sound = mapped (λ number. cut_file number size state) (file_of name state) (λ number. sound-cut number size state sound)
sound-done SyncDir state lawful sound = sound-settled (length state.waiting) state sound

-- a call that is refused leaves the device as it was
pub sound-or : (outcome : Option State) (state : State) → IfSome outcome IsSound → IsSound state → IsSound (unwrap_or outcome state)
sound-or None state some sound = sound
sound-or (Some after) state some sound = some

-- ---- what a failure leaves

done_or_not : (kept : ℕ) (outcome : Option State) (state : State) → IfSome outcome IsSound → IsSound state → IsSound (if kept == 0 then state else unwrap_or outcome state)
done_or_not kept outcome state some sound =
    elim (kept == 0) as (λ b. IsSound (if b then state else unwrap_or outcome state)) [
      | true ↦ sound
      | false ↦ sound-or outcome state some sound
    ]

pub sound-failed : (change : Change) (kept : ℕ) (state : State) → IsLawful change → IsSound state → IsSound (failed change kept state)
sound-failed (Create name) kept state lawful sound = done_or_not kept (done (Create name) state) state (sound-done (Create name) state lawful sound) sound
sound-failed (Append name bytes) kept state lawful sound =
    let spoilt : ℕ → State = λ number. with_file number (λ file. spoiled (extended bytes kept file)) state in
    sound-or (option_map spoilt (file_of name state)) state
    (mapped spoilt (file_of name state) (λ number. sound-with_file number (λ file. spoiled (extended bytes kept file)) state (λ file is. spoiled_is_file (extended bytes kept file) (extended_is_file bytes kept file lawful is)) sound))
    sound
sound-failed (Sync name) kept state lawful sound =
    sound-or (option_map (λ number. with_file number spoiled state) (file_of name state)) state
    (mapped (λ number. with_file number spoiled state) (file_of name state) (λ number. sound-with_file number spoiled state spoiled_is_file sound)) sound
sound-failed (Rename from to) kept state lawful sound = done_or_not kept (done (Rename from to) state) state (sound-done (Rename from to) state lawful sound) sound
sound-failed (Remove name) kept state lawful sound = done_or_not kept (done (Remove name) state) state (sound-done (Remove name) state lawful sound) sound
sound-failed (Cut name size) kept state lawful sound = done_or_not kept (done (Cut name size) state) state (sound-done (Cut name size) state lawful sound) sound
sound-failed SyncDir kept state lawful sound = sound-settled kept state sound

-- ---- a step

fails_soundly : (change : Change) (state after : State) (fault : Fault) (outcome : Option State) → IsLawful change → IsSound state
    → MatchOption outcome ((fault ≡ Plain) × (after ≡ state)) (λ _. (kept : ℕ) × (after ≡ failed change kept state)) → IsSound after
fails_soundly change state after fault None lawful sound left = subst IsSound (sym left.1) sound
fails_soundly change state after fault (Some whole) lawful sound left = subst IsSound (sym left.1) (sound-failed change left.0 state lawful sound)

pub sound-step : {T : Type 0} (answer : Result T DiskError) (change : Change) (state after : State) → IsSound state → IsLawful change → DiskStep state change answer after → IsSound after
sound-step (Ok value) change state after sound lawful step = subst (λ outcome. IfSome outcome IsSound) step (sound-done change state lawful sound)
sound-step (Err (error.Fault fault)) change state after sound lawful step = fails_soundly change state after fault (done change state) lawful sound step
sound-step (Err error.OutOfMemory) change state after sound lawful step = subst IsSound (sym step) sound
