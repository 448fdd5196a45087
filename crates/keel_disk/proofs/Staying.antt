-- Names and files stay one to one behind each answer of a call, and waiting cuts are of files that there are.
use Rattle.std.proofs.Common.{◌≡◌, ℕ, ◌+◌, ◌<◌, ◌≤◌, ◌||◌, Bool, true, false, [], ◌∷◌, ◌++◌, length, take, drop, Result, refl, sym, subst, arith, eqb, eqb-true, length-set}
use Rattle.std.proofs.lemmas.List.{length_push}
use Rattle.keel_base.specs.Name.{IsName}
use Rattle.keel_disk.specs.declared.error.DiskError.{DiskError}
use Rattle.keel_disk.specs.declared.state.File.{File}
use Rattle.keel_disk.specs.declared.state.Operation.TheVariants.{Link, Move, Unlink, Shorten}
use Rattle.keel_disk.specs.declared.change.Change.{Change}
use Rattle.keel_disk.specs.declared.change.Change.TheVariants.{Create, Append, Sync, Rename, Remove, Cut, SyncDir}
use Rattle.keel_disk.specs.Directory.{operated_all}
use Rattle.keel_disk.specs.State.{State, new_file, file_at, directory_read, has_waiting_cut}
use Rattle.keel_disk.specs.Step.{DiskStep, extended, spoiled, synced, with_file, cut_read}
use Rattle.keel_disk.specs.Sound.{AreOwn, IsOneToOne}
use Rattle.keel_disk.specs.Steady.{CutsExist}
use Rattle.keel_disk.proofs.Operating.{always-more, always-settled, cut-append, cut-rest, is_below}
use Rattle.keel_disk.proofs.Owning.{own-unlinked, own-link, own-move}
use Rattle.keel_disk.proofs.Reaching.{Reaches, reached}
use Rattle.keel_disk.proofs.SoundSteps.{own-waiting, length-operated}
use Rattle.keel_disk.proofs.Steadily.{read_own}

-- the names that the call gives are names of the store
abbrev pub GivesNames : Change → Type 0
GivesNames (Create name) = IsName name
GivesNames (Append name bytes) = Unit {0}
GivesNames (Sync name) = Unit {0}
GivesNames (Rename from to) = IsName to
GivesNames (Remove name) = Unit {0}
GivesNames (Cut name size) = Unit {0}
GivesNames SyncDir = Unit {0}

one_set : (number : ℕ) (change : File → File) (state : State) → IsOneToOne state → IsOneToOne (with_file number change state)
one_set number change state one = λ count.
    subst (λ n. AreOwn n (operated_all (take count state.waiting) state.firm)) (sym (length-set state.files number (change (file_at number state.files)))) (one count)

one_reaches : (change : Change) (state : State) → GivesNames change → IsOneToOne state → Reaches IsOneToOne change state
one_reaches (Create name) state named one = λ count.
    let bound = length state.files in
    subst (λ more. AreOwn more (operated_all (take count (state.waiting ++ Link name bound ∷ [])) state.firm)) (sym (length_push state.files new_file))
    (own-waiting bound (bound + 1) count state.waiting (Link name bound) state.firm (omega arith) one (own-link bound name (operated_all state.waiting state.firm) named))
one_reaches (Append name bytes) state named one = λ number found uncut.
    (one_set number (extended bytes (length bytes)) state one, λ kept. one_set number (λ file. spoiled (extended bytes kept file)) state one)
one_reaches (Sync name) state named one = λ number found. (one_set number synced state one, one_set number spoiled state one)
one_reaches (Rename from to) state named one =
    always-more (AreOwn (length state.files)) (Move from to) state.waiting state.firm (λ directory own. own-move (length state.files) from to directory named own) one
one_reaches (Remove name) state named one =
    always-more (AreOwn (length state.files)) (Unlink name) state.waiting state.firm (λ directory own. own-unlinked (length state.files) name directory own) one
one_reaches (Cut name size) state named one = λ number found count.
    subst (λ n. AreOwn n (operated_all (take count (state.waiting ++ Shorten number size ∷ [])) state.firm)) (sym (length-set state.files number (cut_read size (file_at number state.files))))
    (always-more (AreOwn (length state.files)) (Shorten number size) state.waiting state.firm (λ directory own. own) one count)
one_reaches SyncDir state named one = λ kept count.
    subst (λ bound. AreOwn bound (operated_all (take count (drop kept state.waiting)) (operated_all (take kept state.waiting) state.firm))) (sym (length-operated (take kept state.waiting) state.files))
    (always-settled (AreOwn (length state.files)) kept state one count)

pub one_stays : (change : Change) (answer : Result (Unit {0}) DiskError) (state after : State) → GivesNames change → IsOneToOne state → DiskStep state change answer after → IsOneToOne after
one_stays change answer state after named one step = reached IsOneToOne answer change state after one (one_reaches change state named one) step

-- ---- cuts that wait

cuts_set : (number : ℕ) (change : File → File) (state : State) → CutsExist state → CutsExist (with_file number change state)
cuts_set number change state cuts = λ file above. cuts file (omega (arith, above, length-set state.files number (change (file_at number state.files))))

cut_other : (number file : ℕ) → number < file → has_waiting_cut file (Shorten number 0 ∷ []) ≡ false
cut_other number file less = by (eqb number file) refl
  where
    by : (b : Bool) → eqb number file ≡ b → (eqb number file || false) ≡ false
    by true same = absurd (let e : number ≡ file = eqb-true number file same in omega (arith, less, e))
    by false differs = rw differs refl

cuts_reaches : (change : Change) (state : State) → IsOneToOne state → CutsExist state → Reaches CutsExist change state
cuts_reaches (Create name) state one cuts = λ file above.
    cut-append file state.waiting (Link name (length state.files) ∷ []) (cuts file (omega (arith, above, length_push state.files new_file))) refl
cuts_reaches (Append name bytes) state one cuts = λ number found uncut.
    (cuts_set number (extended bytes (length bytes)) state cuts, λ kept. cuts_set number (λ file. spoiled (extended bytes kept file)) state cuts)
cuts_reaches (Sync name) state one cuts = λ number found. (cuts_set number synced state cuts, cuts_set number spoiled state cuts)
cuts_reaches (Rename from to) state one cuts = λ file above. cut-append file state.waiting (Move from to ∷ []) (cuts file above) refl
cuts_reaches (Remove name) state one cuts = λ file above. cut-append file state.waiting (Unlink name ∷ []) (cuts file above) refl
cuts_reaches (Cut name size) state one cuts = λ number found file above.
    let within : length state.files ≤ file = omega (arith, above, length-set state.files number (cut_read size (file_at number state.files))) in
    cut-append file state.waiting (Shorten number size ∷ []) (cuts file within)
    (cut_other number file (omega (arith, within, is_below (length state.files) name number (directory_read state) (read_own state one) found)))
cuts_reaches SyncDir state one cuts = λ kept file above.
    cut-rest file kept state.waiting (cuts file (omega (arith, above, length-operated (take kept state.waiting) state.files)))

pub cuts_stay : (change : Change) (answer : Result (Unit {0}) DiskError) (state after : State) → IsOneToOne state → CutsExist state → DiskStep state change answer after → CutsExist after
cuts_stay change answer state after one cuts step = reached CutsExist answer change state after cuts (cuts_reaches change state one cuts) step
