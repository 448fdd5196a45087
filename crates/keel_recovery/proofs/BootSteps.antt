-- What the kinds of calls of a boot leave of a device that keeps it.
use Rattle.std.proofs.Common.{◌≡◌, ◌⊎◌, ℕ, ◌≤◌, true, false, List, [], ◌∷◌, ◌++◌, length, Option, Some, None, Result, refl, sym, ap, subst, ◌∙◌, inl, inr, arith, ⊎_elim, if◌then◌else◌, ◌==◌}
use Rattle.std.specs.List.{AllByRecursion}
use Rattle.std.specs.Prelude.{option_and_then, option_map, unwrap_or, MatchOption}
use Rattle.keel_base.specs.declared.failure.Fault.{Fault}
use Rattle.keel_base.specs.declared.failure.Fault.TheVariants.{Plain}
use Rattle.keel_base.specs.declared.file_name.FileName.{FileName}
use Rattle.keel_base.specs.declared.file_name.FileName.TheVariants.{Log, Table}
use Rattle.keel_disk.specs.declared.change.Change.{Change}
use Rattle.keel_disk.specs.declared.change.Change.TheVariants.{Create, Append, Sync, SyncDir}
use Rattle.keel_disk.specs.declared.error.DiskError.{DiskError}
use Rattle.keel_disk.specs.declared.state.File.{File}
use Rattle.keel_disk.specs.Directory.{find}
use Rattle.keel_disk.specs.State.{State as Disk, file_at, new_file, file_of, settled_through, has_waiting_cut, directory_read}
use Rattle.keel_disk.specs.Step.{DiskStep, FailsTo, created, done, extended, failed, spoiled, synced, with_file}
use Rattle.keel_disk.specs.Steady.{CutsExist, IsApart, IsGoing, IsHeld, IsPresent, file_behind}
use Rattle.keel_disk.specs.Sound.{IsOneToOne}
use Rattle.keel_disk.specs.declared.state.Operation.TheVariants.{Link}
use Rattle.std.proofs.Math.ListN.{get_or-eq_default}
use Rattle.keel_disk.proofs.Directories.{find-linked, operated_all-append}
use Rattle.keel_disk.proofs.Operating.{cut-append, file_at-created, is_below}
use Rattle.keel_disk.proofs.Steadily.{present_stays, steady_stays}
use Rattle.keel_machine.specs.Outside.{as_answer}
use Rattle.keel_draft.specs.Drafts.{Draft, bytes_in}
use Rattle.keel_recovery.specs.BootCalls.{IsMade, IsBeingMade, IsEmptyLog, IsFixed, AreMade, AreFixed}
use Rattle.keel_recovery.proofs.BootFrame.{created_found}

some_one : {A : Type 0} {x y : A} → Some x ≡ Some y → x ≡ y
some_one e = cc

-- ---- what a call about other names leaves

module _ (state after : Disk) (change : Change) (answer : Result (Unit {0}) DiskError) (one : IsOneToOne state) (step : DiskStep state change answer after) where
  pub made_stays : (bound : ℕ) (name : FileName) (bytes : List ℕ) → IsApart name change → IsMade bound name bytes state → IsMade bound name bytes after
  made_stays bound name bytes apart is =
      let stays = present_stays name is.file change answer state after one apart is.present step in
      record { file = is.file; present = stays.0; newer = is.newer; held = subst (λ (f : File). IsHeld f bytes) (sym stays.1) is.held; clean = ap (λ (f : File). f.spoilt) stays.1 ∙ is.clean }

  pub fixed_stays : (bound : ℕ) (name : FileName) (bytes : List ℕ) → IsApart name change → IsFixed bound name bytes state → IsFixed bound name bytes after
  fixed_stays bound name bytes apart is =
      let stays = steady_stays name is.file change answer state after one apart is.steady step in
      record { file = is.file; steady = stays.0; newer = is.newer; held = subst (λ (f : File). IsHeld f bytes) (sym stays.1) is.held }

  pub all_made_stay : (bound : ℕ) (numbers : List ℕ) (drafts : List Draft) → AllByRecursion (λ number. IsApart (Table number) change) numbers → AreMade bound numbers drafts state → AreMade bound numbers drafts after
  all_made_stay bound [] [] apart are = tt
  all_made_stay bound [] (draft ∷ drafts) apart are = absurd are
  all_made_stay bound (number ∷ numbers) [] apart are = absurd are
  all_made_stay bound (number ∷ numbers) (draft ∷ drafts) apart are =
      (made_stays bound (Table number) (bytes_in draft) apart.0 are.0, all_made_stay bound numbers drafts apart.1 are.1)

  pub all_fixed_stay : (bound : ℕ) (numbers : List ℕ) (drafts : List Draft) → AllByRecursion (λ number. IsApart (Table number) change) numbers → AreFixed bound numbers drafts state → AreFixed bound numbers drafts after
  all_fixed_stay bound [] [] apart are = tt
  all_fixed_stay bound [] (draft ∷ drafts) apart are = absurd are
  all_fixed_stay bound (number ∷ numbers) [] apart are = absurd are
  all_fixed_stay bound (number ∷ numbers) (draft ∷ drafts) apart are =
      (fixed_stays bound (Table number) (bytes_in draft) apart.0 are.0, all_fixed_stay bound numbers drafts apart.1 are.1)

-- ---- creations

create_failed : (name : FileName) (state after : Disk) (fault : Fault) → FailsTo (Create name) state fault after → (after ≡ state) ⊎ (after ≡ created name state)
create_failed name state after fault (kept, is) =
    elim (kept == 0) as (λ b. after ≡ (if b then state else created name state) → (after ≡ state) ⊎ (after ≡ created name state)) [
      | true ↦ λ same. inl same
      | false ↦ λ done. inr done
    ] is

pub create_leaves : (name : FileName) (state after : Disk) (failed_ : Option Fault) → DiskStep state (Create name) (as_answer failed_) after → (after ≡ state) ⊎ (after ≡ created name state)
create_leaves name state after None step = inr (sym cc)
create_leaves name state after (Some fault) step = create_failed name state after fault step

pub create_done : (name : FileName) (state after : Disk) → DiskStep state (Create name) (as_answer None) after → after ≡ created name state
create_done name state after step = sym cc

pub new_at : (state : Disk) → file_at (length state.files) (state.files ++ new_file ∷ []) ≡ new_file
new_at state = file_at-created (length state.files) state.files ∙ get_or-eq_default state.files new_file (omega arith)

-- its name is there
pub new_present : (name : FileName) (state : Disk) → CutsExist state → IsPresent name (length state.files) (created name state)
new_present name state cuts = record {
  named = ap (find name) (operated_all-append state.waiting (Link name (length state.files) ∷ []) state.firm) ∙ find-linked name (length state.files) (directory_read state);
  not_cut = cut-append (length state.files) state.waiting (Link name (length state.files) ∷ []) (cuts (length state.files) (omega arith)) refl;
}

-- no directory had a file of its number
pub number_new : (state : Disk) → IsOneToOne state → (count : ℕ) (name : FileName) → file_behind count name state ≡ Some (length state.files) → ⊥
number_new state one count name is = absurd (omega (arith, is_below (length state.files) name (length state.files) (settled_through count state).firm (one count) is))

-- a file that was made, and is no log, is empty and no log has it
pub created_being : (bound : ℕ) (name : FileName) (state : Disk) → IsOneToOne state → CutsExist state → bound ≤ length state.files → ((n : ℕ) → name ≡ Log n → ⊥) → IsBeingMade bound name [] (created name state)
created_being bound name state one cuts within no_log = record {
  file = length state.files;
  present = new_present name state cuts;
  newer = within;
  no_log = λ count n is. ⊎_elim (λ before. number_new state one before.0 (Log n) before.1) (λ new. no_log n (sym new.0)) (created_found name state count (length state.files) (Log n) is);
  meant = ap (λ (f : File). f.meant) (new_at state);
  going = subst IsGoing (sym (new_at state)) (record { not_spoilt = refl; read = refl });
}

pub created_log : (bound number : ℕ) (state : Disk) → CutsExist state → bound ≤ length state.files → IsEmptyLog bound number (created (Log number) state)
created_log bound number state cuts within = record { file = length state.files; present = new_present (Log number) state cuts; newer = within; is_new = new_at state }

-- ---- files that are appended to and synced

-- a file that is there and has no waiting cut takes the bytes
append_there : (name : FileName) (bytes : List ℕ) (state : Disk) (file : ℕ) (found : Option ℕ) → found ≡ Some file → has_waiting_cut file state.waiting ≡ false
    → option_and_then (λ number. if has_waiting_cut number state.waiting then None else Some (with_file number (extended bytes (length bytes)) state)) found ≡ Some (with_file file (extended bytes (length bytes)) state)
append_there name bytes state file found is uncut = rw (is, uncut) refl

pub append_done : (name : FileName) (bytes : List ℕ) (state after : Disk) (file : ℕ) → IsPresent name file state → DiskStep state (Append name bytes) (as_answer None) after
    → after ≡ with_file file (extended bytes (length bytes)) state
append_done name bytes state after file is step = some_one (sym step ∙ append_there name bytes state file (file_of name state) is.named is.not_cut)

sync_there : (change : File → File) (state : Disk) (file : ℕ) (found : Option ℕ) → found ≡ Some file → option_map (λ number. with_file number change state) found ≡ Some (with_file file change state)
sync_there change state file found is = rw is refl

pub sync_done : (name : FileName) (state after : Disk) (file : ℕ) → IsPresent name file state → DiskStep state (Sync name) (as_answer None) after → after ≡ with_file file synced state
sync_done name state after file is step = some_one (sym step ∙ sync_there synced state file (file_of name state) is.named)

-- what one that failed leaves: the file as it was, or changed
fails_some : (change : Change) (state after next : Disk) (fault : Fault) (outcome : Option Disk) → done change state ≡ outcome → outcome ≡ Some next → FailsTo change state fault after → (kept : ℕ) × (after ≡ failed change kept state)
fails_some change state after next fault None at is fails = cc
fails_some change state after next fault (Some other) at is fails =
    subst (λ (o : Option Disk). MatchOption o ((fault ≡ Plain) × (after ≡ state)) (λ _. (kept : ℕ) × (after ≡ failed change kept state))) at fails

append_spoils : (bytes : List ℕ) (kept : ℕ) (state : Disk) (file : ℕ) (found : Option ℕ) → found ≡ Some file
    → unwrap_or (option_map (λ number. with_file number (λ f. spoiled (extended bytes kept f)) state) found) state ≡ with_file file (λ f. spoiled (extended bytes kept f)) state
append_spoils bytes kept state file found is = rw is refl

pub append_failed : (name : FileName) (bytes : List ℕ) (state after : Disk) (file : ℕ) (fault : Fault) → IsPresent name file state → DiskStep state (Append name bytes) (as_answer (Some fault)) after
    → (kept : ℕ) × (after ≡ with_file file (λ f. spoiled (extended bytes kept f)) state)
append_failed name bytes state after file fault is step =
    let fails = fails_some (Append name bytes) state after (with_file file (extended bytes (length bytes)) state) fault (done (Append name bytes) state) refl (append_there name bytes state file (file_of name state) is.named is.not_cut) step in
    (fails.0, fails.1 ∙ append_spoils bytes fails.0 state file (file_of name state) is.named)

sync_spoils : (state : Disk) (file : ℕ) (found : Option ℕ) → found ≡ Some file → unwrap_or (option_map (λ number. with_file number spoiled state) found) state ≡ with_file file spoiled state
sync_spoils state file found is = rw is refl

pub sync_failed : (name : FileName) (state after : Disk) (file : ℕ) (fault : Fault) → IsPresent name file state → DiskStep state (Sync name) (as_answer (Some fault)) after → after ≡ with_file file spoiled state
sync_failed name state after file fault is step =
    let fails = fails_some (Sync name) state after (with_file file synced state) fault (done (Sync name) state) refl (sync_there synced state file (file_of name state) is.named) step in
    fails.1 ∙ sync_spoils state file (file_of name state) is.named

-- ---- the directory

pub sync_dir_leaves : (state after : Disk) (failed_ : Option Fault) → DiskStep state SyncDir (as_answer failed_) after → (kept : ℕ) × (after ≡ settled_through kept state)
sync_dir_leaves state after None step = (length state.waiting, sym (some_one step))
sync_dir_leaves state after (Some fault) step = (step.0, step.1)

pub sync_dir_done : (state after : Disk) → DiskStep state SyncDir (as_answer None) after → after ≡ settled_through (length state.waiting) state
sync_dir_done state after step = sym (some_one step)
