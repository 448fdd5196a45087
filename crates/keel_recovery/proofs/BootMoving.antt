-- A device behind the move of a boot's temporary file to CURRENT.
use Rattle.std.proofs.Common.{◌≡◌, ◌⊎◌, ℕ, ◌==◌, true, false, List, [], ◌∷◌, length, take, Option, Some, None, refl, sym, ap, subst, ◌∙◌, inl, inr, ⊎_elim, if◌then◌else◌}
use Rattle.std.specs.Prelude.{option_map, unwrap_or, MatchOption}
use Rattle.std.proofs.Math.Seq.{take-length}
use Rattle.keel_base.specs.declared.failure.Fault.{Fault}
use Rattle.keel_base.specs.declared.failure.Fault.TheVariants.{Plain}
use Rattle.keel_base.specs.declared.file_name.FileName.{FileName}
use Rattle.keel_base.specs.declared.file_name.FileName.TheVariants.{Current, Temp}
use Rattle.keel_base.specs.Name.{name_eq}
use Rattle.keel_disk.specs.declared.change.Change.TheVariants.{Rename}
use Rattle.keel_disk.specs.declared.state.Operation.{Operation}
use Rattle.keel_disk.specs.declared.state.Operation.TheVariants.{Move}
use Rattle.keel_disk.specs.Directory.{Named, find, unlinked, linked_found, operated, operated_all}
use Rattle.keel_disk.specs.State.{State as Disk, directory_read, file_of}
use Rattle.keel_disk.specs.Step.{DiskStep, FailsTo, done, failed, with_waiting}
use Rattle.keel_disk.specs.Steady.{file_behind}
use Rattle.keel_disk.proofs.Directories.{operated_all-append}
use Rattle.keel_disk.proofs.Operating.{find-moved}
use Rattle.keel_machine.specs.Outside.{as_answer}
use Rattle.keel_recovery.proofs.BootFrame.{taken_more}

some_one : {A : Type 0} {x y : A} → Some x ≡ Some y → x ≡ y
some_one e = cc

-- ---- the call

abbrev pub renamed : ℕ → Disk → Disk
renamed m state = with_waiting (Move (Temp m) Current) state

rename_there : (m : ℕ) (state : Disk) (file : ℕ) (found : Option ℕ) → found ≡ Some file → option_map (λ number. with_waiting (Move (Temp m) Current) state) found ≡ Some (renamed m state)
rename_there m state file found is = rw is refl

pub rename_done : (m : ℕ) (state after : Disk) (file : ℕ) → file_of (Temp m) state ≡ Some file → DiskStep state (Rename (Temp m) Current) (as_answer None) after → after ≡ renamed m state
rename_done m state after file there step = some_one (sym step ∙ rename_there m state file (file_of (Temp m) state) there)

by_outcome : (m : ℕ) (state after : Disk) (fault : Fault) (outcome : Option Disk) → done (Rename (Temp m) Current) state ≡ outcome → outcome ≡ Some (renamed m state)
    → FailsTo (Rename (Temp m) Current) state fault after → (after ≡ state) ⊎ (after ≡ renamed m state)
by_outcome m state after fault None at is fails = cc
by_outcome m state after fault (Some other) at is fails =
    let way = subst (λ (o : Option Disk). MatchOption o ((fault ≡ Plain) × (after ≡ state)) (λ _. (kept : ℕ) × (after ≡ failed (Rename (Temp m) Current) kept state))) at fails in
    elim (way.0 == 0) as (λ b. after ≡ (if b then state else unwrap_or (done (Rename (Temp m) Current) state) state) → (after ≡ state) ⊎ (after ≡ renamed m state)) [
      | true ↦ λ same. inl same
      | false ↦ λ moved. inr (moved ∙ (ap (λ o. unwrap_or o state) (at ∙ is)))
    ] way.1

pub rename_failed : (m : ℕ) (state after : Disk) (file : ℕ) (fault : Fault) → file_of (Temp m) state ≡ Some file → DiskStep state (Rename (Temp m) Current) (as_answer (Some fault)) after
    → (after ≡ state) ⊎ (after ≡ renamed m state)
rename_failed m state after file fault there step =
    by_outcome m state after fault (done (Rename (Temp m) Current) state) refl (rename_there m state file (file_of (Temp m) state) there) step

-- ---- directories behind it

module _ (m : ℕ) (state : Disk) where
  abbrev pub moved_dir : Named ℕ
  moved_dir = operated (Move (Temp m) Current) (directory_read state)

  pub dir_behind : (count : ℕ) → (operated_all (take count (renamed m state).waiting) state.firm ≡ operated_all (take count state.waiting) state.firm)
      ⊎ (operated_all (take count (renamed m state).waiting) state.firm ≡ moved_dir)
  dir_behind count =
      ⊎_elim (λ same. inl (ap (λ (ops : List Operation). operated_all ops state.firm) same))
      (λ all. inr (ap (λ (ops : List Operation). operated_all ops state.firm) all ∙ operated_all-append state.waiting (Move (Temp m) Current ∷ []) state.firm))
      (taken_more count state.waiting (Move (Temp m) Current))

  read_whole : (name : FileName) → file_behind (length state.waiting) name state ≡ file_of name state
  read_whole name = ap (λ (ops : List Operation). find name (operated_all ops state.firm)) (take-length state.waiting)

  -- a name but CURRENT that is found then was found before
  pub found_before : (count file : ℕ) (name : FileName) → name_eq Current name ≡ false → (name_eq (Temp m) name ≡ false) → file_behind count name (renamed m state) ≡ Some file
      → (before : ℕ) × (file_behind before name state ≡ Some file)
  found_before count file name differs apart is =
      ⊎_elim (λ same. (count, subst (λ d. find name d ≡ Some file) same is))
      (λ all. (length state.waiting, read_whole name ∙ (sym (find-moved name (Temp m) Current (directory_read state) apart differs) ∙ subst (λ d. find name d ≡ Some file) all is)))
      (dir_behind count)

  module _ (file : ℕ) (there : file_of (Temp m) state ≡ Some file) where
    pub current_moved : find Current moved_dir ≡ Some file
    current_moved = ap (λ (f : Option ℕ). find Current (linked_found Current f (unlinked (Temp m) (directory_read state)))) there

    pub current_of_read : file_of Current (renamed m state) ≡ Some file
    current_of_read = ap (find Current) (operated_all-append state.waiting (Move (Temp m) Current ∷ []) state.firm) ∙ current_moved
