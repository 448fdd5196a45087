-- The turn of a boot that moves its temporary file to CURRENT.
use Rattle.std.proofs.Common.{◌≡◌, ◌⊎◌, ℕ, ◌≤◌, ◌<◌, true, false, List, [], ◌∷◌, length, Option, Some, None, refl, sym, ap, subst, ◌∙◌, inl, arith, ⊎_elim}
use Rattle.std.proofs.Math.Seq.{take-length}
use Rattle.keel_base.specs.declared.file_name.FileName.{FileName}
use Rattle.keel_base.specs.declared.file_name.FileName.TheVariants.{Current, Log, Table, Trash, Manifest, Temp}
use Rattle.keel_base.specs.Name.{name_eq}
use Rattle.keel_disk.specs.declared.change.Change.TheVariants.{Rename}
use Rattle.keel_disk.specs.declared.state.Operation.{Operation}
use Rattle.keel_disk.specs.declared.state.Operation.TheVariants.{Move}
use Rattle.keel_disk.specs.Directory.{Named, find, linked_found, operated_all, unlinked}
use Rattle.keel_disk.specs.State.{State as Disk, directory_read, file_of, settled_through}
use Rattle.keel_disk.specs.Step.{DiskStep}
use Rattle.keel_disk.specs.Steady.{AllRead, file_behind}
use Rattle.keel_disk.specs.Sound.{IsOneToOne}
use Rattle.keel_disk.proofs.Meaning.{all_read_stays}
use Rattle.keel_disk.proofs.Operating.{cut-append, find-linked_other, find-moved}
use Rattle.keel_disk.proofs.Directories.{operated_all-append}
use Rattle.keel_disk.proofs.Owning.{find-unlinked_same}
use Rattle.keel_base.proofs.Names.{name_eq-true}
use Rattle.keel_directory.specs.TableFiles.{TableFile}
use Rattle.keel_machine.specs.Outside.{as_answer}
use Rattle.keel_machine.specs.Opening.{tables_in}
use Rattle.keel_machine.specs.States.{Story}
use Rattle.keel_open.specs.NextFiles.{number_in}
use Rattle.keel_machine.specs.Resuming.{cleared_story}
use Rattle.keel_recovery.specs.Booting.{IsBooting, IsMovedIn, IsOldIn, IsRoll}
use Rattle.keel_recovery.specs.BootCalls.{IsUnmoved}
use Rattle.keel_recovery.proofs.BootFrame.{old_tables_stay}
use Rattle.keel_recovery.proofs.Listing.{HasBeside, listed_stays}
use Rattle.keel_recovery.proofs.BootMoving.{renamed, current_moved, moved_dir, dir_behind, found_before}

some_none : {A P : Type 0} (x : A) → Some x ≡ None → P
some_none x e = cc

module _ (bound : ℕ) (old : Disk) (levels : List TableFile) (story : Story) (next_file : ℕ) (state : Disk) (one : IsOneToOne state) (booting : IsBooting bound old levels story next_file state) (unmoved : IsUnmoved bound state)
    (m : ℕ) (held : (file : ℕ) × (file_of (Temp m) state ≡ Some file) × (bound ≤ file)) (manifest : (file : ℕ) × (file_of (Manifest m) state ≡ Some file)) where
  abbrev after : Disk
  after = renamed m state

  pub renamed_step : DiskStep state (Rename (Temp m) Current) (as_answer None) after
  renamed_step = rw held.1 refl

  read_after : AllRead after
  read_after = all_read_stays (Rename (Temp m) Current) (as_answer None) state after one tt booting.read renamed_step

  -- the manifest has the number of the temporary file
  beside : HasBeside (Temp m) Current state
  beside = record { name = Manifest m; file = manifest.0; present = manifest.1; not_from = refl; not_to = refl; over_from = omega arith; over_to = omega arith }

  -- CURRENT is moved in what is read
  moved_there : IsMovedIn bound (moved_dir m state)
  moved_there = record { file = held.0; current = current_moved m state held.0 held.1; newer = held.2 }

  shows_after : (count : ℕ) → IsMovedIn bound (settled_through count after).firm ⊎ IsOldIn bound old (settled_through count after).firm
  shows_after count =
      ⊎_elim (λ same. subst (λ (d : Named ℕ). IsMovedIn bound d ⊎ IsOldIn bound old d) (sym same) (booting.shows count))
      (λ all. inl (subst (IsMovedIn bound) (sym all) moved_there)) (dir_behind m state count)

  temp_before : (file n : ℕ) → find (Temp n) (moved_dir m state) ≡ Some file → number_in (Temp n) < next_file
  temp_before file n is =
      elim (name_eq (Temp m) (Temp n)) as (λ b. name_eq (Temp m) (Temp n) ≡ b → n < next_file) [
        | true ↦ λ same.
            let gone : find (Temp n) (moved_dir m state) ≡ None =
            ap (λ (f : Option ℕ). find (Temp n) (linked_found Current f (unlinked (Temp m) (directory_read state)))) held.1
            ∙ (find-linked_other (Temp n) Current held.0 (unlinked (Temp m) (directory_read state)) refl
            ∙ subst (λ (k : FileName). find k (unlinked (Temp m) (directory_read state)) ≡ None) (name_eq-true (Temp m) (Temp n) same) (find-unlinked_same (Temp m) (directory_read state))) in
            absurd (some_none file (sym is ∙ gone))
        | false ↦ λ apart. booting.drawn (length state.waiting) file (Temp n)
            (ap (λ (ops : List Operation). find (Temp n) (operated_all ops state.firm)) (take-length state.waiting) ∙ (sym (find-moved (Temp n) (Temp m) Current (directory_read state) apart refl) ∙ is))
      ] refl

  -- a temporary file's name that is found then was found before
  temp_drawn : (count file n : ℕ) → file_behind count (Temp n) after ≡ Some file → number_in (Temp n) < next_file
  temp_drawn count file n is =
      ⊎_elim (λ same. booting.drawn count file (Temp n) (subst (λ d. find (Temp n) d ≡ Some file) same is))
      (λ all. temp_before file n (subst (λ d. find (Temp n) d ≡ Some file) all is)) (dir_behind m state count)

  drawn_after : 1 ≤ next_file → (count file : ℕ) (name : FileName) → file_behind count name after ≡ Some file → number_in name < next_file
  drawn_after some count file (Log n) is = let before = found_before m state count file (Log n) refl refl is in booting.drawn before.0 file (Log n) before.1
  drawn_after some count file (Table n) is = let before = found_before m state count file (Table n) refl refl is in booting.drawn before.0 file (Table n) before.1
  drawn_after some count file (Trash n) is = let before = found_before m state count file (Trash n) refl refl is in booting.drawn before.0 file (Trash n) before.1
  drawn_after some count file (Manifest n) is = let before = found_before m state count file (Manifest n) refl refl is in booting.drawn before.0 file (Manifest n) before.1
  drawn_after some count file Current is = omega (arith, some)
  drawn_after some count file (Temp n) is = temp_drawn count file n is

  -- it keeps a boot, where it leads to the story
  pub kept_moved : 1 ≤ next_file → ((count current : ℕ) → file_behind count Current after ≡ Some current → bound ≤ current → IsRoll count (cleared_story story) next_file after) → IsBooting bound old levels story next_file after
  kept_moved some rolls = record {
    within = booting.within;
    first = booting.first;
    stands = booting.stands;
    old_uncut = booting.old_uncut;
    uncut = λ file. cut-append file state.waiting (Move (Temp m) Current ∷ []) (booting.uncut file) refl;
    shows = shows_after;
    shows_read = inl (subst (IsMovedIn bound) (sym (operated_all-append state.waiting (Move (Temp m) Current ∷ []) state.firm)) moved_there);
    no_table = λ before none count n file is newer. let was = found_before m state count file (Table n) refl refl is in booting.no_table before none was.0 n file was.1 newer;
    no_trash = λ count n file is newer. let before = found_before m state count file (Trash n) refl refl is in booting.no_trash before.0 n file before.1 newer;
    logs_empty = λ count n file is newer. let before = found_before m state count file (Log n) refl refl is in booting.logs_empty before.0 n file before.1 newer;
    rolls = rolls;
    tables = old_tables_stay bound (Rename (Temp m) Current) (as_answer None) state after one (λ n. (refl, refl)) renamed_step levels booting.tables;
    drawn = drawn_after some;
    read = read_after;
    listed = listed_stays (Rename (Temp m) Current) (as_answer None) state after beside booting.listed renamed_step;
    read_within = booting.read_within;
    read_steady = λ reading is. old_tables_stay bound (Rename (Temp m) Current) (as_answer None) state after one (λ n. (refl, refl)) renamed_step (tables_in reading) (booting.read_steady reading is);
  }
