-- A device behind calls on what was made since a job began, as long as CURRENT isn't moved.
use Rattle.std.proofs.Common.{◌≡◌, ◌⊎◌, ℕ, zero, suc, ◌+◌, ◌≤◌, ◌<◌, true, false, List, [], ◌∷◌, ◌++◌, length, take, drop, Option, Some, None, Result, Ok, refl, sym, ap, subst, ◌∙◌, inl, inr, arith, ⊎_elim, eqb-true, eq-eqb, nat_eq, get_or-set_other}
use Rattle.std.specs.List.{AllByRecursion}
use Rattle.std.proofs.lemmas.List.{length-append, take-append-le, take-set-le, length-set}
use Rattle.std.proofs.Math.Seq.{take-length}
use Rattle.std.proofs.Math.ListN.{get_or-eq_default}
use Rattle.keel_disk.specs.Steady.{IsHeld}
use Rattle.keel_disk.proofs.Steadily.{steady_read, steady_stays}
use Rattle.keel_base.specs.declared.file_name.FileName.{FileName}
use Rattle.keel_base.specs.declared.file_name.FileName.TheVariants.{Current, Log, Table, Trash}
use Rattle.keel_base.specs.Name.{name_eq}
use Rattle.keel_base.proofs.Names.{name_eq-true}
use Rattle.keel_disk.specs.declared.change.Change.{Change}
use Rattle.keel_disk.specs.declared.change.Change.TheVariants.{Create}
use Rattle.keel_disk.specs.declared.error.DiskError.{DiskError}
use Rattle.keel_disk.specs.declared.state.File.{File}
use Rattle.keel_disk.specs.declared.state.Operation.{Operation}
use Rattle.keel_disk.specs.declared.state.Operation.TheVariants.{Link}
use Rattle.keel_disk.specs.Directory.{Named, find, linked, operated_all}
use Rattle.keel_disk.specs.State.{State, file_at, new_file, file_of, settled_through, directory_read}
use Rattle.keel_disk.specs.Step.{DiskStep, created, with_file}
use Rattle.keel_disk.specs.Steady.{AllRead, IsApart, file_behind}
use Rattle.keel_disk.specs.Sound.{IsOneToOne}
use Rattle.keel_disk.proofs.Operating.{cut-append, find-linked_other, file_at-created, read-settled}
use Rattle.keel_disk.proofs.Directories.{find-linked, operated_all-append}
use Rattle.keel_directory.specs.TableFiles.{TableFile}
use Rattle.keel_machine.specs.Opening.{tables_in}
use Rattle.keel_machine.specs.States.{Story}
use Rattle.keel_open.specs.NextFiles.{number_in}
use Rattle.keel_machine.specs.Resuming.{cleared_story}
use Rattle.keel_recovery.specs.Booting.{below, IsMovedIn, IsOldIn, IsOldTable, IsRoll, IsBooting}
use Rattle.keel_recovery.specs.BootCalls.{IsUnmoved}
use Rattle.keel_recovery.proofs.BootNames.{dropped_uncut, linked_below, none_below}
use Rattle.keel_recovery.proofs.BootStands.{same_files}
use Rattle.keel_recovery.proofs.Listing.{listed_stays, settled_listed}
use Rattle.keel_disk.proofs.Settling.{settled_twice}

nothing_left : (count : ℕ) → take {A = Operation} count [] ≡ []
nothing_left zero = refl
nothing_left (suc count) = refl

pub all_append : {A : Type 0} (P : A → Type 0) (xs ys : List A) → AllByRecursion P xs → AllByRecursion P ys → AllByRecursion P (xs ++ ys)
all_append P [] ys all more = more
all_append P (x ∷ xs) ys all more = (all.0, all_append P xs ys all.1 more)

pub all_dropped : {A : Type 0} (P : A → Type 0) (count : ℕ) (xs : List A) → AllByRecursion P xs → AllByRecursion P (drop count xs)
all_dropped P zero xs all = all
all_dropped P (suc count) [] all = tt
all_dropped P (suc count) (x ∷ xs) all = all_dropped P count xs all.1

apart : {P : Type 0} → true ≡ false → P
apart e = cc

-- an older table stays behind a call that isn't about it
pub old_table_stays : (bound : ℕ) (table : TableFile) (change : Change) (answer : Result (Unit {0}) DiskError) (state after : State) → IsOneToOne state → IsApart (Table table.entry.number) change → DiskStep state change answer after
    → IsOldTable bound state table → IsOldTable bound after table
old_table_stays bound table change answer state after one apart step is =
    let stays = steady_stays (Table table.entry.number) is.file change answer state after one apart is.steady step in
    record { file = is.file; steady = stays.0; old = is.old; held = subst (λ (f : File). IsHeld f table.bytes) (sym stays.1) is.held; opens = is.opens }

pub old_tables_stay : (bound : ℕ) (change : Change) (answer : Result (Unit {0}) DiskError) (state after : State) → IsOneToOne state → ((n : ℕ) → IsApart (Table n) change) → DiskStep state change answer after
    → (tables : List TableFile) → AllByRecursion (IsOldTable bound state) tables → AllByRecursion (IsOldTable bound after) tables
old_tables_stay bound change answer state after one apart step [] are = tt
old_tables_stay bound change answer state after one apart step (table ∷ tables) are =
    (old_table_stays bound table change answer state after one (apart table.entry.number) step are.0, old_tables_stay bound change answer state after one apart step tables are.1)

-- ---- a name is made

-- the first operations of one more than there were: as many of those as before, or all of them
pub taken_more : (count : ℕ) (waiting : List Operation) (operation : Operation) → (take count (waiting ++ operation ∷ []) ≡ take count waiting) ⊎ (take count (waiting ++ operation ∷ []) ≡ waiting ++ operation ∷ [])
taken_more zero waiting operation = inl refl
taken_more (suc count) [] operation = inr (ap (λ (l : List Operation). operation ∷ l) (nothing_left count))
taken_more (suc count) (first ∷ waiting) operation =
    ⊎_elim (λ same. inl (ap (λ (l : List Operation). first ∷ l) same)) (λ all. inr (ap (λ (l : List Operation). first ∷ l) all)) (taken_more count waiting operation)

module _ (name : FileName) (state : State) where
  abbrev pub new_dir : Named ℕ
  new_dir = linked name (length state.files) (directory_read state)

  -- a directory behind the creation is one from before, or has the new name beside all that is read
  created_dir : (count : ℕ) → (operated_all (take count (created name state).waiting) state.firm ≡ operated_all (take count state.waiting) state.firm)
      ⊎ (operated_all (take count (created name state).waiting) state.firm ≡ new_dir)
  created_dir count =
      ⊎_elim (λ same. inl (ap (λ (ops : List Operation). operated_all ops state.firm) same))
      (λ all. inr (ap (λ (ops : List Operation). operated_all ops state.firm) all ∙ operated_all-append state.waiting (Link name (length state.files) ∷ []) state.firm))
      (taken_more count state.waiting (Link name (length state.files)))

  in_new : (file : ℕ) (other : FileName) → find other new_dir ≡ Some file → ((before : ℕ) × (file_behind before other state ≡ Some file)) ⊎ ((other ≡ name) × (file ≡ length state.files))
  in_new file other is =
      elim (name_eq name other) as (λ b. name_eq name other ≡ b → ((before : ℕ) × (file_behind before other state ≡ Some file)) ⊎ ((other ≡ name) × (file ≡ length state.files))) [
        | true ↦ λ same.
            let one : other ≡ name = sym (name_eq-true name other same) in
            let found : Some file ≡ Some (length state.files) = sym is ∙ (ap (λ n. find n new_dir) one ∙ find-linked name (length state.files) (directory_read state)) in
            inr (one, cc found)
        | false ↦ λ apart. inl (
          length state.waiting,
          ap (λ (ops : List Operation). find other (operated_all ops state.firm)) (take-length state.waiting)
              ∙ (sym (find-linked_other other name (length state.files) (directory_read state) apart) ∙ is),
        )
      ] refl

  -- a name that is found then was found before, or is the new one
  pub created_found : (count file : ℕ) (other : FileName) → file_behind count other (created name state) ≡ Some file
      → ((before : ℕ) × (file_behind before other state ≡ Some file)) ⊎ ((other ≡ name) × (file ≡ length state.files))
  created_found count file other is =
      ⊎_elim (λ same. inl (count, subst (λ d. find other d ≡ Some file) same is))
      (λ all. in_new file other (subst (λ d. find other d ≡ Some file) all is))
      (created_dir count)

-- Behind a creation.
module _ (bound : ℕ) (old : State) (levels : List TableFile) (story : Story) (next_file next : ℕ) (name : FileName) (state : State) (one : IsOneToOne state) (booting : IsBooting bound old levels story next_file state) (unmoved : IsUnmoved bound state)
    (fresh : (count file : ℕ) → file_behind count name state ≡ Some file → ⊥) (not_current : name ≡ Current → ⊥) (not_trash : (n : ℕ) → name ≡ Trash n → ⊥)
    (no_table : (before : ℕ) → file_behind before Current old ≡ None → (n : ℕ) → name ≡ Table n → ⊥) (more : next_file ≤ next) (numbered : number_in name < next) (read : AllRead (created name state)) where
  first_same : take bound (state.files ++ new_file ∷ []) ≡ take bound state.files
  first_same = take-append-le bound state.files (new_file ∷ []) booting.within

  pub created_unmoved : IsUnmoved bound (created name state)
  created_unmoved count current is newer =
      ⊎_elim (λ before. unmoved before.0 current before.1 newer) (λ new. not_current (sym new.0)) (created_found name state count current Current is)

  no_file : (found : Option ℕ) → find name (directory_read state) ≡ found → find name (directory_read state) ≡ None
  no_file None is = is
  no_file (Some file) is = absurd (fresh (length state.waiting) file (ap (λ (ops : List Operation). find name (operated_all ops state.firm)) (take-length state.waiting) ∙ is))

  -- there was no file of the new one's number
  beyond : (file : ℕ) → file ≡ length state.files → file_at file state.files ≡ new_file
  beyond file is = get_or-eq_default state.files new_file (omega (arith, is))

  absent_old : find name (below bound (directory_read state)) ≡ None
  absent_old = none_below bound name (directory_read state) (no_file (find name (directory_read state)) refl)

  old_names : below bound (new_dir name state) ≡ below bound (directory_read state)
  old_names = linked_below bound name (length state.files) (directory_read state) booting.within absent_old

  other_name : name_eq name Current ≡ false
  other_name = elim (name_eq name Current) as (λ b. name_eq name Current ≡ b → b ≡ false) [
    | true ↦ λ same. absurd (not_current (name_eq-true name Current same))
    | false ↦ λ apart. refl
  ] refl

  moved_still : IsMovedIn bound (directory_read state) → IsMovedIn bound (new_dir name state)
  moved_still moved = record {
    file = moved.file;
    current = find-linked_other Current name (length state.files) (directory_read state) other_name ∙ moved.current;
    newer = moved.newer;
  }

  shows_new : IsMovedIn bound (new_dir name state) ⊎ IsOldIn bound old (new_dir name state)
  shows_new = ⊎_elim (λ moved. inl (moved_still moved)) (λ same. inr (record {
    before = length old.waiting;
    same = old_names ∙ (same ∙ sym (ap (λ (ops : List Operation). operated_all ops old.firm) (take-length old.waiting)));
  })) booting.shows_read

  shows_after : (count : ℕ) → IsMovedIn bound (settled_through count (created name state)).firm ⊎ IsOldIn bound old (settled_through count (created name state)).firm
  shows_after count =
      ⊎_elim (λ same. subst (λ (d : Named ℕ). IsMovedIn bound d ⊎ IsOldIn bound old d) (sym same) (booting.shows count))
      (λ new. subst (λ (d : Named ℕ). IsMovedIn bound d ⊎ IsOldIn bound old d) (sym new) shows_new) (created_dir name state count)

  read_new : directory_read (created name state) ≡ new_dir name state
  read_new = operated_all-append state.waiting (Link name (length state.files) ∷ []) state.firm

  -- what has another name stays
  apart_from : (other : FileName) (file : ℕ) → file_of other state ≡ Some file → name_eq name other ≡ false
  apart_from other file is =
      elim (name_eq name other) as (λ b. name_eq name other ≡ b → b ≡ false) [
        | true ↦ λ same. absurd (fresh (length state.waiting) file (ap (λ (ops : List Operation). find name (operated_all ops state.firm)) (take-length state.waiting) ∙ (ap (λ n. file_of n state) (name_eq-true name other same) ∙ is)))
        | false ↦ λ apart. refl
      ] refl

  table_after : (table : TableFile) → IsOldTable bound state table → IsOldTable bound (created name state) table
  table_after table is =
      let apart = apart_from (Table table.entry.number) is.file (steady_read (Table table.entry.number) is.file state is.steady) in
      old_table_stays bound table (Create name) (Ok tt) state (created name state) one apart refl is

  tables_after : (tables : List TableFile) → AllByRecursion (IsOldTable bound state) tables → AllByRecursion (IsOldTable bound (created name state)) tables
  tables_after [] are = tt
  tables_after (table ∷ tables) are = (table_after table are.0, tables_after tables are.1)

  pub kept_created : IsBooting bound old levels story next (created name state)
  kept_created = record {
    within = omega (arith, booting.within, length-append state.files (new_file ∷ []));
    first = booting.first ∙ sym first_same;
    stands = booting.stands;
    old_uncut = booting.old_uncut;
    uncut = λ file. cut-append file state.waiting (Link name (length state.files) ∷ []) (booting.uncut file) refl;
    shows = shows_after;
    shows_read = ⊎_elim (λ moved. inl (subst (IsMovedIn bound) (sym read_new) (moved_still moved))) (λ same. inr (ap (below bound) read_new ∙ (old_names ∙ same))) booting.shows_read;
    no_table = λ before none count n file is newer. ⊎_elim (λ was. booting.no_table before none was.0 n file was.1 newer) (λ new. no_table before none n (sym new.0)) (created_found name state count file (Table n) is);
    no_trash = λ count n file is newer. ⊎_elim (λ before. booting.no_trash before.0 n file before.1 newer) (λ new. not_trash n (sym new.0)) (created_found name state count file (Trash n) is);
    logs_empty = λ count n file is newer.
        ⊎_elim (λ before. ap (λ (f : File). f.meant) (file_at-created file state.files) ∙ booting.logs_empty before.0 n file before.1 newer)
        (λ new. ap (λ (f : File). f.meant) (file_at-created file state.files ∙ beyond file new.1)) (created_found name state count file (Log n) is);
    rolls = λ count current is newer. absurd (created_unmoved count current is newer);
    tables = tables_after levels booting.tables;
    drawn = λ count file other is. ⊎_elim (λ before. omega (arith, more, booting.drawn before.0 file other before.1)) (λ new. subst (λ n. number_in n < next) (sym new.0) numbered) (created_found name state count file other is);
    read = read;
    listed = listed_stays (Create name) (Ok tt) state (created name state) tt booting.listed refl;
    read_within = booting.read_within;
    read_steady = λ reading is. tables_after (tables_in reading) (booting.read_steady reading is);
  }

-- ---- a file that was made since is changed

module _ (bound : ℕ) (old : State) (levels : List TableFile) (story : Story) (next_file number : ℕ) (change : File → File) (state : State) (booting : IsBooting bound old levels story next_file state)
    (newer_file : bound ≤ number) (stays_empty : (count n : ℕ) → file_behind count (Log n) state ≡ Some number → (file_at number state.files).meant ≡ [] → (file_at number (with_file number change state).files).meant ≡ [])
    (read : AllRead (with_file number change state)) where
  changed_same : take bound (with_file number change state).files ≡ take bound state.files
  changed_same = take-set-le bound state.files number (change (file_at number state.files)) newer_file

  other_same : (file : ℕ) → (number ≡ file → ⊥) → file_at file (with_file number change state).files ≡ file_at file state.files
  other_same file differs = get_or-set_other state.files number file (change (file_at number state.files)) new_file (λ same. differs (sym same))

  log_after : (count n file : ℕ) → file_behind count (Log n) state ≡ Some file → bound ≤ file → (file_at file (with_file number change state).files).meant ≡ []
  log_after count n file is newer =
      elim (nat_eq number file) as (λ b. nat_eq number file ≡ b → (file_at file (with_file number change state).files).meant ≡ []) [
        | true ↦ λ same.
            let one : number ≡ file = eqb-true number file same in
            subst (λ f. (file_at f (with_file number change state).files).meant ≡ []) one
            (stays_empty count n (subst (λ f. file_behind count (Log n) state ≡ Some f) (sym one) is) (subst (λ f. (file_at f state.files).meant ≡ []) (sym one) (booting.logs_empty count n file is newer)))
        | false ↦ λ differs. ap (λ (f : File). f.meant) (other_same file (λ same. apart (sym (eq-eqb number file same) ∙ differs))) ∙ booting.logs_empty count n file is newer
      ] refl

  unchanged : (table : TableFile) → IsOldTable bound state table → IsOldTable bound (with_file number change state) table
  unchanged table is = record {
    file = is.file;
    steady = record { named = is.steady.named; not_cut = is.steady.not_cut };
    old = is.old;
    held = subst (λ (f : File). IsHeld f table.bytes) (sym (other_same is.file (λ same. omega (arith, same, newer_file, is.old)))) is.held;
    opens = is.opens;
  }

  all_unchanged : (tables : List TableFile) → AllByRecursion (IsOldTable bound state) tables → AllByRecursion (IsOldTable bound (with_file number change state)) tables
  all_unchanged [] are = tt
  all_unchanged (table ∷ tables) are = (unchanged table are.0, all_unchanged tables are.1)

  pub kept_changed : IsUnmoved bound state → IsBooting bound old levels story next_file (with_file number change state)
  kept_changed unmoved = record {
    within = omega (arith, booting.within, length-set state.files number (change (file_at number state.files)));
    first = booting.first ∙ sym changed_same;
    stands = booting.stands;
    old_uncut = booting.old_uncut;
    uncut = booting.uncut;
    shows = booting.shows;
    shows_read = booting.shows_read;
    no_table = booting.no_table;
    no_trash = booting.no_trash;
    logs_empty = log_after;
    rolls = λ count current is newer. absurd (unmoved count current is newer);
    tables = all_unchanged levels booting.tables;
    drawn = booting.drawn;
    read = read;
    listed = booting.listed;
    read_within = booting.read_within;
    read_steady = λ reading is. all_unchanged (tables_in reading) (booting.read_steady reading is);
  }

-- ---- some operations get firm

module _ (bound : ℕ) (old : State) (levels : List TableFile) (story : Story) (next_file kept : ℕ) (state : State) (one : IsOneToOne state) (booting : IsBooting bound old levels story next_file state)
    (read : AllRead (settled_through kept state)) (tables : (found : List TableFile) → AllByRecursion (IsOldTable bound state) found → AllByRecursion (IsOldTable bound (settled_through kept state)) found)
    (rolls : (count current : ℕ) → file_behind count Current (settled_through kept state) ≡ Some current → bound ≤ current → IsRoll count (cleared_story story) next_file (settled_through kept state)) where
  settled_files : (settled_through kept state).files ≡ state.files
  settled_files = same_files bound old levels story next_file state one booting kept

  later : (count : ℕ) (name : FileName) → file_behind count name (settled_through kept state) ≡ file_behind (kept + count) name state
  later count name = ap (λ (s : State). find name s.firm) (settled_twice kept count state)

  pub settled_unmoved : IsUnmoved bound state → IsUnmoved bound (settled_through kept state)
  settled_unmoved unmoved count current is newer = unmoved (kept + count) current (sym (later count Current) ∙ is) newer

  read_same : directory_read (settled_through kept state) ≡ directory_read state
  read_same = read-settled kept state

  pub kept_settled : IsBooting bound old levels story next_file (settled_through kept state)
  kept_settled = record {
    within = subst (λ (files : List File). bound ≤ length files) (sym settled_files) booting.within;
    first = booting.first ∙ ap (take bound) (sym settled_files);
    stands = booting.stands;
    old_uncut = booting.old_uncut;
    uncut = dropped_uncut kept state.waiting booting.uncut;
    shows = λ count. subst (λ (s : State). IsMovedIn bound s.firm ⊎ IsOldIn bound old s.firm) (sym (settled_twice kept count state)) (booting.shows (kept + count));
    shows_read = subst (λ (d : Named ℕ). IsMovedIn bound d ⊎ (below bound d ≡ directory_read old)) (sym read_same) booting.shows_read;
    no_table = λ before none count n file is newer. booting.no_table before none (kept + count) n file (sym (later count (Table n)) ∙ is) newer;
    no_trash = λ count n file is newer. booting.no_trash (kept + count) n file (sym (later count (Trash n)) ∙ is) newer;
    logs_empty = λ count n file is newer. ap (λ (files : List File). (file_at file files).meant) settled_files ∙ booting.logs_empty (kept + count) n file (sym (later count (Log n)) ∙ is) newer;
    rolls = rolls;
    tables = tables levels booting.tables;
    drawn = λ count file name is. booting.drawn (kept + count) file name (sym (later count name) ∙ is);
    read = read;
    listed = settled_listed kept state booting.listed;
    read_within = booting.read_within;
    read_steady = λ reading is. tables (tables_in reading) (booting.read_steady reading is);
  }
