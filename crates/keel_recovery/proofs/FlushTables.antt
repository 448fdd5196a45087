-- Calls of a flush that make its table.
use Rattle.std.specs.List.{AllByRecursion}
use Rattle.std.proofs.Common.{◌≡◌, ℕ, ◌+◌, ◌<◌, false, List, [], ◌∷◌, ◌++◌, length, Some, Ok, Err, refl, sym, ap, subst, ◌∙◌, arith, ⊎_elim, get_or-set_other}
use Rattle.keel_base.specs.declared.file_name.FileName.{FileName}
use Rattle.keel_base.specs.declared.file_name.FileName.TheVariants.{Log, Table}
use Rattle.keel_disk.specs.declared.change.Change.{Change}
use Rattle.keel_disk.specs.declared.change.Change.TheVariants.{Create, Append, Sync, SyncDir}
use Rattle.keel_disk.specs.declared.error.DiskError.TheVariants as error
use Rattle.keel_disk.specs.declared.state.File.{File}
use Rattle.keel_disk.specs.Sound.{IsOneToOne}
use Rattle.keel_disk.specs.State.{State, file_at, file_of, new_file}
use Rattle.keel_disk.specs.Step.{DiskStep, created, extended, spoiled, synced, with_file}
use Rattle.keel_disk.specs.Steady.{CutsExist, IsApart, IsGoing, IsHeld, SparesSpoilt}
use Rattle.keel_disk.proofs.Steadily.{AppendLeaves, SyncLeaves, append_leaves, present_firm, sync_leaves}
use Rattle.keel_directory.specs.TableFiles.{TableFile}
use Rattle.keel_edit.specs.declared.edit.Added.{Added}
use Rattle.keel_machine.specs.States.{Story, entries_in}
use Rattle.keel_version.specs.Tables.{Contents}
use Rattle.keel_recovery.specs.Calls.{Answer, ByAnswer}
use Rattle.keel_recovery.specs.Chains.{Chained, OthersEmpty}
use Rattle.keel_recovery.specs.FlushEdits.{IsOfNoManifest}
use Rattle.keel_recovery.specs.FlushFiles.{AreTablesBelow, IsAlone, IsBegun, IsFast, IsOfNoLog, IsWhole, TableAppendKeeps, TableCreateKeeps, TableNameKeeps, TableSyncKeeps, TablesAreBelow}
use Rattle.keel_recovery.specs.Keeping.{Keeps}
use Rattle.keel_recovery.specs.Roots.{AreFirmTables, Way}
use Rattle.keel_recovery.proofs.BootFrame.{created_found}
use Rattle.keel_recovery.proofs.BootSteps.{new_at, new_present, number_new}
use Rattle.keel_recovery.proofs.BootTables.{held_synced, named_changed, table_differs}
use Rattle.keel_recovery.proofs.FlushStays.{logs_apart}
use Rattle.keel_recovery.proofs.Framing.{AllTablesPass, call_keeps, frame_keeps, log_pass}
use Rattle.keel_recovery.proofs.Records.{going_grown}
use Rattle.keel_recovery.proofs.Steering.{PutsAside, alone_differs, apart_pass, append_alone, sync_alone}

-- ---- numbers of tables

pub tables_are_below : TablesAreBelow
tables_are_below ways place next_file logs levels story state h = record {
  versions = λ way count version is least most is_version.
      let root = h.roots way is count least most in
      let same : root.version ≡ version = let e = sym root.is_version ∙ is_version in cc in
      subst (λ (v : Contents). AllByRecursion (λ (table : Added). table.number < next_file) v.tables) same root.drawn;
  live = all levels h.live.firm;
}
  where
    all : (files : List TableFile) → AreFirmTables state (entries_in files) files → AllByRecursion (λ (table : TableFile). table.entry.number < next_file) files
    all [] firm = tt
    all (found ∷ files) firm = (h.drawn 0 firm.0.file (Table found.entry.number) (firm.0.steady.named 0), all files firm.1)

-- tables below a number stay as they are where the call is about none below it
pub below_pass : (ways : List Way) (levels : List TableFile) (number : ℕ) (change : Change) (answer : Answer) (state after : State) → IsOneToOne state → AreTablesBelow ways levels number
    → ((n : ℕ) → n < number → IsApart (Table n) change) → DiskStep state change answer after → AllTablesPass ways levels state after
below_pass ways levels number change answer state after one below apart step = record {
  versions = λ way count version is least most is_version. apart_pass change answer state after one step version.tables (each version.tables (below.versions way count version is least most is_version));
  live = apart_pass change answer state after one step (entries_in levels) (each (entries_in levels) (entries levels below.live));
}
  where
    each : (tables : List Added) → AllByRecursion (λ (table : Added). table.number < number) tables → AllByRecursion (λ (table : Added). IsApart (Table table.number) change) tables
    each [] less = tt
    each (table ∷ tables) less = (apart table.number less.0, each tables less.1)

    entries : (files : List TableFile) → AllByRecursion (λ (table : TableFile). table.entry.number < number) files → AllByRecursion (λ (table : Added). table.number < number) (entries_in files)
    entries [] less = tt
    entries (file ∷ files) less = (less.0, entries files less.1)

-- ---- a table is begun

created_alone : (name : FileName) (state : State) → IsOneToOne state → IsAlone name (length state.files) (created name state)
created_alone name state one = λ count other named.
    ⊎_elim (λ before. absurd (number_new state one before.0 other before.1)) (λ new. new.0) (created_found name state count (length state.files) other named)

begins : (number : ℕ) (state after : State) → IsOneToOne state → CutsExist state → DiskStep {T = Unit {0}} state (Create (Table number)) (Ok tt) after → IsBegun number [] after
begins number state after one cuts step =
    let is : created (Table number) state ≡ after = cc in
    subst (IsBegun number []) is (record {
      file = length state.files;
      present = new_present (Table number) state cuts;
      alone = created_alone (Table number) state one;
      meant = ap (λ (f : File). f.meant) (new_at state);
      going = subst IsGoing (sym (new_at state)) (record { not_spoilt = refl; read = refl });
    })

pub table_create_keeps : TableCreateKeeps
table_create_keeps ways place next_file logs levels story answer state after one cuts h step = by answer step
  where
    kept : (a : Answer) → DiskStep state (Create (Table next_file)) a after → Keeps ways place logs levels story (next_file + 1) after
    kept a s =
        frame_keeps ways place next_file (next_file + 1) logs levels story (Create (Table next_file)) a state after one h tt (logs_apart logs (Create (Table next_file)) tt)
        (below_pass ways levels next_file (Create (Table next_file)) a state after one (tables_are_below ways place next_file logs levels story state h) (λ n less. table_differs n next_file less) s)
        (omega arith) (omega arith) s

    by : (a : Answer) → DiskStep state (Create (Table next_file)) a after
        → ByAnswer a (Keeps ways place logs levels story (next_file + 1) after × IsBegun next_file [] after) (Keeps ways place logs levels story (next_file + 1) after) (after ≡ state)
    by (Ok value) s = (kept (Ok value) s, begins next_file state after one cuts s)
    by (Err (error.Fault fault)) s = kept (Err (error.Fault fault)) s
    by (Err error.OutOfMemory) s = s

-- ---- its file is changed

-- logs have other files
others_alone : (least file number : ℕ) (logs : List Chained) (set : File → File) (state : State) → IsAlone (Table number) file state → OthersEmpty least logs state
    → OthersEmpty least logs (with_file file set state)
others_alone least file number logs set state alone h = λ count n other above none found.
    subst (λ (f : File). f.meant ≡ [])
    (sym (get_or-set_other state.files file other (set (file_at file state.files)) new_file (alone_differs (Table number) file count other (Log n) state alone refl found)))
    (h count n other above none found)

module _ (ways : List Way) (place next_file number : ℕ) (logs : List Chained) (levels : List TableFile) (story : Story) (given : List ℕ) (state : State) (one : IsOneToOne state)
    (h : Keeps ways place logs levels story next_file state) (below : AreTablesBelow ways levels number) (begun : IsBegun number given state) where
  abbrev file : ℕ
  file = begun.file

  abbrev own : File
  own = file_at file state.files

  at_set : (set : File → File) → file_at file (with_file file set state).files ≡ set own
  at_set set = named_changed (Table number) file set state one begun.present.named

  -- no call on it failed
  own_sound : (other : ℕ) → file_of (Table number) state ≡ Some other → (file_at other state.files).spoilt ≡ false
  own_sound other named =
      let same : file ≡ other = let e = sym begun.present.named ∙ named in cc in
      subst (λ (n : ℕ). (file_at n state.files).spoilt ≡ false) same begun.going.not_spoilt

  keeps_set : (set : File → File) (change : Change) (answer : Answer) → IsOfNoManifest change → IsOfNoLog change → PutsAside change state → ((n : ℕ) → n < number → IsApart (Table n) change)
      → SparesSpoilt change state → DiskStep state change answer (with_file file set state) → Keeps ways place logs levels story next_file (with_file file set state)
  keeps_set set change answer no_manifest no_log aside apart spares step =
      let there = with_file file set state in
      call_keeps ways place next_file next_file logs levels story change answer state there one h no_manifest aside (logs_apart logs change no_log)
      (below_pass ways levels number change answer state there one below apart step) (λ least. others_alone least file number logs set state begun.alone)
      (omega arith) (λ count other name found. h.drawn count other name found) spares step

  -- ---- an append

  module _ (piece : List ℕ) where
    append_set : (set : File → File) (answer : Answer) → DiskStep state (Append (Table number) piece) answer (with_file file set state)
        → Keeps ways place logs levels story next_file (with_file file set state)
    append_set set answer step =
        keeps_set set (Append (Table number) piece) answer tt tt (append_alone (Table number) file piece state begun.alone begun.present.named) (λ n less. table_differs n number less) own_sound step

    longer : IsBegun number (given ++ piece) (with_file file (extended piece (length piece)) state)
    longer = record {
      file = file;
      present = record { named = begun.present.named; not_cut = begun.present.not_cut };
      alone = λ count other named. begun.alone count other named;
      meant = ap (λ (f : File). f.meant) (at_set (extended piece (length piece))) ∙ ap (λ (m : List ℕ). m ++ piece) begun.meant;
      going = subst IsGoing (sym (at_set (extended piece (length piece)))) (going_grown piece own begun.going);
    }

    pub append_keeps : (answer : Answer) (after : State) → DiskStep state (Append (Table number) piece) answer after
        → ByAnswer answer (Keeps ways place logs levels story next_file after × IsBegun number (given ++ piece) after) (Keeps ways place logs levels story next_file after) (after ≡ state)
    append_keeps answer after step = by answer step (append_leaves (Table number) file piece answer state after begun.present step)
      where
        by : (a : Answer) → DiskStep state (Append (Table number) piece) a after → AppendLeaves file piece state a after
            → ByAnswer a (Keeps ways place logs levels story next_file after × IsBegun number (given ++ piece) after) (Keeps ways place logs levels story next_file after) (after ≡ state)
        by (Ok value) s is =
            let s_there = subst (DiskStep state (Append (Table number) piece) (Ok value)) is s in
            subst (λ (s : State). Keeps ways place logs levels story next_file s × IsBegun number (given ++ piece) s) (sym is) (append_set (extended piece (length piece)) (Ok value) s_there, longer)
        by (Err (error.Fault fault)) s left =
            let s_there = subst (DiskStep {T = Unit {0}} state (Append (Table number) piece) (Err (error.Fault fault))) left.1 s in
            subst (Keeps ways place logs levels story next_file) (sym left.1) (append_set (λ f. spoiled (extended piece left.0 f)) (Err (error.Fault fault)) s_there)
        by (Err error.OutOfMemory) s is = is

  -- ---- a sync

  sync_set : (set : File → File) (answer : Answer) → DiskStep state (Sync (Table number)) answer (with_file file set state) → Keeps ways place logs levels story next_file (with_file file set state)
  sync_set set answer step = keeps_set set (Sync (Table number)) answer tt tt (sync_alone (Table number) file state begun.alone begun.present.named) (λ n less. table_differs n number less) tt step

  whole : IsWhole number given (with_file file synced state)
  whole = record {
    file = file;
    present = record { named = begun.present.named; not_cut = begun.present.not_cut };
    held = subst (λ (f : File). IsHeld f given) (sym (at_set synced)) (held_synced own given begun.meant begun.going);
  }

  pub sync_keeps : (answer : Answer) (after : State) → DiskStep state (Sync (Table number)) answer after
      → ByAnswer answer (Keeps ways place logs levels story next_file after × IsWhole number given after) (Keeps ways place logs levels story next_file after) (after ≡ state)
  sync_keeps answer after step = by answer step (sync_leaves (Table number) file answer state after begun.present step)
    where
      by : (a : Answer) → DiskStep state (Sync (Table number)) a after → SyncLeaves file state a after
          → ByAnswer a (Keeps ways place logs levels story next_file after × IsWhole number given after) (Keeps ways place logs levels story next_file after) (after ≡ state)
      by (Ok value) s is =
          let s_there = subst (DiskStep state (Sync (Table number)) (Ok value)) is s in
          subst (λ (s : State). Keeps ways place logs levels story next_file s × IsWhole number given s) (sym is) (sync_set synced (Ok value) s_there, whole)
      by (Err (error.Fault fault)) s is =
          let s_there = subst (DiskStep {T = Unit {0}} state (Sync (Table number)) (Err (error.Fault fault))) is s in
          subst (Keeps ways place logs levels story next_file) (sym is) (sync_set spoiled (Err (error.Fault fault)) s_there)
      by (Err error.OutOfMemory) s is = is

pub table_append_keeps : TableAppendKeeps
table_append_keeps ways place next_file number logs levels story given piece answer state after one h below begun step =
    append_keeps ways place next_file number logs levels story given state one h below begun piece answer after step

pub table_sync_keeps : TableSyncKeeps
table_sync_keeps ways place next_file number logs levels story bytes answer state after one h below begun step =
    sync_keeps ways place next_file number logs levels story bytes state one h below begun answer after step

-- ---- its name gets firm

pub table_name_keeps : TableNameKeeps
table_name_keeps ways place next_file number logs levels story bytes answer state after one h whole step = by answer step
  where
    kept : (a : Answer) → DiskStep state SyncDir a after → Keeps ways place logs levels story next_file after
    kept a s =
        frame_keeps ways place next_file next_file logs levels story SyncDir a state after one h tt (logs_apart logs SyncDir tt) (log_pass ways levels SyncDir a state after one tt s) (omega arith) tt s

    by : (a : Answer) → DiskStep state SyncDir a after
        → ByAnswer a (Keeps ways place logs levels story next_file after × IsFast number bytes after) (Keeps ways place logs levels story next_file after) (after ≡ state)
    by (Ok value) s =
        let firm = present_firm (Table number) whole.file state after whole.present s in
        (kept (Ok value) s, record { file = whole.file; steady = firm.steady; held = subst (λ (f : File). IsHeld f bytes) (sym firm.file_same) whole.held })
    by (Err (error.Fault fault)) s = kept (Err (error.Fault fault)) s
    by (Err error.OutOfMemory) s = s
