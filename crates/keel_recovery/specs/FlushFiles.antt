-- The table that a flush makes, and what each call leaves of it and of what is kept.
use Rattle.std.specs.Prelude.{◌≡◌, ℕ, ◌+◌, ◌<◌, ◌≤◌, List, [], ◌++◌, length, take, Some}
use Rattle.std.specs.List.{AllByRecursion}
use Rattle.keel_base.specs.declared.file_name.FileName.{FileName}
use Rattle.keel_base.specs.declared.file_name.FileName.TheVariants.{Log, Table, Manifest}
use Rattle.keel_disk.specs.declared.change.Change.{Change}
use Rattle.keel_disk.specs.declared.change.Change.TheVariants.{Create, Append, Sync, SyncDir}
use Rattle.keel_disk.specs.Sound.{IsOneToOne}
use Rattle.keel_disk.specs.State.{State, file_at}
use Rattle.keel_disk.specs.Step.{DiskStep}
use Rattle.keel_disk.specs.Steady.{CutsExist, IsGoing, IsHeld, IsPresent, IsSteady, file_behind}
use Rattle.keel_directory.specs.TableFiles.{TableFile}
use Rattle.keel_edit.specs.declared.edit.Added.{Added}
use Rattle.keel_machine.specs.States.{Story}
use Rattle.keel_version.specs.Tables.{Contents, nothing}
use Rattle.keel_recovery.specs.Calls.{Answer, ByAnswer, CanGrow, IsNewLog}
use Rattle.keel_recovery.specs.Chains.{Chained, IsWholeLog}
use Rattle.keel_recovery.specs.Keeping.{Keeps}
use Rattle.keel_recovery.specs.Roots.{Way, IsOneWay, version_behind}

-- ---- the table

-- whatever operations are done, no other name has this file
abbrev pub IsAlone : FileName → ℕ → State → Type 0
IsAlone name file state = (count : ℕ) (other : FileName) → file_behind count other state ≡ Some file → other ≡ name

-- it has these bytes so far, and no call on it failed
pub record IsBegun (number : ℕ) (bytes : List ℕ) (state : State) : Type 0 where
  pub file : ℕ
  pub present : IsPresent (Table number) file state
  pub alone : IsAlone (Table number) file state
  pub meant : (file_at file state.files).meant ≡ bytes
  pub going : IsGoing (file_at file state.files)

-- it is firm in whole, though its name may not be
pub record IsWhole (number : ℕ) (bytes : List ℕ) (state : State) : Type 0 where
  pub file : ℕ
  pub present : IsPresent (Table number) file state
  pub held : IsHeld (file_at file state.files) bytes

-- its name is, too
pub record IsFast (number : ℕ) (bytes : List ℕ) (state : State) : Type 0 where
  pub file : ℕ
  pub steady : IsSteady (Table number) file state
  pub held : IsHeld (file_at file state.files) bytes

-- every version that a crash may leave has tables below that number, and so have the levels
pub record AreTablesBelow (ways : List Way) (levels : List TableFile) (number : ℕ) : Type 0 where
  pub versions :
      (way : Way) (count : ℕ) (version : Contents) → IsOneWay ways way → way.firm ≤ count → count ≤ length way.edits
      → version_behind nothing (take count way.edits) ≡ Some version → AllByRecursion (λ (table : Added). table.number < number) version.tables
  pub live : AllByRecursion (λ (table : TableFile). table.entry.number < number) levels

-- ---- its calls

-- all tables so far are numbered below the next file
abbrev pub TablesAreBelow : Type 0
TablesAreBelow =
    (ways : List Way) (place next_file : ℕ) (logs : List Chained) (levels : List TableFile) (story : Story) (state : State)
    → Keeps ways place logs levels story next_file state → AreTablesBelow ways levels next_file

-- Making the table of the next number keeps all, whatever is answered; the number is used up.
abbrev pub TableCreateKeeps : Type 0
TableCreateKeeps =
    (ways : List Way) (place next_file : ℕ) (logs : List Chained) (levels : List TableFile) (story : Story) (answer : Answer) (state after : State)
    → IsOneToOne state → CutsExist state → Keeps ways place logs levels story next_file state → DiskStep state (Create (Table next_file)) answer after
    → ByAnswer answer
    (Keeps ways place logs levels story (next_file + 1) after × IsBegun next_file [] after)
    (Keeps ways place logs levels story (next_file + 1) after) (after ≡ state)

-- appending a piece
abbrev pub TableAppendKeeps : Type 0
TableAppendKeeps =
    (ways : List Way) (place next_file number : ℕ) (logs : List Chained) (levels : List TableFile) (story : Story) (given piece : List ℕ) (answer : Answer) (state after : State)
    → IsOneToOne state → Keeps ways place logs levels story next_file state → AreTablesBelow ways levels number → IsBegun number given state
    → DiskStep state (Append (Table number) piece) answer after
    → ByAnswer answer
    (Keeps ways place logs levels story next_file after × IsBegun number (given ++ piece) after)
    (Keeps ways place logs levels story next_file after) (after ≡ state)

-- behind its sync it is firm in whole
abbrev pub TableSyncKeeps : Type 0
TableSyncKeeps =
    (ways : List Way) (place next_file number : ℕ) (logs : List Chained) (levels : List TableFile) (story : Story) (bytes : List ℕ) (answer : Answer) (state after : State)
    → IsOneToOne state → Keeps ways place logs levels story next_file state → AreTablesBelow ways levels number → IsBegun number bytes state
    → DiskStep state (Sync (Table number)) answer after
    → ByAnswer answer
    (Keeps ways place logs levels story next_file after × IsWhole number bytes after)
    (Keeps ways place logs levels story next_file after) (after ≡ state)

-- and behind the sync of the directory its name is
abbrev pub TableNameKeeps : Type 0
TableNameKeeps =
    (ways : List Way) (place next_file number : ℕ) (logs : List Chained) (levels : List TableFile) (story : Story) (bytes : List ℕ) (answer : Answer) (state after : State)
    → IsOneToOne state → Keeps ways place logs levels story next_file state → IsWhole number bytes state
    → DiskStep state SyncDir answer after
    → ByAnswer answer
    (Keeps ways place logs levels story next_file after × IsFast number bytes after)
    (Keeps ways place logs levels story next_file after) (after ≡ state)

-- ---- what isn't about it

-- a call of a group, or of an edit: it isn't about a table, and nothing gets another name
abbrev pub IsOfNoTable : Change → Type 0
IsOfNoTable (Create (Log number)) = Unit {0}
IsOfNoTable (Append (Log number) bytes) = Unit {0}
IsOfNoTable (Sync (Log number)) = Unit {0}
IsOfNoTable (Append (Manifest number) bytes) = Unit {0}
IsOfNoTable (Sync (Manifest number)) = Unit {0}
IsOfNoTable SyncDir = Unit {0}
IsOfNoTable _ = ⊥

-- the table stays as far as it has come
pub record TableStays : Type 0 where
  pub begun : (number : ℕ) (bytes : List ℕ) (change : Change) (answer : Answer) (state after : State)
      → IsOneToOne state → IsOfNoTable change → DiskStep state change answer after → IsBegun number bytes state → IsBegun number bytes after
  pub whole : (number : ℕ) (bytes : List ℕ) (change : Change) (answer : Answer) (state after : State)
      → IsOneToOne state → IsOfNoTable change → DiskStep state change answer after → IsWhole number bytes state → IsWhole number bytes after
  pub fast : (number : ℕ) (bytes : List ℕ) (change : Change) (answer : Answer) (state after : State)
      → IsOneToOne state → IsOfNoTable change → DiskStep state change answer after → IsFast number bytes state → IsFast number bytes after

-- a call of a flush: it isn't about a log
abbrev pub IsOfNoLog : Change → Type 0
IsOfNoLog (Create (Table number)) = Unit {0}
IsOfNoLog (Append (Table number) bytes) = Unit {0}
IsOfNoLog (Sync (Table number)) = Unit {0}
IsOfNoLog (Append (Manifest number) bytes) = Unit {0}
IsOfNoLog (Sync (Manifest number)) = Unit {0}
IsOfNoLog SyncDir = Unit {0}
IsOfNoLog _ = ⊥

-- the logs stay as far as they have come
pub record LogsStay : Type 0 where
  pub grows : (front : List Chained) (log : Chained) (size : ℕ) (change : Change) (answer : Answer) (state after : State)
      → IsOneToOne state → IsOfNoLog change → DiskStep state change answer after → CanGrow front log size state → CanGrow front log size after
  pub new : (number : ℕ) (change : Change) (answer : Answer) (state after : State)
      → IsOneToOne state → IsOfNoLog change → DiskStep state change answer after → IsNewLog number state → IsNewLog number after
  pub whole : (log : Chained) (change : Change) (answer : Answer) (state after : State)
      → IsOneToOne state → IsOfNoLog change → DiskStep state change answer after → IsWholeLog log state → IsWholeLog log after
