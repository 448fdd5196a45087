-- Files whatever waiting operations are done.
use Rattle.std.specs.Prelude.{◌≡◌, ℕ, ◌+◌, ◌≤◌, false, List, [], ◌++◌, length, Option, Some, None, Result, Ok}
use Rattle.keel_base.specs.declared.file_name.FileName.{FileName}
use Rattle.keel_base.specs.Name.{name_eq}
use Rattle.keel_disk.specs.declared.change.Change.{Change}
use Rattle.keel_disk.specs.declared.change.Change.TheVariants.{Create, Append, Sync, Rename, Remove, Cut, SyncDir}
use Rattle.keel_disk.specs.declared.error.DiskError.{DiskError}
use Rattle.keel_disk.specs.declared.state.File.{File}
use Rattle.keel_disk.specs.Directory.{Named, find}
use Rattle.keel_disk.specs.State.{State, file_at, settled_through, file_of, has_waiting_cut}
use Rattle.keel_disk.specs.Step.{DiskStep}
use Rattle.keel_disk.specs.Sound.{IsOneToOne, IsAtRest}

-- ---- names

-- the file that a name has behind so many of the waiting operations
abbrev pub file_behind : ℕ → FileName → State → Option ℕ
file_behind count name state = find name (settled_through count state).firm

-- so is the directory, however many are done
abbrev pub Always : (Named ℕ → Type 0) → State → Type 0
Always P state = (count : ℕ) → P (settled_through count state).firm

-- however many are done the name has this file, and no cut of it waits
pub record IsSteady (name : FileName) (file : ℕ) (state : State) : Type 0 where
  pub named : (count : ℕ) → file_behind count name state ≡ Some file
  pub not_cut : has_waiting_cut file state.waiting ≡ false

-- as is read the name has this file, and no cut of it waits
pub record IsPresent (name : FileName) (file : ℕ) (state : State) : Type 0 where
  pub named : file_of name state ≡ Some file
  pub not_cut : has_waiting_cut file state.waiting ≡ false

-- however many are done the name is in no directory
abbrev pub IsAbsent : FileName → State → Type 0
IsAbsent name state = (count : ℕ) → file_behind count name state ≡ None

-- the cuts that wait are of files that there are
abbrev pub CutsExist : State → Type 0
CutsExist state = (file : ℕ) → length state.files ≤ file → has_waiting_cut file state.waiting ≡ false

-- ---- files

-- the file is firm in whole, with these bytes
pub record IsHeld (file : File) (bytes : List ℕ) : Type 0 where
  pub meant : file.meant ≡ bytes
  pub firm : file.firm ≡ length bytes
  pub read : file.read ≡ bytes

-- all of it is firm and read
abbrev pub IsFirmWhole : File → Type 0
IsFirmWhole file = IsHeld file file.meant

-- no call on it failed
pub record IsGoing (file : File) : Type 0 where
  pub not_spoilt : file.spoilt ≡ false
  pub read : file.read ≡ file.meant

-- reads give what was meant, short of what failed appends lost
pub record ReadsAsMeant (file : File) : Type 0 where
  pub unread : List ℕ
  pub read_is : file.meant ≡ file.read ++ unread
  pub firm_read : file.firm ≤ length file.read
  pub whole : file.spoilt ≡ false → unread ≡ []

-- so do those of each file that has a name as is read, where all waiting operations are done
abbrev pub AllRead : State → Type 0
AllRead state =
    (name : FileName) (file : ℕ) → file_of name state ≡ Some file
    → ReadsAsMeant (file_at file (settled_through (length state.waiting) state).files)

-- ---- calls

-- where some first operations are firm, and then some of those that are left, so many together are
abbrev pub SettledTwice : Type 0
SettledTwice = (kept more : ℕ) (state : State) → settled_through more (settled_through kept state) ≡ settled_through (kept + more) state

-- the call isn't about this name
abbrev pub IsApart : FileName → Change → Type 0
IsApart name (Create other) = name_eq other name ≡ false
IsApart name (Append other bytes) = name_eq other name ≡ false
IsApart name (Sync other) = name_eq other name ≡ false
IsApart name (Rename from to) = (name_eq from name ≡ false) × (name_eq to name ≡ false)
IsApart name (Remove other) = name_eq other name ≡ false
IsApart name (Cut other size) = name_eq other name ≡ false
IsApart name SyncDir = Unit {0}

-- a steady name stays so, and its file as it was, behind each answer of a call that isn't about it
abbrev pub SteadyStays : Type 0
SteadyStays =
    (name : FileName) (file : ℕ) (change : Change) (answer : Result (Unit {0}) DiskError) (state after : State)
    → IsOneToOne state → IsApart name change → IsSteady name file state → DiskStep state change answer after
    → IsSteady name file after × (file_at file after.files ≡ file_at file state.files)

-- and a name that is present
abbrev pub PresentStays : Type 0
PresentStays =
    (name : FileName) (file : ℕ) (change : Change) (answer : Result (Unit {0}) DiskError) (state after : State)
    → IsOneToOne state → IsApart name change → IsPresent name file state → DiskStep state change answer after
    → IsPresent name file after × (file_at file after.files ≡ file_at file state.files)

-- behind a sync of the directory that was answered Ok each name that is present is steady, and its file as it was
abbrev pub PresentBecomesSteady : Type 0
PresentBecomesSteady =
    (name : FileName) (file : ℕ) (state after : State) → IsPresent name file state → DiskStep {T = Unit {0}} state SyncDir (Ok tt) after
    → IsSteady name file after × (file_at file after.files ≡ file_at file state.files)

-- nothing is appended to a file on which a call failed
abbrev pub SparesSpoilt : Change → State → Type 0
SparesSpoilt (Append name bytes) state = (file : ℕ) → file_of name state ≡ Some file → (file_at file state.files).spoilt ≡ false
SparesSpoilt change state = Unit {0}

-- Reads go on to give what was meant behind each answer of every other call.
abbrev pub AllReadStays : Type 0
AllReadStays =
    (change : Change) (answer : Result (Unit {0}) DiskError) (state after : State)
    → IsOneToOne state → SparesSpoilt change state → AllRead state → DiskStep state change answer after → AllRead after

-- those of a device at rest do
abbrev pub RestReads : Type 0
RestReads = (state : State) → IsAtRest state → AllRead state
