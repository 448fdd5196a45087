-- What a store keeps of its device while a boot or a resume makes its calls.
use Rattle.std.specs.Prelude.{◌≡◌, ◌⊎◌, ℕ, ◌<◌, ◌≤◌, nat_le, false, List, [], ◌∷◌, length, take, Some, None, Ok, if◌then◌else◌}
use Rattle.std.specs.List.{AllByRecursion}
use Rattle.keel_base.specs.declared.file_name.FileName.{FileName}
use Rattle.keel_base.specs.declared.file_name.FileName.TheVariants.{Log, Table, Trash, Current}
use Rattle.keel_disk.specs.Directory.{Named, find}
use Rattle.keel_disk.specs.State.{State, directory_read, file_at, has_waiting_cut, settled_through}
use Rattle.keel_disk.specs.Plain.{image_read}
use Rattle.keel_disk.specs.Steady.{AllRead, IsHeld, IsSteady, file_behind}
use Rattle.keel_directory.specs.Reading.{Reading, IsReading}
use Rattle.keel_directory.specs.Standing.{StandsRead}
use Rattle.keel_directory.specs.TableFiles.{TableFile, open_sized}
use Rattle.keel_machine.specs.Opening.{tables_in}
use Rattle.keel_machine.specs.Resuming.{cleared_story}
use Rattle.keel_machine.specs.States.{Story}
use Rattle.keel_open.specs.NextFiles.{number_in}
use Rattle.keel_recovery.specs.Readings.{AreListed, ReadsWithin}
use Rattle.keel_recovery.specs.Roots.{Way, IsWay, Goes, IsRoot}

-- ---- the device as it was when the job began

-- the names of files below a bound
abbrev pub below : ℕ → Named ℕ → Named ℕ
below bound [] = []
below bound (entry ∷ rest) = if nat_le bound entry.1 then below bound rest else entry ∷ below bound rest

-- no cut waits
abbrev pub NoCuts : State → Type 0
NoCuts state = (file : ℕ) → has_waiting_cut file state.waiting ≡ false

-- CURRENT has a file that was made since
pub record IsMovedIn (bound : ℕ) (directory : Named ℕ) : Type 0 where
  pub file : ℕ
  pub current : find Current directory ≡ Some file
  pub newer : bound ≤ file

-- without what was made since it is a directory that the device had, behind some of the operations that waited then
pub record IsOldIn (bound : ℕ) (old : State) (directory : Named ℕ) : Type 0 where
  pub before : ℕ
  pub same : below bound directory ≡ (settled_through before old).firm

-- A roll since: a manifest of one edit, whose tables have all that is published, and no log from its least on has a byte.
pub record IsRoll (count : ℕ) (story : Story) (next_file : ℕ) (state : State) : Type 0 where
  pub way : Way
  pub is_way : IsWay way state
  pub goes : Goes count way state
  pub one : length way.edits ≡ 1
  pub root : IsRoot way.edits [] story next_file state

-- a table that was there is there whatever operations are done, as read, firm in whole, and opens
pub record IsOldTable (bound : ℕ) (state : State) (table : TableFile) : Type 0 where
  pub file : ℕ
  pub steady : IsSteady (Table table.entry.number) file state
  pub old : file < bound
  pub held : IsHeld (file_at file state.files) table.bytes
  pub opens : open_sized table.entry.size table.bytes ≡ Ok table.file

-- the tables of the directory as that device is read are there whatever operations are done
abbrev pub ReadsSteady : ℕ → State → State → Type 0
ReadsSteady bound old state = (reading : Reading) → IsReading (image_read old) reading → AllByRecursion (IsOldTable bound state) (tables_in reading)

-- The job began with that device, which had so many files and stood for the story. Whatever operations are done, CURRENT has
-- the manifest of a roll, or what was made since is in no reading; and reads give what was meant.
pub record IsBooting (bound : ℕ) (old : State) (levels : List TableFile) (story : Story) (next_file : ℕ) (state : State) : Type 0 where
  pub within : bound ≤ length state.files
  pub first : old.files ≡ take bound state.files
  pub stands : StandsRead old story.start story.log story.limbo story.floor
  pub old_uncut : NoCuts old
  pub uncut : NoCuts state
  pub shows : (count : ℕ) → IsMovedIn bound (settled_through count state).firm ⊎ IsOldIn bound old (settled_through count state).firm
  pub shows_read : IsMovedIn bound (directory_read state) ⊎ (below bound (directory_read state) ≡ directory_read old)
  -- in a new store no table is made
  pub no_table : (before : ℕ) → file_behind before Current old ≡ None → (count n file : ℕ) → file_behind count (Table n) state ≡ Some file → bound ≤ file → ⊥
  pub no_trash : (count n file : ℕ) → file_behind count (Trash n) state ≡ Some file → bound ≤ file → ⊥
  pub logs_empty : (count n file : ℕ) → file_behind count (Log n) state ≡ Some file → bound ≤ file → (file_at file state.files).meant ≡ []
  pub rolls : (count current : ℕ) → file_behind count Current state ≡ Some current → bound ≤ current → IsRoll count (cleared_story story) next_file state
  pub tables : AllByRecursion (IsOldTable bound state) levels
  pub drawn : (count file : ℕ) (name : FileName) → file_behind count name state ≡ Some file → number_in name < next_file
  pub read : AllRead state
  pub listed : AreListed state
  pub read_within : ReadsWithin old
  pub read_steady : ReadsSteady bound old state
