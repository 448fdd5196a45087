-- What the directory of a device as it is read says, and which names it has, whatever operations a crash does.
use Rattle.std.specs.Prelude.{◌≡◌, ℕ, ◌≤◌, List, [], Some, None}
use Rattle.keel_base.specs.declared.file_name.FileName.{FileName}
use Rattle.keel_base.specs.declared.file_name.FileName.TheVariants.{Current}
use Rattle.keel_base.specs.declared.op.Op.{Op}
use Rattle.keel_batch.specs.Batches.{AreBatches}
use Rattle.keel_directory.specs.Reading.{Reading, IsReading, held}
use Rattle.keel_disk.specs.Directory.{Named, find}
use Rattle.keel_disk.specs.Plain.{image_read}
use Rattle.keel_disk.specs.State.{State, directory_read, settled_through}
use Rattle.keel_disk.specs.Steady.{file_behind}
use Rattle.keel_machine.specs.Opening.{ops_replayed}
use Rattle.keel_open.specs.NextFiles.{number_in}

-- a name of the directory has that number, or a greater one
pub record HasAsHigh (number : ℕ) (directory : Named ℕ) : Type 0 where
  pub name : FileName
  pub file : ℕ
  pub named : find name directory ≡ Some file
  pub high : number ≤ number_in name

-- each of the names is numbered no higher than one of the directory
abbrev pub AreNoHigher : Named ℕ → Named ℕ → Type 0
AreNoHigher names directory = (file : ℕ) (name : FileName) → find name names ≡ Some file → HasAsHigh (number_in name) directory

-- whatever operations are done, no name is numbered over all that reads see
abbrev pub AreListed : State → Type 0
AreListed state = (count : ℕ) → AreNoHigher (settled_through count state).firm (directory_read state)

-- the batches that a reading's logs give
abbrev pub batches_read : Reading → List (List Op)
batches_read (held found point) = ops_replayed found.replay.batches
batches_read _ = []

-- they are numbered on behind the tables, each within its limits
abbrev pub AreLimited : Reading → Type 0
AreLimited (held found point) = AreBatches found.version.last_seq (ops_replayed found.replay.batches)
AreLimited _ = Unit {0}

-- As the directory is read its batches are within their limits, and it has none where, behind some operations, it has no CURRENT.
pub record ReadsWithin (state : State) : Type 0 where
  pub limits : (reading : Reading) → IsReading (image_read state) reading → AreLimited reading
  pub bare : (count : ℕ) → file_behind count Current state ≡ None → (reading : Reading) → IsReading (image_read state) reading → batches_read reading ≡ []
