-- The calls of a roll, and what they leave.
use Rattle.std.specs.Prelude.{◌≡◌, ℕ, List, length, Option, Some, None, Result, Ok, Err}
use Rattle.keel_base.specs.declared.failure.Call.{Call}
use Rattle.keel_base.specs.declared.failure.Call.TheVariants as call
use Rattle.keel_base.specs.declared.file_name.FileName.TheVariants as name
use Rattle.keel_disk.specs.declared.change.Change.{Change}
use Rattle.keel_disk.specs.declared.change.Change.TheVariants as change
use Rattle.keel_disk.specs.declared.error.DiskError.{DiskError}
use Rattle.keel_disk.specs.declared.error.DiskError.TheVariants as error
use Rattle.keel_frag.specs.Writing.{record_bytes}
use Rattle.keel_name.specs.Current.{current_of}
use Rattle.keel_manifest.specs.declared.doubts.Doubt.{Doubt}
use Rattle.keel_manifest.specs.declared.manifest.InUse.{InUse}
use Rattle.keel_manifest.specs.declared.manifest.Progress.TheVariants.{Firm}
use Rattle.keel_manifest.specs.declared.roll.RollCall.{RollCall}
use Rattle.keel_manifest.specs.declared.roll.RollCall.TheVariants.{MakeManifest, AppendEdit, SyncManifest, MakeTemporary, AppendName, SyncTemporary, Rename, SyncDirectory}
use Rattle.keel_manifest.specs.declared.roll.Rolled.{Rolled}
use Rattle.keel_manifest.specs.declared.roll.Rolled.TheVariants.{Moved, Done}
use Rattle.keel_manifest.specs.State.{ManifestState, doubted, settled}

pub record RollState : Type 0 where
  -- that of the manifest and of the temporary file
  pub number : ℕ
  -- the bytes of the record of its one edit
  pub edit_record : List ℕ
  pub next : Option RollCall

abbrev pub begun : ℕ → List ℕ → RollState
begun number edit = record { number = number; edit_record = record_bytes 0 edit; next = Some MakeManifest }

-- the call behind one
abbrev pub next_behind : RollCall → Option RollCall
next_behind MakeManifest = Some AppendEdit
next_behind AppendEdit = Some SyncManifest
next_behind SyncManifest = Some MakeTemporary
next_behind MakeTemporary = Some AppendName
next_behind AppendName = Some SyncTemporary
next_behind SyncTemporary = Some Rename
next_behind Rename = Some SyncDirectory
next_behind SyncDirectory = None

abbrev pub word_of : RollCall → Call
word_of MakeManifest = call.Create
word_of AppendEdit = call.Append
word_of SyncManifest = call.Sync
word_of MakeTemporary = call.Create
word_of AppendName = call.Append
word_of SyncTemporary = call.Sync
word_of Rename = call.Rename
word_of SyncDirectory = call.SyncDir

-- what a call asks of the device
abbrev pub change_of : RollState → RollCall → Change
change_of r MakeManifest = change.Create (name.Manifest r.number)
change_of r AppendEdit = change.Append (name.Manifest r.number) r.edit_record
change_of r SyncManifest = change.Sync (name.Manifest r.number)
change_of r MakeTemporary = change.Create (name.Temp r.number)
change_of r AppendName = change.Append (name.Temp r.number) (current_of r.number)
change_of r SyncTemporary = change.Sync (name.Temp r.number)
change_of r Rename = change.Rename (name.Temp r.number) name.Current
change_of r SyncDirectory = change.SyncDir

-- how the device answered the call of a step
abbrev pub outcome : Result Rolled DiskError → Result (Unit {0}) DiskError
outcome (Ok rolled) = Ok tt
outcome (Err error) = Err error

-- the new manifest with its one edit, which a crash may leave from the rename on
abbrev pub doubt_of_roll : RollState → Doubt
doubt_of_roll r = record { manifest = r.number; edits = 1 }

abbrev pub rolled_to : RollState → InUse
rolled_to r = record { number = r.number; edits = 1; progress = Firm (length r.edit_record) }

-- the new manifest is in use, and a crash leaves nothing else
abbrev pub taken_into_use : RollState → ManifestState → ManifestState
taken_into_use r m = settled (doubt_of_roll r) (record m { in_use = Some (rolled_to r) })

-- the manifest behind a call that was answered Ok
abbrev pub after_call : RollState → RollCall → ManifestState → ManifestState
after_call r Rename m = doubted (doubt_of_roll r) m
after_call r SyncDirectory m = taken_into_use r m
after_call r call m = m

-- and behind one that failed: a rename may have been done
abbrev pub after_failure : RollState → RollCall → ManifestState → ManifestState
after_failure r Rename m = doubted (doubt_of_roll r) m
after_failure r call m = m

abbrev pub answer_of : RollCall → Rolled
answer_of SyncDirectory = Done
answer_of call = Moved (word_of call)

-- The answer of a step that makes this call, and what it leaves of the roll and of the manifest. Behind a failure the roll
-- makes no further call.
abbrev pub Steps : RollCall → Result Rolled DiskError → RollState → RollState → ManifestState → ManifestState → Type 0
Steps call (Ok rolled) r r' m m' = (rolled ≡ answer_of call) × (r' ≡ record r { next = next_behind call }) × (m' ≡ after_call r call m)
Steps call (Err (error.Fault fault)) r r' m m' = (r' ≡ record r { next = None }) × (m' ≡ after_failure r call m)
Steps call (Err error.OutOfMemory) r r' m m' = (r' ≡ r) × (m' ≡ m)

-- the step makes the roll's next call
abbrev pub RollSteps : Option RollCall → Result Rolled DiskError → RollState → RollState → ManifestState → ManifestState → Type 0
RollSteps None answer r r' m m' = ⊥
RollSteps (Some call) answer r r' m m' = Steps call answer r r' m m'
