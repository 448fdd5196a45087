-- How far a flush has come, and what its next call leaves.
use Rattle.std.specs.Prelude.{◌≡◌, ℕ, ◌+◌, ◌<◌, false, List, [], ◌∷◌, ◌++◌, length, map, drop, get_or, Option, Some, None, Result, Ok, Err}
use Rattle.keel_base.specs.declared.failure.Call.{Call}
use Rattle.keel_disk.specs.declared.error.DiskError.{DiskError}
use Rattle.keel_disk.specs.declared.error.DiskError.TheVariants as error
use Rattle.keel_draft.specs.Drafts.{Draft, pieces_in}
use Rattle.keel_manifest.specs.State.{ManifestState}
use Rattle.keel_flush.specs.declared.course.Course.{Course}
use Rattle.keel_flush.specs.declared.stage.Stage.{Stage}
use Rattle.keel_flush.specs.declared.stage.Stage.TheVariants as stage
use Rattle.keel_flush.specs.Plans.{Act, MakeTable, AddPiece, SyncTable, SyncName, AppendEdit, SyncManifest, Job, call_of, edit_acts, handed, left_of, manifest_behind, manifest_tried, next_behind, with_progress}
use Rattle.keel_flush.specs.Jobs.{JobState}

abbrev pub job_in : Course → Job
job_in c = record {
  min_log = c.min_log;
  draft = c.draft;
  progress = record { made = c.made; table = c.table };
}

abbrev pub state_in : Course → JobState
state_in c = record { job = job_in c; over = c.over }

-- ---- the calls of a stage

-- those that begin with a piece
abbrev pub acts_within : ℕ → Draft → List Act
acts_within piece draft = map AddPiece (drop piece (pieces_in draft)) ++ SyncTable ∷ edit_acts

abbrev pub act_at : Stage → Draft → Act
act_at stage.MakeTable draft = MakeTable
act_at (stage.AddPiece piece) draft = AddPiece (get_or (pieces_in draft) piece [])
act_at stage.SyncTable draft = SyncTable
act_at stage.SyncName draft = SyncName
act_at stage.AppendEdit draft = AppendEdit
act_at stage.SyncManifest draft = SyncManifest

abbrev pub later_at : Stage → Draft → List Act
later_at stage.MakeTable draft = acts_within 0 draft
later_at (stage.AddPiece piece) draft = acts_within (piece + 1) draft
later_at stage.SyncTable draft = edit_acts
later_at stage.SyncName draft = AppendEdit ∷ SyncManifest ∷ []
later_at stage.AppendEdit draft = SyncManifest ∷ []
later_at stage.SyncManifest draft = []

-- the piece is there
abbrev pub IsStage : Stage → Draft → Type 0
IsStage (stage.AddPiece piece) draft = piece < length (pieces_in draft)
IsStage _ draft = Unit {0}

abbrev pub act_in : Course → Act
act_in c = act_at c.stage c.draft

-- ---- what holds between two calls

-- before a call the stage tells the calls that are left
pub record IsOnCourse (c : Course) : Type 0 where
  pub left : c.over ≡ false → left_of (job_in c) ≡ act_in c ∷ later_at c.stage c.draft
  pub stage : c.over ≡ false → IsStage c.stage c.draft

-- ---- what a call leaves

-- what a call goes over, beside the device
pub record Place : Type 0 where
  pub course : Course
  pub next : ℕ
  pub manifest : ManifestState

-- the call was handed to the device
pub record IsHanded (act : Act) (before after : Place) : Type 0 where
  pub job : job_in after.course ≡ with_progress (handed before.next act (job_in before.course).progress) (job_in before.course)
  pub stage : after.course.stage ≡ before.course.stage
  pub over : after.course.over ≡ before.course.over
  pub next : after.next ≡ next_behind act before.next

pub record IsCalled (act : Act) (call : Call) (before after : Place) : Type 0 where
  pub handed : IsHanded act before after
  pub call_is : call ≡ call_of act
  pub manifest : after.manifest ≡ manifest_behind act (job_in before.course) before.next before.manifest

pub record IsTried (act : Act) (before after : Place) : Type 0 where
  pub handed : IsHanded act before after
  pub manifest : after.manifest ≡ manifest_tried act (job_in before.course) before.next before.manifest

pub record IsAsBefore (before after : Place) : Type 0 where
  pub course : after.course ≡ before.course
  pub next : after.next ≡ before.next
  pub manifest : after.manifest ≡ before.manifest

-- by the answer of the call
abbrev pub Leaves : Act → Result Call DiskError → Place → Place → Type 0
Leaves act (Ok call) before after = IsCalled act call before after
Leaves act (Err (error.Fault fault)) before after = IsTried act before after
Leaves act (Err error.OutOfMemory) before after = IsAsBefore before after

-- how the device answered
abbrev pub outcome : {A : Type 0} → Result A DiskError → Result (Unit {0}) DiskError
outcome (Ok call) = Ok tt
outcome (Err error) = Err error

-- ---- the stage behind one

-- none where no call is left, else one whose calls are those left
abbrev pub StageBehind : List Act → Draft → Option Stage → Type 0
StageBehind left draft None = left ≡ []
StageBehind left draft (Some next) = (left ≡ act_at next draft ∷ later_at next draft) × IsStage next draft
