-- How far a job has come, and what its next call leaves.
use Rattle.std.specs.Prelude.{◌≡◌, ℕ, ◌+◌, ◌<◌, Bool, true, false, List, [], ◌∷◌, ◌++◌, length, map, drop, get_or, Option, Some, None, Result, Ok, Err}
use Rattle.std.specs.List.{flat_map}
use Rattle.keel_base.specs.declared.failure.Call.{Call}
use Rattle.keel_disk.specs.declared.error.DiskError.{DiskError}
use Rattle.keel_disk.specs.declared.error.DiskError.TheVariants as error
use Rattle.keel_edit.specs.declared.edit.Added.{Added}
use Rattle.keel_edit.specs.Spelling.{spelling}
use Rattle.keel_frag.specs.Writing.{record_bytes}
use Rattle.keel_manifest.specs.declared.roll.RollCall.{RollCall}
use Rattle.keel_manifest.specs.declared.roll.RollCall.TheVariants.{MakeManifest, AppendEdit, SyncManifest, MakeTemporary, AppendName, SyncTemporary, Rename, SyncDirectory}
use Rattle.keel_manifest.specs.Rolls.{RollState}
use Rattle.keel_manifest.specs.Rolls as rolls
use Rattle.keel_manifest.specs.State.{ManifestState}
use Rattle.keel_resume.specs.declared.course.Course.{Course}
use Rattle.keel_resume.specs.declared.stage.Stage.{Stage}
use Rattle.keel_resume.specs.declared.stage.Stage.TheVariants as stage
use Rattle.keel_draft.specs.Drafts.{Draft, pieces_in}
use Rattle.keel_resume.specs.Plans.{Act, MakeTable, AddPiece, SyncTable, MakeLog, SyncLogName, Rolls, Job, call_of, edit_of, handed, left_of, log_acts, next_behind, roll_acts, table_acts, with_progress}
use Rattle.keel_resume.specs.Jobs.{JobState, manifest_behind, manifest_tried, tables_of}

abbrev pub job_in : Course → Job
job_in c = record {
  live = c.live;
  last_seq = c.last_seq;
  drafts = c.drafts;
  progress = record { made = c.made; tables = c.numbers; log = c.log; manifest = c.manifest; temporary = c.temporary };
}

abbrev pub state_in : Course → JobState
state_in c = record { job = job_in c; over = c.over }

-- ---- the calls of a stage

-- behind all tables
abbrev pub end_acts : List Act
end_acts = log_acts ++ roll_acts

-- those that begin with making the table of the first of these drafts
abbrev pub acts_before : List Draft → List Act
acts_before drafts = flat_map table_acts drafts ++ end_acts

abbrev pub pieces_of : List Draft → List (List ℕ)
pieces_of [] = []
pieces_of (draft ∷ drafts) = pieces_in draft

-- those that begin with a piece of the first of these drafts
abbrev pub acts_within : ℕ → List Draft → List Act
acts_within piece [] = []
acts_within piece (draft ∷ drafts) = map AddPiece (drop piece (pieces_in draft)) ++ SyncTable ∷ acts_before drafts

abbrev pub act_at : Stage → List Draft → Act
act_at (stage.MakeTable table) drafts = MakeTable
act_at (stage.AddPiece table piece) drafts = AddPiece (get_or (pieces_of (drop table drafts)) piece [])
act_at (stage.SyncTable table) drafts = SyncTable
act_at stage.MakeLog drafts = MakeLog
act_at stage.SyncLogName drafts = SyncLogName
act_at (stage.Roll asked) drafts = Rolls asked

-- those of a roll behind a call
abbrev pub rolls_behind : RollCall → List Act
rolls_behind MakeManifest = Rolls AppendEdit ∷ Rolls SyncManifest ∷ Rolls MakeTemporary ∷ Rolls AppendName ∷ Rolls SyncTemporary ∷ Rolls Rename ∷ Rolls SyncDirectory ∷ []
rolls_behind AppendEdit = Rolls SyncManifest ∷ Rolls MakeTemporary ∷ Rolls AppendName ∷ Rolls SyncTemporary ∷ Rolls Rename ∷ Rolls SyncDirectory ∷ []
rolls_behind SyncManifest = Rolls MakeTemporary ∷ Rolls AppendName ∷ Rolls SyncTemporary ∷ Rolls Rename ∷ Rolls SyncDirectory ∷ []
rolls_behind MakeTemporary = Rolls AppendName ∷ Rolls SyncTemporary ∷ Rolls Rename ∷ Rolls SyncDirectory ∷ []
rolls_behind AppendName = Rolls SyncTemporary ∷ Rolls Rename ∷ Rolls SyncDirectory ∷ []
rolls_behind SyncTemporary = Rolls Rename ∷ Rolls SyncDirectory ∷ []
rolls_behind Rename = Rolls SyncDirectory ∷ []
rolls_behind SyncDirectory = []

abbrev pub later_at : Stage → List Draft → List Act
later_at (stage.MakeTable table) drafts = acts_within 0 (drop table drafts)
later_at (stage.AddPiece table piece) drafts = acts_within (piece + 1) (drop table drafts)
later_at (stage.SyncTable table) drafts = acts_before (drop (table + 1) drafts)
later_at stage.MakeLog drafts = SyncLogName ∷ roll_acts
later_at stage.SyncLogName drafts = roll_acts
later_at (stage.Roll asked) drafts = rolls_behind asked

-- the table and the piece are there
abbrev pub IsStage : Stage → List Draft → Type 0
IsStage (stage.MakeTable table) drafts = table < length drafts
IsStage (stage.AddPiece table piece) drafts = (table < length drafts) × (piece < length (pieces_of (drop table drafts)))
IsStage (stage.SyncTable table) drafts = table < length drafts
IsStage _ drafts = Unit {0}

abbrev pub act_in : Course → Act
act_in c = act_at c.stage c.drafts

-- ---- the roll

-- the roll's next call, its number, its edit, and the tables that its edit brings
pub record IsRollTo (next : Option RollCall) (roll : RollState) (job : Job) (tables : List Added) : Type 0 where
  pub next_is : roll.next ≡ next
  pub number_is : job.progress.manifest ≡ Some roll.number
  pub edit_is : roll.edit_record ≡ record_bytes 0 (spelling (edit_of job (roll.number + 1)))
  pub tables_are : tables ≡ tables_of job

abbrev pub HasRoll : Option RollCall → Option RollState → Job → List Added → Type 0
HasRoll next None job tables = ⊥
HasRoll next (Some roll) job tables = IsRollTo next roll job tables

abbrev pub roll_next : Option RollState → Option RollCall
roll_next None = None
roll_next (Some roll) = roll.next

-- before a call of the roll but the first it is there
abbrev pub RollAt : Act → Course → Type 0
RollAt (Rolls MakeManifest) c = Unit {0}
RollAt (Rolls asked) c = HasRoll (Some asked) c.roll (job_in c) c.tables
RollAt act c = Unit {0}

-- behind each call of the roll it is there
abbrev pub RollBehind : Act → Course → Type 0
RollBehind (Rolls asked) c = HasRoll (rolls.next_behind asked) c.roll (job_in c) c.tables
RollBehind act c = Unit {0}

-- before the stage that comes next the roll is there; behind the last one the tables are
abbrev pub RollReady : Option Stage → Course → Type 0
RollReady None c = c.tables ≡ tables_of (job_in c)
RollReady (Some next) c = RollAt (act_at next c.drafts) c

-- ---- what holds between two calls

-- Before a call the stage tells the calls that are left. Behind the last one the tables stand there.
pub record IsOnCourse (c : Course) : Type 0 where
  pub left : c.over ≡ false → left_of (job_in c) ≡ act_in c ∷ later_at c.stage c.drafts
  pub stage : c.over ≡ false → IsStage c.stage c.drafts
  pub roll : c.over ≡ false → RollAt (act_in c) c
  pub tables : left_of (job_in c) ≡ [] → c.tables ≡ tables_of (job_in c)

-- ---- what a call leaves

-- what a call goes over, beside the device
pub record Place : Type 0 where
  pub course : Course
  pub next : ℕ
  pub manifest : ManifestState

-- the call was handed to the device
pub record IsHanded (act : Act) (before after : Place) : Type 0 where
  pub job : job_in after.course ≡ with_progress (handed before.next act (job_in before.course).progress) (job_in before.course)
  pub stage : after.course.stage ≡ before.course.stage
  pub over : after.course.over ≡ before.course.over
  pub next : after.next ≡ next_behind act before.next

pub record IsCalled (act : Act) (call : Call) (before after : Place) : Type 0 where
  pub handed : IsHanded act before after
  pub call_is : call ≡ call_of act
  pub manifest : after.manifest ≡ manifest_behind act (job_in before.course) before.next before.manifest
  pub roll : RollBehind act after.course

pub record IsTried (act : Act) (before after : Place) : Type 0 where
  pub handed : IsHanded act before after
  pub manifest : after.manifest ≡ manifest_tried act (job_in before.course) before.next before.manifest

pub record IsAsBefore (before after : Place) : Type 0 where
  pub course : after.course ≡ before.course
  pub next : after.next ≡ before.next
  pub manifest : after.manifest ≡ before.manifest

-- by the answer of the call
abbrev pub Leaves : Act → Result Call DiskError → Place → Place → Type 0
Leaves act (Ok call) before after = IsCalled act call before after
Leaves act (Err (error.Fault fault)) before after = IsTried act before after
Leaves act (Err error.OutOfMemory) before after = IsAsBefore before after

-- how the device answered
abbrev pub outcome : {A : Type 0} → Result A DiskError → Result (Unit {0}) DiskError
outcome (Ok call) = Ok tt
outcome (Err error) = Err error

-- memory was wanting, so that no call was made
abbrev pub is_refused : {A : Type 0} → Result A DiskError → Bool
is_refused (Ok value) = false
is_refused (Err (error.Fault fault)) = false
is_refused (Err error.OutOfMemory) = true

-- ---- the stage behind one

-- none where no call is left, else one whose calls are those left
abbrev pub StageBehind : List Act → List Draft → Option Stage → Type 0
StageBehind left drafts None = left ≡ []
StageBehind left drafts (Some next) = (left ≡ act_at next drafts ∷ later_at next drafts) × IsStage next drafts
