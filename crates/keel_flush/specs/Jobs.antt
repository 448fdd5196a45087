-- What a flush's functions answer and leave.
use Rattle.std.specs.Prelude.{◌≡◌, ℕ, ◌^◌, ◌<◌, ◌≤◌, Bool, true, false, List, [], ◌∷◌, None, Ok, Err}
use Rattle.keel_base.specs.declared.failure.Call.{Call}
use Rattle.keel_base.specs.declared.failure.Failure.{Failure}
use Rattle.keel_base.specs.declared.failure.Fault.{Fault}
use Rattle.keel_base.specs.declared.row.Row.{Row}
use Rattle.keel_disk.specs.declared.error.DiskError.TheVariants as error
use Rattle.keel_disk.specs.Seen.{Seen, Calls, IsQuiet}
use Rattle.keel_draft.specs.Drafts.{Draft, IsTableFor}
use Rattle.keel_manifest.specs.declared.jobs.JobMove.{JobMove}
use Rattle.keel_manifest.specs.declared.jobs.JobMove.TheVariants.{Moved, Done, Failed, OutOfMemory}
use Rattle.keel_manifest.specs.State.{IsAppendedTo, IsFirmAt, ManifestState}
use Rattle.keel_flush.specs.Plans.{Act, AppendEdit, SyncManifest, Job, call_of, change_of, draws_next, failure_of, job_of, left_of, manifest_behind, manifest_tried, moved, next_behind, tried}

-- a job, and whether it makes no further call
pub record JobState : Type 0 where
  pub job : Job
  pub over : Bool

-- a job that has made nothing, whose table is that of these rows
pub record Begins (mem_rows : List Row) (min_log : ℕ) (s : JobState) : Type 0 where
  pub draft : Draft
  pub is : IsTableFor mem_rows draft
  pub job_is : s.job ≡ job_of min_log draft
  pub going : s.over ≡ false

-- ---- its steps

-- that number may be drawn where the next call draws one
abbrev pub MayDraw : Job → ℕ → Type 0
MayDraw job next = draws_next (left_of job) ≡ true → (1 ≤ next) × (next < 2 ^ 56)

-- the manifest in use takes the next call, where that is one of its own
abbrev pub Takes : List Act → ManifestState → Type 0
Takes (AppendEdit ∷ later) m = IsFirmAt m
Takes (SyncManifest ∷ later) m = IsAppendedTo m
Takes _ m = Unit {0}

-- what a step goes over: the job, the number that is drawn next, the manifest, and what the device shows
pub record Point : Type 0 where
  pub state : JobState
  pub next : ℕ
  pub manifest : ManifestState
  pub seen : Seen

-- the job's next call is that of the act, and was answered Ok; those behind it are left
pub record IsMade (act : Act) (later : List Act) (before after : Point) : Type 0 where
  pub next : left_of before.state.job ≡ act ∷ later
  pub calls : Calls before.seen (change_of before.state.job before.next before.manifest act) (Ok tt) after.seen
  pub job_is : after.state.job ≡ moved before.next act before.state.job
  pub left : left_of after.state.job ≡ later
  pub next_is : after.next ≡ next_behind act before.next
  pub manifest_is : after.manifest ≡ manifest_behind act before.state.job before.next before.manifest

-- it made this call, and has others before it
pub record IsMove (call : Call) (before after : Point) : Type 0 where
  pub act : Act
  pub another : Act
  pub later : List Act
  pub made : IsMade act (another ∷ later) before after
  pub call_is : call ≡ call_of act
  pub goes_on : after.state.over ≡ false

-- it made its last call
pub record IsLast (before after : Point) : Type 0 where
  pub act : Act
  pub made : IsMade act [] before after
  pub over : after.state.over ≡ true

-- a call failed, and the job is over
pub record IsFailure (failure : Failure) (before after : Point) : Type 0 where
  pub act : Act
  pub later : List Act
  pub fault : Fault
  pub next : left_of before.state.job ≡ act ∷ later
  pub calls : Calls before.seen (change_of before.state.job before.next before.manifest act) (Err (error.Fault fault)) after.seen
  pub job_is : after.state.job ≡ tried before.next act before.state.job
  pub next_is : after.next ≡ next_behind act before.next
  pub manifest_is : after.manifest ≡ manifest_tried act before.state.job before.next before.manifest
  pub failure_is : failure ≡ failure_of act fault
  pub over : after.state.over ≡ true

-- memory was refused: no call was made, and all is as before
pub record IsWant (before after : Point) : Type 0 where
  pub state_is : after.state ≡ before.state
  pub next_is : after.next ≡ before.next
  pub manifest_is : after.manifest ≡ before.manifest
  pub quiet : IsQuiet before.seen None after.seen

-- a step's answer, with what it made and left
abbrev pub JobSteps : JobMove → Point → Point → Type 0
JobSteps (Moved call) before after = IsMove call before after
JobSteps Done before after = IsLast before after
JobSteps (Failed failure) before after = IsFailure failure before after
JobSteps OutOfMemory before after = IsWant before after
