-- What a job's functions answer and leave.
use Rattle.std.specs.Prelude.{◌≡◌, ℕ, ◌+◌, ◌^◌, ◌<◌, ◌≤◌, Bool, true, false, List, [], ◌∷◌, ◌++◌, length, Some, None, Ok, Err, IfSome}
use Rattle.keel_base.specs.declared.failure.Call.{Call}
use Rattle.keel_base.specs.declared.failure.Failure.{Failure}
use Rattle.keel_base.specs.declared.failure.Fault.{Fault}
use Rattle.keel_base.specs.declared.row.Row.{Row}
use Rattle.keel_disk.specs.declared.error.DiskError.TheVariants as error
use Rattle.keel_disk.specs.Seen.{Seen, Calls, IsQuiet}
use Rattle.keel_edit.specs.declared.edit.Added.{Added}
use Rattle.keel_manifest.specs.declared.jobs.JobMove.{JobMove}
use Rattle.keel_manifest.specs.declared.jobs.JobMove.TheVariants.{Moved, Done, Failed, OutOfMemory}
use Rattle.keel_manifest.specs.declared.manifest.Progress.TheVariants.{Firm}
use Rattle.keel_manifest.specs.Rolls as rolls
use Rattle.keel_manifest.specs.State.{ManifestState}
use Rattle.keel_draft.specs.Drafts.{Draft, IsTableFor, added_of, numbered, with_new}
use Rattle.keel_resume.specs.Plans.{Act, Rolls, Job, call_of, change_of, draws, failure_of, left_of, manifest_of, moved, next_behind, roll_of, tried}

-- a job, and whether it makes no further call
pub record JobState : Type 0 where
  pub job : Job
  pub over : Bool

-- ---- the tables

abbrev pub with_draft : Draft → JobState → JobState
with_draft draft s = record s { job = record s.job { drafts = s.job.drafts ++ draft ∷ [] } }

-- the job has the table of these rows more, behind the others
pub record Covers (mem_rows : List Row) (before after : JobState) : Type 0 where
  pub draft : Draft
  pub is : IsTableFor mem_rows draft
  pub after_is : after ≡ with_draft draft before
  pub few : length after.job.live + length after.job.drafts < 2 ^ 32

-- the version's tables behind the job
abbrev pub tables_of : Job → List Added
tables_of job = with_new (λ (table : Added). table.level) job.live (numbered added_of job.progress.tables job.drafts)

-- ---- its steps

-- the first of these calls draws a file's number
abbrev pub draws_next : List Act → Bool
draws_next [] = false
draws_next (act ∷ later) = draws act

-- that number may be drawn where the next call draws one
abbrev pub MayDraw : Job → ℕ → Type 0
MayDraw job next = draws_next (left_of job) ≡ true → (1 ≤ next) × (next < 2 ^ 56)

-- The number of the new manifest was drawn last, so the number that its edit tells is still the next one.
abbrev pub IsBehindManifest : Job → ℕ → Type 0
IsBehindManifest job next = IfSome job.progress.manifest (λ number. next ≡ number + 1)

-- what a step goes over: the job, the number that is drawn next, the manifest, and what the device shows
pub record Point : Type 0 where
  pub state : JobState
  pub next : ℕ
  pub manifest : ManifestState
  pub seen : Seen

-- the manifest behind a call that was answered Ok: behind the last one the new manifest is in use, with its one edit
abbrev pub manifest_behind : Act → Job → ℕ → ManifestState → ManifestState
manifest_behind (Rolls asked) job next m = rolls.after_call (roll_of job (manifest_of job next asked) next) asked m
manifest_behind act job next m = m

-- and behind one that failed
abbrev pub manifest_tried : Act → Job → ℕ → ManifestState → ManifestState
manifest_tried (Rolls asked) job next m = rolls.after_failure (roll_of job (manifest_of job next asked) next) asked m
manifest_tried act job next m = m

-- the job's next call is that of the act, and was answered Ok; those behind it are left
pub record IsMade (act : Act) (later : List Act) (before after : Point) : Type 0 where
  pub next : left_of before.state.job ≡ act ∷ later
  pub calls : Calls before.seen (change_of before.state.job before.next act) (Ok tt) after.seen
  pub job_is : after.state.job ≡ moved before.next act before.state.job
  pub left : left_of after.state.job ≡ later
  pub next_is : after.next ≡ next_behind act before.next
  pub manifest_is : after.manifest ≡ manifest_behind act before.state.job before.next before.manifest

-- it made this call, and has others before it
pub record IsMove (call : Call) (before after : Point) : Type 0 where
  pub act : Act
  pub another : Act
  pub later : List Act
  pub made : IsMade act (another ∷ later) before after
  pub call_is : call ≡ call_of act
  pub goes_on : after.state.over ≡ false

-- the manifest that the job made is in use: its one edit is firm
pub record UsesNew (job : Job) (m : ManifestState) : Type 0 where
  pub number : ℕ
  pub length : ℕ
  pub drawn : job.progress.manifest ≡ Some number
  pub used : m.in_use ≡ Some (record { number = number; edits = 1; progress = Firm length })

-- it made its last call
pub record IsLast (before after : Point) : Type 0 where
  pub act : Act
  pub made : IsMade act [] before after
  pub in_use : UsesNew after.state.job after.manifest
  pub over : after.state.over ≡ true

-- a call failed, and the job is over
pub record IsFailure (failure : Failure) (before after : Point) : Type 0 where
  pub act : Act
  pub later : List Act
  pub fault : Fault
  pub next : left_of before.state.job ≡ act ∷ later
  pub calls : Calls before.seen (change_of before.state.job before.next act) (Err (error.Fault fault)) after.seen
  pub job_is : after.state.job ≡ tried before.next act before.state.job
  pub next_is : after.next ≡ next_behind act before.next
  pub manifest_is : after.manifest ≡ manifest_tried act before.state.job before.next before.manifest
  pub failure_is : failure ≡ failure_of act fault
  pub over : after.state.over ≡ true

-- memory was refused: no call was made, and all is as before
pub record IsWant (before after : Point) : Type 0 where
  pub state_is : after.state ≡ before.state
  pub next_is : after.next ≡ before.next
  pub manifest_is : after.manifest ≡ before.manifest
  pub quiet : IsQuiet before.seen None after.seen

-- a step's answer, with what it made and left
abbrev pub JobSteps : JobMove → Point → Point → Type 0
JobSteps (Moved call) before after = IsMove call before after
JobSteps Done before after = IsLast before after
JobSteps (Failed failure) before after = IsFailure failure before after
JobSteps OutOfMemory before after = IsWant before after
