-- The resume step, which runs the boot and a resume that was asked for: what it asks of the device, what it answers, and
-- what it leaves.
use Rattle.std.specs.Prelude.{◌≡◌, ℕ, ◌+◌, ◌<◌, ◌≤◌, ◌^◌, ◌&&◌, ◌||◌, not, Bool, false, List, [], ◌∷◌, ◌++◌, length, map, nat_le, Option, Some, None, is_some, option_map, if◌then◌else◌}
use Rattle.std.specs.List.{AllByRecursion}
use Rattle.keel_base.specs.declared.limits.TheConstants.{LAST_NUMBER}
use Rattle.keel_base.specs.declared.failure.Call.{Call}
use Rattle.keel_base.specs.declared.failure.Counter.TheVariants.{FileNumber, JobNumber}
use Rattle.keel_base.specs.declared.failure.Fault.{Fault}
use Rattle.keel_base.specs.declared.failure.Failure.{Failure}
use Rattle.keel_base.specs.declared.op.Op.{Op}
use Rattle.keel_directory.specs.TableFiles.{TableFile}
use Rattle.keel_disk.specs.Seen.{Calls, IsQuiet, Seen}
use Rattle.keel_machine.specs.declared.steps.ResumeStep.{ResumeStep}
use Rattle.keel_machine.specs.declared.steps.ResumeStep.TheVariants.{Idle, Moved, Cleared, Failed, Spent, Cancelled, OutOfMemory}
use Rattle.keel_machine.specs.Admission.{last_seq, stopping}
use Rattle.keel_machine.specs.Outside.{as_answer}
use Rattle.keel_machine.specs.States.{State, Story, Open, Active, Jobs, Resumption, Segment, Segments, entries_in, is_booting, new_log, no_batches}
use Rattle.keel_machine.specs.Tests.{first_some, when, differing}
use Rattle.keel_machine.specs.WritingAfter.{noted, numbers_of}
use Rattle.keel_draft.specs.Drafts.{Draft, AreDraftsOf, file_of, numbered, with_new}
use Rattle.keel_manifest.specs.State.{ManifestState}
use Rattle.keel_resume.specs.Jobs.{manifest_behind, manifest_tried}
use Rattle.keel_resume.specs.Plans.{Job, Act, left_of, job_of, draws, next_behind, change_of, call_of, failure_of, moved}

-- ---- the job

-- a store boots where no failure stands in the way of it
abbrev pub boot_is_to_start : State → Bool
boot_is_to_start s = is_booting s.mode.phase && not (is_some (stopping s))

-- a job begins where a resume was asked for, or the store is to boot
abbrev pub is_to_start : State → Bool
is_to_start s = s.jobs.started || boot_is_to_start s

-- what the active segment leaves as a full one, where it has a batch
abbrev pub closed_batches : List (List Op) → List ℕ → List Segment
closed_batches [] logs = []
closed_batches (ops ∷ batches) logs = record { batches = ops ∷ batches; logs = logs } ∷ []

abbrev pub closed_of : Active → List Segment
closed_of active = closed_batches active.batches (numbers_of active.log)

-- no further batch joins a segment, and no log is written to any more
abbrev pub all_closed : Segments → Segments
all_closed segments = record { immutable = segments.immutable ++ closed_of segments.active; active = no_batches }

-- the job takes over all segments
abbrev pub taken_over : State → State
taken_over s = record s { segments = all_closed s.segments }

abbrev pub with_resumption : Option Resumption → State → State
with_resumption running s = record s { jobs = record s.jobs { resume = record s.jobs.resume { running = running } } }

-- one that was asked for has its number already
abbrev pub job_number : Jobs → ℕ
job_number jobs = if jobs.started then jobs.resume.number else jobs.resume.number + 1

-- a job is under way, with a table before it for each segment
abbrev pub job_begun : List Draft → State → State
job_begun drafts s = record s {
  jobs = record s.jobs {
    resume = record {
      number = job_number s.jobs;
      running = Some (record { steps = 0; job = job_of (entries_in s.levels) (last_seq s) drafts });
    };
    started = false;
  };
}

abbrev pub started_or : Option Resumption → List Draft → State → State
started_or None drafts s = job_begun drafts (taken_over s)
started_or (Some running) drafts s = s

-- the state in which the job makes its next call: the one that runs, or the one that begins
abbrev pub resume_ready : List Draft → State → State
resume_ready drafts s = started_or s.jobs.resume.running drafts s

abbrev pub batches_in : List Segment → List (List (List Op))
batches_in segments = map (λ (segment : Segment). segment.batches) segments

-- a segment that has a batch
abbrev pub HasBatch : Segment → Type 0
HasBatch segment = 1 ≤ length segment.batches

-- a table for each segment, each of which has a batch, and no more than a version may have
pub record AreTables (s : State) (drafts : List Draft) : Type 0 where
  pub are : AreDraftsOf s.numbers.in_tables (batches_in s.segments.immutable) drafts
  pub some : AllByRecursion HasBatch s.segments.immutable
  pub few : length s.levels + length drafts < 2 ^ 32

-- of a job that begins the tables are those of the segments; one that runs has its own
abbrev pub AreDrafts : Option Resumption → State → List Draft → Type 0
AreDrafts None s drafts = AreTables (taken_over s) drafts
AreDrafts (Some running) s drafts = drafts ≡ running.job.drafts

-- ---- rests and refusals

-- a job that draws its number now would pass the end
abbrev pub is_start_spent : State → Bool
is_start_spent s = not s.jobs.started && nat_le LAST_NUMBER s.jobs.resume.number

-- without a job that runs
abbrev pub rests_before_job : State → List (Option ResumeStep)
rests_before_job s =
    when (not (is_to_start s)) Idle
    ∷ when (is_start_spent s) (Spent JobNumber)
    ∷ []

abbrev pub rests_of : Option Resumption → State → List (Option ResumeStep)
rests_of None s = rests_before_job s
rests_of (Some running) s = []

-- the next call draws a file's number
abbrev pub draws_next : List Act → Bool
draws_next [] = false
draws_next (act ∷ later) = draws act

abbrev pub acts_of : Option Resumption → List Act
acts_of None = []
acts_of (Some running) = left_of running.job

abbrev pub is_file_spent : State → Bool
is_file_spent s = draws_next (acts_of s.jobs.resume.running) && nat_le LAST_NUMBER s.numbers.next_file

abbrev pub cancelled : State → ℕ → ResumeStep
cancelled s held = Cancelled held s.jobs.resume.number

-- The step's answer where it makes no call.
abbrev pub resume_rest : State → List Draft → Option ℕ → Option ResumeStep
resume_rest s drafts held = first_some (
    option_map (cancelled s) (differing held s.jobs.resume.number)
    ∷ first_some (rests_of s.jobs.resume.running s)
    ∷ when (is_file_spent (resume_ready drafts s)) (Spent FileNumber)
    ∷ [])

-- ---- parts of the next state

-- the number of the next file, and the manifest in use
abbrev pub with_numbers : ℕ → ManifestState → State → State
with_numbers next_file manifest s = record s { numbers = record s.numbers { next_file = next_file; manifest = manifest } }

-- behind a call that was answered Ok, and behind one that failed
abbrev pub numbered_behind : Act → Job → State → State
numbered_behind act job s =
    with_numbers (next_behind act s.numbers.next_file) (manifest_behind act job s.numbers.next_file s.numbers.manifest) s

abbrev pub numbered_tried : Act → Job → State → State
numbered_tried act job s =
    with_numbers (next_behind act s.numbers.next_file) (manifest_tried act job s.numbers.next_file s.numbers.manifest) s

-- one call more was made
abbrev pub one_more : Act → ℕ → Resumption → Resumption
one_more act next running = record { steps = running.steps + 1; job = moved next act running.job }

-- the tables that a job has made
abbrev pub made_in : Job → List TableFile
made_in job = numbered file_of job.progress.tables job.drafts

-- all that is published is in tables, and must not be lost; nothing else may be found any more
abbrev pub cleared_story : Story → Story
cleared_story story = record story { limbo = []; floor = length story.log }

-- Behind the last call of a job the store writes: its tables have all batches, the log that was made is empty, the
-- manifest that was made is in use, and no failure stands.
abbrev pub cleared : Job → State → State
cleared job s = record s {
  mode = record s.mode { phase = Open };
  story = cleared_story s.story;
  segments = record { immutable = []; active = record { batches = []; log = option_map new_log job.progress.log } };
  levels = with_new (λ (table : TableFile). table.entry.level) s.levels (made_in job);
  failing = record { failures = [] };
  jobs = record s.jobs { resume = record s.jobs.resume { running = None } };
  numbers = record s.numbers { in_tables = last_seq s };
}

-- the state behind a call of the job that was answered Ok, with the calls left behind it
abbrev pub act_done : Act → Resumption → List Act → State → State
act_done act running [] s = cleared (moved s.numbers.next_file act running.job) (numbered_behind act running.job s)
act_done act running (next ∷ later) s =
    with_resumption (Some (one_more act s.numbers.next_file running)) (numbered_behind act running.job s)

-- behind a call that failed the job is over; a number is used up
abbrev pub act_failed : Act → Job → Failure → State → State
act_failed act job failure s = noted failure (with_resumption None (numbered_tried act job s))

abbrev pub first_done : Resumption → List Act → State → State
first_done running [] s = s
first_done running (act ∷ later) s = act_done act running later s

abbrev pub boot_done : Option Resumption → State → State
boot_done None s = s
boot_done (Some running) s = first_done running (left_of running.job) s

abbrev pub first_failed : Job → List Act → Failure → State → State
first_failed job [] failure s = s
first_failed job (act ∷ later) failure s = act_failed act job failure s

abbrev pub boot_failed : Option Resumption → Failure → State → State
boot_failed None failure s = s
boot_failed (Some running) failure s = first_failed running.job (left_of running.job) failure s

abbrev pub call_done : List Draft → State → State
call_done drafts s = boot_done (resume_ready drafts s).jobs.resume.running (resume_ready drafts s)

abbrev pub call_failed : List Draft → Failure → State → State
call_failed drafts failure s = boot_failed (resume_ready drafts s).jobs.resume.running failure (resume_ready drafts s)

-- ---- answers

-- In this state a call is made: the job's first one that is left, with the ones behind it.
pub record Makes (s : State) (drafts : List Draft) (held : Option ℕ) (running : Resumption) (act : Act) (later : List Act) : Type 0 where
  pub no_rest : resume_rest s drafts held ≡ None
  pub drafts_are : AreDrafts s.jobs.resume.running s drafts
  pub running_is : (resume_ready drafts s).jobs.resume.running ≡ Some running
  pub next : left_of running.job ≡ act ∷ later

-- a call of the job was made and answered so
pub record MadeCall (s : State) (drafts : List Draft) (held : Option ℕ) (running : Resumption) (act : Act) (later : List Act) (failed : Option Fault) (device : Seen) : Type 0 where
  pub makes : Makes s drafts held running act later
  pub calls : Calls s.device (change_of running.job s.numbers.next_file act) (as_answer failed) device

pub record IsMove (s : State) (drafts : List Draft) (held : Option ℕ) (job : ℕ) (call : Call) (device : Seen) : Type 0 where
  pub running : Resumption
  pub act : Act
  pub next : Act
  pub later : List Act
  pub made : MadeCall s drafts held running act (next ∷ later) None device
  pub job_is : job ≡ (resume_ready drafts s).jobs.resume.number
  pub call_is : call ≡ call_of act

pub record IsClear (s : State) (drafts : List Draft) (held : Option ℕ) (job steps : ℕ) (device : Seen) : Type 0 where
  pub running : Resumption
  pub act : Act
  pub made : MadeCall s drafts held running act [] None device
  pub job_is : job ≡ (resume_ready drafts s).jobs.resume.number
  pub steps_are : steps ≡ running.steps + 1

pub record IsFailure (s : State) (drafts : List Draft) (held : Option ℕ) (failure : Failure) (device : Seen) : Type 0 where
  pub running : Resumption
  pub act : Act
  pub later : List Act
  pub fault : Fault
  pub made : MadeCall s drafts held running act later (Some fault) device
  pub failure_is : failure ≡ failure_of act fault

-- a rest or a refusal comes as the first test that holds says
pub record IsRest (s : State) (drafts : List Draft) (held : Option ℕ) (step : ResumeStep) (device : Seen) : Type 0 where
  pub first : resume_rest s drafts held ≡ Some step
  pub quiet : IsQuiet s.device None device

-- memory may be wanting where a call was to be made, and then none was
pub record IsWant (s : State) (drafts : List Draft) (held : Option ℕ) (device : Seen) : Type 0 where
  pub no_rest : resume_rest s drafts held ≡ None
  pub quiet : IsQuiet s.device None device

-- each answer of a resume step with its cause, with the tables that its job has before it
abbrev pub ResumeAnswers : State → List Draft → Option ℕ → ResumeStep → Seen → Type 0
ResumeAnswers s drafts held (Moved job call) device = IsMove s drafts held job call device
ResumeAnswers s drafts held (Cleared job steps) device = IsClear s drafts held job steps device
ResumeAnswers s drafts held (Failed failure) device = IsFailure s drafts held failure device
ResumeAnswers s drafts held OutOfMemory device = IsWant s drafts held device
ResumeAnswers s drafts held step device = IsRest s drafts held step device

-- the state behind a resume step, but for the device
abbrev pub resume_after : State → List Draft → ResumeStep → State
resume_after s drafts (Moved job call) = call_done drafts s
resume_after s drafts (Cleared job steps) = call_done drafts s
resume_after s drafts (Failed failure) = call_failed drafts failure s
resume_after s drafts step = s
