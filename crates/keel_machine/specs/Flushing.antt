-- The flush step: what it asks of the device, what it answers, and what it leaves.
use Rattle.std.specs.Prelude.{◌≡◌, ℕ, ◌+◌, ◌<◌, ◌≤◌, ◌^◌, ◌&&◌, ◌||◌, not, nat_le, Bool, true, false, List, [], ◌∷◌, length, drop, Option, Some, None, is_some, option_map}
use Rattle.keel_base.specs.declared.limits.TheConstants.{LAST_NUMBER}
use Rattle.keel_base.specs.declared.failure.Call.{Call}
use Rattle.keel_base.specs.declared.failure.Counter.TheVariants.{FileNumber, JobNumber}
use Rattle.keel_base.specs.declared.failure.Fault.{Fault}
use Rattle.keel_base.specs.declared.failure.Failure.{Failure}
use Rattle.keel_base.specs.declared.op.Op.{Op}
use Rattle.keel_directory.specs.TableFiles.{TableFile}
use Rattle.keel_disk.specs.Seen.{Calls, IsQuiet, Seen}
use Rattle.keel_draft.specs.Drafts.{Draft, IsDraftOf, file_of, with_new}
use Rattle.keel_flush.specs.Plans.{Act, Job, call_of, change_of, draws_next, failure_of, job_of, left_of, manifest_behind, manifest_tried, moved, next_behind, number_of}
use Rattle.keel_machine.specs.declared.steps.JobStep.{JobStep}
use Rattle.keel_machine.specs.declared.steps.JobStep.TheVariants.{Idle, Moved, Done, Failed, Spent, Cancelled, OutOfMemory}
use Rattle.keel_machine.specs.Admission.{standing, stopping}
use Rattle.keel_machine.specs.Outside.{as_answer}
use Rattle.keel_machine.specs.Resuming.{with_numbers}
use Rattle.keel_machine.specs.States.{State, Phase, Open, Segment, SegmentLog, Segments}
use Rattle.keel_machine.specs.Tests.{first_some, when, differing}
use Rattle.keel_machine.specs.WritingAfter.{noted}

-- ---- the job

-- Background work is stopped where writes are, and by every error while automatic recovery is off.
abbrev pub is_work_stopped : State → Bool
is_work_stopped s = is_some (stopping s) || (is_some (standing s) && not s.options.auto)

abbrev pub writes : Phase → Bool
writes Open = true
writes _ = false

-- a full segment may be flushed
abbrev pub may_flush : State → Bool
may_flush s = writes s.mode.phase && (not (is_work_stopped s) && nat_le 1 (length s.segments.immutable))

abbrev pub batches_of_first : List Segment → List (List Op)
batches_of_first [] = []
batches_of_first (segment ∷ segments) = segment.batches

-- those of the oldest full segment
abbrev pub oldest : State → List (List Op)
oldest s = batches_of_first s.segments.immutable

abbrev pub first_log : List ℕ → ℕ
first_log [] = 0
first_log (number ∷ numbers) = number

-- the first log of these segments, or the active one's
abbrev pub log_in : List Segment → Option SegmentLog → ℕ
log_in [] None = 0
log_in [] (Some log) = log.number
log_in (segment ∷ segments) active = first_log segment.logs

-- the log of the segment behind the oldest full one
abbrev pub next_log : Segments → ℕ
next_log segments = log_in (drop 1 segments.immutable) segments.active.log

abbrev pub with_flush : Option Job → State → State
with_flush running s = record s { jobs = record s.jobs { flush = record s.jobs.flush { running = running } } }

-- a flush of the oldest full segment is under way
abbrev pub flush_started : Draft → State → State
flush_started draft s = record s {
  jobs = record s.jobs { flush = record { number = s.jobs.flush.number + 1; running = Some (job_of (next_log s.segments) draft) } };
}

abbrev pub started_or : Option Job → Draft → State → State
started_or None draft s = flush_started draft s
started_or (Some job) draft s = s

-- the state in which the job makes its next call: the one that runs, or the one that begins
abbrev pub flush_ready : Draft → State → State
flush_ready draft s = started_or s.jobs.flush.running draft s

-- the table of the oldest full segment, which has a batch, and with it no more tables than a version may have
pub record IsNewTable (s : State) (draft : Draft) : Type 0 where
  pub is : IsDraftOf s.numbers.in_tables (oldest s) draft
  pub some : 1 ≤ length (oldest s)
  pub few : length s.levels + 1 < 2 ^ 32

-- of a job that begins the table is that one; one that runs has its own
abbrev pub IsDraftFor : Option Job → State → Draft → Type 0
IsDraftFor None s draft = IsNewTable s draft
IsDraftFor (Some job) s draft = draft ≡ job.draft

-- ---- rests and refusals

abbrev pub acts_of : Option Job → List Act
acts_of None = []
acts_of (Some job) = left_of job

-- a start would draw the slot's number past its end
abbrev pub is_start_spent : Option Job → State → Bool
is_start_spent None s = nat_le LAST_NUMBER s.jobs.flush.number
is_start_spent (Some job) s = false

abbrev pub is_file_spent : State → Bool
is_file_spent s = draws_next (acts_of s.jobs.flush.running) && nat_le LAST_NUMBER s.numbers.next_file

abbrev pub cancelled : State → ℕ → JobStep
cancelled s held = Cancelled held s.jobs.flush.number

-- The step's answer where it makes no call.
abbrev pub flush_rest : State → Draft → Option ℕ → Option JobStep
flush_rest s draft held = first_some (
    option_map (cancelled s) (differing held s.jobs.flush.number)
    ∷ when (not (may_flush s)) Idle
    ∷ when (is_start_spent s.jobs.flush.running s) (Spent JobNumber)
    ∷ when (is_file_spent (flush_ready draft s)) (Spent FileNumber)
    ∷ [])

-- ---- parts of the next state

-- behind a call that was answered Ok, and behind one that failed
abbrev pub numbered_behind : Act → Job → State → State
numbered_behind act job s =
    with_numbers (next_behind act s.numbers.next_file) (manifest_behind act job s.numbers.next_file s.numbers.manifest) s

abbrev pub numbered_tried : Act → Job → State → State
numbered_tried act job s =
    with_numbers (next_behind act s.numbers.next_file) (manifest_tried act job s.numbers.next_file s.numbers.manifest) s

-- the levels with the table that a job has made
abbrev pub levels_with : Job → List TableFile → List TableFile
levels_with job levels = with_new (λ (table : TableFile). table.entry.level) levels (file_of (number_of job) job.draft ∷ [])

-- Behind the last call the table has the oldest segment's batches, and the segment is gone.
abbrev pub flushed : Job → State → State
flushed job s = with_flush None (record s {
  segments = record s.segments { immutable = drop 1 s.segments.immutable };
  levels = levels_with job s.levels;
  numbers = record s.numbers { in_tables = job.draft.last };
})

-- the state behind a call of the job that was answered Ok, with the calls left behind it
abbrev pub act_done : Act → Job → List Act → State → State
act_done act job [] s = flushed (moved s.numbers.next_file act job) (numbered_behind act job s)
act_done act job (next ∷ later) s = with_flush (Some (moved s.numbers.next_file act job)) (numbered_behind act job s)

-- behind a call that failed the job is over; a number may be used up, an edit may be in doubt
abbrev pub act_failed : Act → Job → Failure → State → State
act_failed act job failure s = noted failure (with_flush None (numbered_tried act job s))

abbrev pub first_done : Job → List Act → State → State
first_done job [] s = s
first_done job (act ∷ later) s = act_done act job later s

abbrev pub flush_done : Option Job → State → State
flush_done None s = s
flush_done (Some job) s = first_done job (left_of job) s

abbrev pub first_failed : Job → List Act → Failure → State → State
first_failed job [] failure s = s
first_failed job (act ∷ later) failure s = act_failed act job failure s

abbrev pub flush_failed : Option Job → Failure → State → State
flush_failed None failure s = s
flush_failed (Some job) failure s = first_failed job (left_of job) failure s

abbrev pub call_done : Draft → State → State
call_done draft s = flush_done (flush_ready draft s).jobs.flush.running (flush_ready draft s)

abbrev pub call_failed : Draft → Failure → State → State
call_failed draft failure s = flush_failed (flush_ready draft s).jobs.flush.running failure (flush_ready draft s)

-- ---- answers

-- In this state a call is made: the job's first one that is left, with the ones behind it.
pub record Makes (s : State) (draft : Draft) (held : Option ℕ) (job : Job) (act : Act) (later : List Act) : Type 0 where
  pub no_rest : flush_rest s draft held ≡ None
  pub draft_is : IsDraftFor s.jobs.flush.running s draft
  pub running_is : (flush_ready draft s).jobs.flush.running ≡ Some job
  pub next : left_of job ≡ act ∷ later

-- a call of the job was made and answered so
pub record MadeCall (s : State) (draft : Draft) (held : Option ℕ) (job : Job) (act : Act) (later : List Act) (failed : Option Fault) (device : Seen) : Type 0 where
  pub makes : Makes s draft held job act later
  pub calls : Calls s.device (change_of job s.numbers.next_file s.numbers.manifest act) (as_answer failed) device

pub record IsMove (s : State) (draft : Draft) (held : Option ℕ) (number : ℕ) (call : Call) (device : Seen) : Type 0 where
  pub job : Job
  pub act : Act
  pub next : Act
  pub later : List Act
  pub made : MadeCall s draft held job act (next ∷ later) None device
  pub number_is : number ≡ (flush_ready draft s).jobs.flush.number
  pub call_is : call ≡ call_of act

pub record IsEnd (s : State) (draft : Draft) (held : Option ℕ) (number : ℕ) (device : Seen) : Type 0 where
  pub job : Job
  pub act : Act
  pub made : MadeCall s draft held job act [] None device
  pub number_is : number ≡ (flush_ready draft s).jobs.flush.number

pub record IsFailure (s : State) (draft : Draft) (held : Option ℕ) (failure : Failure) (device : Seen) : Type 0 where
  pub job : Job
  pub act : Act
  pub later : List Act
  pub fault : Fault
  pub made : MadeCall s draft held job act later (Some fault) device
  pub failure_is : failure ≡ failure_of act fault

-- a rest or a refusal comes as the first test that holds says
pub record IsRest (s : State) (draft : Draft) (held : Option ℕ) (step : JobStep) (device : Seen) : Type 0 where
  pub first : flush_rest s draft held ≡ Some step
  pub quiet : IsQuiet s.device None device

-- memory may be wanting where a call was to be made, and then none was
pub record IsWant (s : State) (draft : Draft) (held : Option ℕ) (device : Seen) : Type 0 where
  pub no_rest : flush_rest s draft held ≡ None
  pub quiet : IsQuiet s.device None device

-- each answer of a flush step with its cause, with the table that its job makes
abbrev pub FlushAnswers : State → Draft → Option ℕ → JobStep → Seen → Type 0
FlushAnswers s draft held (Moved job call) device = IsMove s draft held job call device
FlushAnswers s draft held (Done job) device = IsEnd s draft held job device
FlushAnswers s draft held (Failed failure) device = IsFailure s draft held failure device
FlushAnswers s draft held OutOfMemory device = IsWant s draft held device
FlushAnswers s draft held step device = IsRest s draft held step device

-- the state behind a flush step, but for the device
abbrev pub flush_after : State → Draft → JobStep → State
flush_after s draft (Moved job call) = call_done draft s
flush_after s draft (Done job) = call_done draft s
flush_after s draft (Failed failure) = call_failed draft failure s
flush_after s draft step = s
