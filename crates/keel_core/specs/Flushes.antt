-- How a core goes on in a flush step.
use Rattle.std.specs.Prelude.{◌≡◌, ◌≢◌, ℕ, ◌+◌, ◌<◌, ◌^◌, ◌&&◌, not, nat_le, List, [], ◌∷◌, length, drop, Bool, Option, Some, None, Result, Ok, Err, option_map}
use Rattle.keel_base.specs.declared.limits.TheConstants.{LAST_NUMBER}
use Rattle.keel_base.specs.declared.failure.Counter.TheVariants.{FileNumber, JobNumber}
use Rattle.keel_disk.specs.Seen.{IsQuiet}
use Rattle.keel_draft.specs.Drafts.{Draft, IsTableFor, added_of, with_new}
use Rattle.keel_edit.specs.declared.edit.Added.{Added}
use Rattle.keel_flush.specs.Plans.{Job, draws_next, job_of, left_of, number_of}
use Rattle.keel_handler.specs.Recovery.{stops_work}
use Rattle.keel_machine.specs.declared.steps.JobStep.{JobStep}
use Rattle.keel_machine.specs.declared.steps.JobStep.TheVariants as step
use Rattle.keel_machine.specs.Flushing as machine
use Rattle.keel_machine.specs.Flushing.{first_log}
use Rattle.keel_machine.specs.States.{State, SegmentLog}
use Rattle.keel_machine.specs.Tests.{first_some, when, differing}
use Rattle.keel_machine.specs.Turns.{Answers, after}
use Rattle.keel_machine.specs.Turns as turns
use Rattle.keel_core.specs.Tables.{unopened}
use Rattle.keel_core.specs.Views.{CoreView, FullSegment, StandsFor, TakesTurn, has_booted, is_closed, with_device}

-- For the table that the job makes the step is a turn.
pub record FlushesTurn (old : CoreView) (held : Option ℕ) (made : JobStep) (new : CoreView) : Type 0 where
  pub draft : Draft
  pub turn : TakesTurn old (turns.Flushing draft held made) new

-- ---- rests

-- a full segment may be flushed
abbrev pub may_flush : CoreView → Bool
may_flush view = (has_booted view.boot && not (is_closed view.boot)) && (not (stops_work view.handler) && nat_le 1 (length view.immutable))

abbrev pub flush_rests : CoreView → Option Job → List (Option JobStep)
flush_rests view None =
    when (nat_le LAST_NUMBER view.flush_job) (step.Spent JobNumber) ∷ when (nat_le LAST_NUMBER view.next_file) (step.Spent FileNumber) ∷ []
flush_rests view (Some job) = when (draws_next (left_of job) && nat_le LAST_NUMBER view.next_file) (step.Spent FileNumber) ∷ []

-- What a flush step answers where it makes no call. It depends on what the core shows alone.
abbrev pub flush_rest_of : CoreView → Option ℕ → Option JobStep
flush_rest_of view held = first_some (
    option_map (λ job. step.Cancelled job view.flush_job) (differing held view.flush_job)
    ∷ when (not (may_flush view)) step.Idle
    ∷ first_some (flush_rests view view.flush)
    ∷ [])

-- the answers of a step that makes no call
abbrev pub IsRest : JobStep → Type 0
IsRest step.Idle = Unit {0}
IsRest (step.Spent counter) = Unit {0}
IsRest (step.Cancelled job current) = Unit {0}
IsRest _ = ⊥

-- ---- a flush that begins

-- the first log of these segments, or the active one's
abbrev pub log_in : List FullSegment → Option SegmentLog → ℕ
log_in [] None = 0
log_in [] (Some log) = log.number
log_in (full ∷ fulls) active = first_log full.logs

-- the log of the segment behind the oldest full one
abbrev pub next_log : CoreView → ℕ
next_log view = log_in (drop 1 view.immutable) view.log

-- the table of the first of these segments, which has a row
abbrev pub IsTableOfFirst : List FullSegment → Draft → Type 0
IsTableOfFirst [] draft = ⊥
IsTableOfFirst (full ∷ fulls) draft = (full.rows ≢ []) × IsTableFor full.rows draft

-- a flush of the oldest full segment, with which there are no more tables than a version may have
pub record IsNewFlush (view : CoreView) (job : Job) : Type 0 where
  pub draft : Draft
  pub is : IsTableOfFirst view.immutable draft
  pub few : length view.levels + 1 < 2 ^ 32
  pub job_is : job ≡ job_of (next_log view) draft

-- ---- a call of the flush

-- the flush of that number runs
abbrev pub with_flush : ℕ → Job → CoreView → CoreView
with_flush number job view = record view { flush = Some job; flush_job = number }

-- For each state in which this flush runs and its next call is made the answer has its cause.
pub record MakesCall (old : CoreView) (draft : Draft) (made : JobStep) (new : CoreView) : Type 0 where
  pub goes :
      (s : State) (held : Option ℕ) → StandsFor old s → machine.flush_rest s draft held ≡ None
      → Answers s (turns.Flushing draft held made) new.device × StandsFor new (after s (turns.Flushing draft held made) new.device)

-- a call was made
abbrev pub IsCall : JobStep → Type 0
IsCall (step.Moved job call) = Unit {0}
IsCall (step.Done job) = Unit {0}
IsCall (step.Failed failure) = Unit {0}
IsCall _ = ⊥

-- what was made, or want of memory
abbrev pub made_in : Result JobStep Job → JobStep
made_in (Ok made) = made
made_in (Err same) = step.OutOfMemory

-- a step of the flush, or want of memory, which leaves all as it was
abbrev pub Advances : CoreView → ℕ → Job → Result JobStep Job → CoreView → Type 0
Advances old number job (Ok made) new = IsCall made × MakesCall (with_flush number job old) job.draft made new
Advances old number job (Err same) new = IsQuiet old.device None new.device × ((new ≡ with_device new.device old) × (same ≡ job))

-- the version's tables behind the flush
abbrev pub tables_with : Job → List Added → List Added
tables_with job tables = with_new (λ (table : Added). table.level) tables (added_of (number_of job) job.draft ∷ [])

-- behind the last call: the oldest segment is gone, and these are the tables
abbrev pub flushed : List Added → CoreView → CoreView
flushed tables view = record view { immutable = drop 1 view.immutable; levels = unopened tables }

-- from a core in which that flush runs the step is a turn
pub record GoesOn (old : CoreView) (job : Job) (made : JobStep) (new : CoreView) : Type 0 where
  pub goes : (held : Option ℕ) → flush_rest_of (record old { flush = Some job }) held ≡ None → FlushesTurn (record old { flush = Some job }) held made new
