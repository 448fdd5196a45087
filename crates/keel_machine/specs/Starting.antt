-- Asking for a resume: its tests in their order, and what a start cancels.
use Rattle.std.specs.Prelude.{◌≡◌, ℕ, ◌+◌, ◌==◌, ◌&&◌, ◌||◌, not, nat_le, Bool, true, [], ◌∷◌, Option, Some, None, is_some, unwrap_or, if◌then◌else◌}
use Rattle.keel_base.specs.declared.limits.TheConstants.{LAST_NUMBER}
use Rattle.keel_base.specs.declared.failure.Counter.TheVariants.{JobNumber}
use Rattle.keel_base.specs.declared.failure.Failure.{Failure}
use Rattle.keel_handler.specs.Failures.{standing_severity}
use Rattle.keel_machine.specs.declared.answers.Outcome.TheVariants as outcome
use Rattle.keel_machine.specs.declared.answers.Start.{Start}
use Rattle.keel_machine.specs.declared.answers.Start.TheVariants.{Closing, Nothing, Busy, Beyond, Cleared, Spent, Started}
use Rattle.keel_machine.specs.Admission.{standing, tickets_of_group}
use Rattle.keel_machine.specs.Flushing.{is_work_stopped}
use Rattle.keel_machine.specs.States.{State, Jobs, Slot, is_closing}
use Rattle.keel_machine.specs.Tests.{first_some, when}
use Rattle.keel_machine.specs.WritingAfter.{settled}

-- how bad the standing error is: 0 where none stands
abbrev pub severity : State → ℕ
severity s = standing_severity s.options.paranoid (standing s)

-- ---- tests

-- a job was asked for and isn't over, or the store's boot is under way
abbrev pub is_resuming : State → Bool
is_resuming s = s.jobs.started || is_some s.jobs.resume.running

-- a failure that no resume clears
abbrev pub beyond : ℕ → Option Failure → Option Start
beyond severity None = None
beyond severity (Some failure) = when (nat_le 3 severity) (Beyond failure)

-- the slot's running job would be cancelled, and the slot has no number left for it
abbrev pub is_slot_spent : {J : Type 0} → Slot J → Bool
is_slot_spent slot = is_some slot.running && nat_le LAST_NUMBER slot.number

-- a number that the start would draw is past its end
abbrev pub is_number_spent : Jobs → Bool
is_number_spent jobs = nat_le LAST_NUMBER jobs.resume.number || (is_slot_spent jobs.write || is_slot_spent jobs.flush)

-- the first test that holds, in the order of the tests
abbrev pub start_test : State → Option Start
start_test s = first_some (
    when (is_closing s.mode.phase) Closing
    ∷ when (not (is_work_stopped s)) Nothing
    ∷ when (is_resuming s) (Busy s.jobs.resume.number)
    ∷ beyond (severity s) (standing s)
    ∷ when (severity s == 1) Cleared
    ∷ when (is_number_spent s.jobs) (Spent JobNumber)
    ∷ [])

-- where none holds a resume is started, under the slot's next number
abbrev pub start_answer : State → Start
start_answer s = unwrap_or (start_test s) (Started (s.jobs.resume.number + 1))

-- asking takes no memory, so there is one answer
abbrev pub StartAnswers : State → Start → Type 0
StartAnswers s start = start ≡ start_answer s

-- ---- what a start leaves

-- no failure stands
abbrev pub forgotten : State → State
forgotten s = record s { failing = record { failures = [] } }

-- its running job is cancelled; the next number is drawn, so that whoever holds the job's own is told
abbrev pub cancelled_slot : {J : Type 0} → Slot J → Slot J
cancelled_slot slot = record { number = if is_some slot.running then slot.number + 1 else slot.number; running = None }

-- the tickets of the group in flight get the standing error as their outcome
abbrev pub group_turned : Option Failure → State → State
group_turned None s = s
group_turned (Some failure) s = settled (tickets_of_group s.jobs.write.running) (outcome.Failed failure) s

-- a resume has a number; the group in flight and the flush are cancelled
abbrev pub job_started : State → State
job_started s = record s {
  jobs = record {
    write = cancelled_slot s.jobs.write;
    flush = cancelled_slot s.jobs.flush;
    resume = record { number = s.jobs.resume.number + 1; running = None };
    started = true;
  };
}

abbrev pub start_after : State → Start → State
start_after s Cleared = forgotten s
start_after s (Started job) = job_started (group_turned (standing s) s)
start_after s start = s
