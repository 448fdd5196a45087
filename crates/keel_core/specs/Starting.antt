-- What a core answers to a call that asks for a resume, and what it leaves.
use Rattle.std.specs.Prelude.{◌≡◌, ℕ, ◌+◌, ◌<◌, ◌^◌, ◌==◌, ◌&&◌, ◌||◌, not, nat_le, Bool, true, false, [], ◌∷◌, ◌++◌, Option, Some, None, Result, Ok, Err, is_some, if◌then◌else◌}
use Rattle.keel_base.specs.declared.limits.TheConstants.{LAST_NUMBER}
use Rattle.keel_base.specs.declared.failure.Counter.TheVariants.{JobNumber}
use Rattle.keel_base.specs.declared.failure.Failure.{Failure}
use Rattle.keel_handler.specs.Failures.{severity, standing_severity}
use Rattle.keel_handler.specs.Recovery.{renewed, stops_work}
use Rattle.keel_machine.specs.declared.answers.Outcome.TheVariants as outcome
use Rattle.keel_machine.specs.declared.answers.Start.{Start}
use Rattle.keel_machine.specs.declared.answers.Start.TheVariants as start
use Rattle.keel_machine.specs.Starting.{beyond}
use Rattle.keel_machine.specs.Tests.{first_some, when}
use Rattle.keel_core.specs.Flights.{tickets_flying}
use Rattle.keel_core.specs.Queues.{given}
use Rattle.keel_core.specs.Views.{BootShown, Started, Running, CoreView, has_booted, is_closed}

-- ---- tests

-- a resume was asked for and isn't over, or the boot is under way
abbrev pub is_resuming : BootShown → Bool
is_resuming (Started booted) = true
is_resuming (Running booted running) = true
is_resuming _ = false

-- what a slot's number is behind a start, which cancels what runs
abbrev pub number_behind : Bool → ℕ → ℕ
number_behind runs number = if runs then number + 1 else number

abbrev pub is_slot_spent : Bool → ℕ → Bool
is_slot_spent runs number = runs && nat_le LAST_NUMBER number

-- a number that a start would draw is past its end
abbrev pub is_number_spent : CoreView → Bool
is_number_spent view =
    nat_le LAST_NUMBER view.boot_job || (is_slot_spent (is_some view.group) view.job || is_slot_spent (is_some view.flush) view.flush_job)

abbrev pub severity_in : CoreView → ℕ
severity_in view = standing_severity view.handler.paranoid view.handler.standing

-- The first test that holds. It depends on what the core shows alone.
abbrev pub start_test_of : CoreView → Option Start
start_test_of view = first_some (
    when (is_closed view.boot) start.Closing
    ∷ when (not (stops_work view.handler)) start.Nothing
    ∷ when (is_resuming view.boot) (start.Busy view.boot_job)
    ∷ beyond (severity_in view) view.handler.standing
    ∷ when (severity_in view == 1) start.Cleared
    ∷ when (is_number_spent view) (start.Spent JobNumber)
    ∷ [])

-- what a failure that stands says alone
abbrev pub graded_of : Bool → Failure → Option Start
graded_of paranoid failure = first_some (
    when (nat_le 3 (severity paranoid failure)) (start.Beyond failure)
    ∷ when (severity paranoid failure == 1) start.Cleared
    ∷ [])

-- where no test holds a resume is started against the failure that stands
abbrev pub Tests : CoreView → Result Failure Start → Type 0
Tests view (Ok failure) = (start_test_of view ≡ None) × (view.handler.standing ≡ Some failure)
Tests view (Err answer) = start_test_of view ≡ Some answer

-- the numbers that a start draws are below their ends
pub record MayStart (view : CoreView) : Type 0 where
  pub resume : view.boot_job < 2 ^ 56
  pub write : is_some view.group ≡ true → view.job < 2 ^ 56
  pub flush : is_some view.flush ≡ true → view.flush_job < 2 ^ 56

-- ---- what a start leaves

-- the group in flight is over, and its tickets have the failure as their outcome
abbrev pub group_cancelled : Failure → CoreView → CoreView
group_cancelled failure view = record view {
  group = None;
  outcomes = view.outcomes ++ given (outcome.Failed failure) (tickets_flying view.group);
  job = number_behind (is_some view.group) view.job;
}

abbrev pub flush_cancelled : CoreView → CoreView
flush_cancelled view = record view { flush = None; flush_job = number_behind (is_some view.flush) view.flush_job }

-- a resume was asked for
abbrev pub marked : CoreView → CoreView
marked view = record view { boot = Started (has_booted view.boot); boot_job = view.boot_job + 1 }

abbrev pub started : Failure → CoreView → CoreView
started failure view = marked (flush_cancelled (group_cancelled failure view))

-- no failure stands
abbrev pub forgotten : CoreView → CoreView
forgotten view = record view { handler = renewed None view.handler }

-- where none is started
abbrev pub answered : Start → CoreView → CoreView
answered start.Cleared view = forgotten view
answered answer view = view
