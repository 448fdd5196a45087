-- How a core goes on in a resume step.
use Rattle.std.specs.Prelude.{◌≡◌, ℕ, ◌+◌, ◌&&◌, nat_le, Bool, List, [], ◌∷◌, Option, Some, None, Result, Ok, Err, is_some, option_map}
use Rattle.keel_base.specs.declared.limits.TheConstants.{LAST_NUMBER}
use Rattle.keel_base.specs.declared.failure.Counter.TheVariants.{FileNumber, JobNumber}
use Rattle.keel_disk.specs.Seen.{IsQuiet}
use Rattle.keel_handler.specs.Recovery.{renewed}
use Rattle.keel_machine.specs.declared.steps.ResumeStep.{ResumeStep}
use Rattle.keel_machine.specs.declared.steps.ResumeStep.TheVariants as step
use Rattle.keel_machine.specs.Resuming as machine
use Rattle.keel_machine.specs.States.{State, Resumption, new_log}
use Rattle.keel_machine.specs.Tests.{first_some, when, differing}
use Rattle.keel_machine.specs.Turns.{Answers, after}
use Rattle.keel_machine.specs.Turns as turns
use Rattle.keel_draft.specs.Drafts.{Draft}
use Rattle.keel_resume.specs.Jobs.{draws_next, tables_of}
use Rattle.keel_resume.specs.Plans.{Job, left_of}
use Rattle.keel_core.specs.Tables.{unopened}
use Rattle.keel_core.specs.Trails as trails
use Rattle.keel_core.specs.Views.{BootShown, ToStart, Started, Running, Cleared, Closed, CoreView, StandsFor, TakesTurn, stopping_in, with_device}

-- For the tables that the job has before it the step is a turn.
pub record ResumesTurn (old : CoreView) (held : Option ℕ) (made : ResumeStep) (new : CoreView) : Type 0 where
  pub drafts : List Draft
  pub turn : TakesTurn old (turns.Resuming drafts held made) new

-- ---- rests

abbrev pub boot_rests : CoreView → BootShown → List (Option ResumeStep)
boot_rests view ToStart =
    when (is_some (stopping_in view)) step.Idle
    ∷ when (nat_le LAST_NUMBER view.boot_job) (step.Spent JobNumber)
    ∷ when (nat_le LAST_NUMBER view.next_file) (step.Spent FileNumber)
    ∷ []
boot_rests view (Started booted) = when (nat_le LAST_NUMBER view.next_file) (step.Spent FileNumber) ∷ []
boot_rests view (Running booted running) = when (draws_next (left_of running.job) && nat_le LAST_NUMBER view.next_file) (step.Spent FileNumber) ∷ []
boot_rests view Cleared = Some step.Idle ∷ []
boot_rests view (Closed booted) = Some step.Idle ∷ []

-- What a resume step answers where it makes no call. It depends on what the core shows alone.
abbrev pub boot_rest_of : CoreView → Option ℕ → Option ResumeStep
boot_rest_of view held = first_some (
    option_map (λ job. step.Cancelled job view.boot_job) (differing held view.boot_job)
    ∷ first_some (boot_rests view view.boot)
    ∷ [])

-- the answers of a step that makes no call
abbrev pub IsRest : ResumeStep → Type 0
IsRest step.Idle = Unit {0}
IsRest (step.Spent counter) = Unit {0}
IsRest (step.Cancelled job current) = Unit {0}
IsRest _ = ⊥

-- ---- a job that begins

-- a boot, or a resume that was asked for
abbrev pub IsToBegin : BootShown → Type 0
IsToBegin ToStart = Unit {0}
IsToBegin (Started booted) = Unit {0}
IsToBegin _ = ⊥

-- none runs
abbrev pub IsResting : BootShown → Type 0
IsResting (Running booted running) = ⊥
IsResting _ = Unit {0}

-- a resume that was asked for has its number already
abbrev pub next_number : BootShown → ℕ → ℕ
next_number (Started booted) number = number
next_number _ number = number + 1

-- the job that runs is taken out, where one does
abbrev pub Takes : CoreView → Option (Bool × Resumption) → CoreView → Type 0
Takes old (Some taken) new = (old.boot ≡ Running taken.0 taken.1) × (new ≡ record old { boot = ToStart })
Takes old None new = IsResting old.boot × (new ≡ old)

-- ---- a call of the job

-- the job of that number runs
abbrev pub with_boot : ℕ → Bool → Resumption → CoreView → CoreView
with_boot number booted running view = record view { boot = Running booted running; boot_job = number }

-- For each state in which this job runs and its next call is made the answer has its cause.
pub record MakesCall (old : CoreView) (drafts : List Draft) (made : ResumeStep) (new : CoreView) : Type 0 where
  pub goes :
      (s : State) (held : Option ℕ) → StandsFor old s → machine.resume_rest s drafts held ≡ None
      → Answers s (turns.Resuming drafts held made) new.device × StandsFor new (after s (turns.Resuming drafts held made) new.device)

-- a call was made
abbrev pub IsCall : ResumeStep → Type 0
IsCall (step.Moved job call) = Unit {0}
IsCall (step.Cleared job steps) = Unit {0}
IsCall (step.Failed failure) = Unit {0}
IsCall _ = ⊥

-- what was made, or want of memory
abbrev pub made_in : Result ResumeStep Resumption → ResumeStep
made_in (Ok made) = made
made_in (Err same) = step.OutOfMemory

-- a step of the job, from a core that took all segments over, or want of memory, which leaves all as it was
abbrev pub Advances : CoreView → CoreView → ℕ → Bool → Resumption → Result ResumeStep Resumption → CoreView → Type 0
Advances old taken number booted running (Ok made) new = IsCall made × MakesCall (with_boot number booted running taken) running.job.drafts made new
Advances old taken number booted running (Err same) new = IsQuiet old.device None new.device × ((new ≡ with_device new.device old) × (same ≡ running))

-- behind the last call
abbrev pub cleared : Job → CoreView → CoreView
cleared job view = record view {
  boot = Cleared;
  trail = trails.cleared view.trail;
  immutable = [];
  rows = [];
  log = option_map new_log job.progress.log;
  levels = unopened (tables_of job);
  handler = renewed None view.handler;
}

-- from a core in which that job runs the step is a turn
pub record GoesOn (old : CoreView) (booted : Bool) (running : Resumption) (made : ResumeStep) (new : CoreView) : Type 0 where
  pub goes :
      (held : Option ℕ) → boot_rest_of (record old { boot = Running booted running }) held ≡ None
      → ResumesTurn (record old { boot = Running booted running }) held made new
