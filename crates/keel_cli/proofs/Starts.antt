-- What asking for a resume leaves: the story, the queue and the phase as they are, and no group in flight where one is started.
use Rattle.std.proofs.Common.{◌≡◌, ◌∙◌, ap, refl, true, [], ◌∷◌, Option, Some, None}
use Rattle.std.specs.Prelude.{map}
use Rattle.keel_base.specs.declared.failure.Failure.{Failure}
use Rattle.keel_machine.specs.declared.answers.Outcome.TheVariants as outcome
use Rattle.keel_machine.specs.declared.answers.Start.{Start}
use Rattle.keel_machine.specs.declared.answers.Start.TheVariants as start
use Rattle.keel_machine.specs.Admission.{standing, tickets_of_group}
use Rattle.keel_machine.specs.Starting.{forgotten, group_turned, job_started, start_after}
use Rattle.keel_machine.specs.States.{Mode, State, is_open}
use Rattle.keel_machine.specs.Turns.{Starting, after}
use Rattle.keel_machine.specs.WritingAfter.{settled}
use Rattle.keel_core.specs.Views.{CoreView, StandsFor, TakesTurn}
use Rattle.keel_script.specs.declared.reply.Reply.{Reply}
use Rattle.keel_cli.specs.declared.holding.HeldJobs.{HeldJobs}
use Rattle.keel_cli.specs.Jobs.{driven, start_held}
use Rattle.keel_cli.specs.Starts.{StartRun, start_reply}
use Rattle.keel_cli.specs.Stores.{AreTold, CoreLeads, StandsForSome}
use Rattle.keel_cli.proofs.Tickets.{stays_told, told_append, told_given}

-- the states that it may leave
pub each_start : (P : State → Type 0) (s : State) (answer : Start) → P s → P (forgotten s) → P (job_started s)
    → ((failure : Failure) → P (job_started (settled (tickets_of_group s.jobs.write.running) (outcome.Failed failure) s))) → P (start_after s answer)
each_start P s start.Closing same over alone failed = same
each_start P s start.Nothing same over alone failed = same
each_start P s (start.Busy job) same over alone failed = same
each_start P s (start.Beyond failure) same over alone failed = same
each_start P s start.Cleared same over alone failed = over
each_start P s (start.Spent counter) same over alone failed = same
each_start P s (start.Started job) same over alone failed = by (standing s)
  where
    by : (failure : Option Failure) → P (job_started (group_turned failure s))
    by None = alone
    by (Some failure) = failed failure

pub record IsStillThere (s next : State) : Type 0 where
  pub footing : next.footing ≡ s.footing
  pub mode : next.mode ≡ s.mode
  pub story : next.story ≡ s.story
  pub waiting : next.writing.waiting ≡ s.writing.waiting
  pub last : next.writing.last_ticket ≡ s.writing.last_ticket

pub still_there : (s : State) (answer : Start) → IsStillThere s (start_after s answer)
still_there s answer =
    each_start (IsStillThere s) s answer
    (record { footing = refl; mode = refl; story = refl; waiting = refl; last = refl })
    (record { footing = refl; mode = refl; story = refl; waiting = refl; last = refl })
    (record { footing = refl; mode = refl; story = refl; waiting = refl; last = refl })
    (λ failure. record { footing = refl; mode = refl; story = refl; waiting = refl; last = refl })

-- a store that is open stays so
pub open_started : (s : State) (answer : Start) → is_open s.mode.phase ≡ true → is_open (start_after s answer).mode.phase ≡ true
open_started s answer opened = ap (λ (m : Mode). is_open m.phase) (still_there s answer).mode ∙ opened

told_started : (answer : Start) (s : State) → AreTold s.writing.outcomes → AreTold (start_after s answer).writing.outcomes
told_started answer s told =
    each_start (λ next. AreTold next.writing.outcomes) s answer told told told
    (λ failure. told_append s.writing.outcomes (map (λ ticket. (ticket, outcome.Failed failure)) (tickets_of_group s.jobs.write.running)) told
    (told_given (outcome.Failed failure) (tickets_of_group s.jobs.write.running) tt))

-- ---- as a command

pub start_told : (core new : CoreView) (answer : Start) → TakesTurn core (Starting answer) new → StandsForSome core → StandsForSome new
start_told core new answer turns told = stays_told core new (Starting answer) turns (λ s. told_started answer s) told

pub start_run : (core new : CoreView) (jobs behind : HeldJobs) (answer : Start) (told : Reply) → TakesTurn core (Starting answer) new
    → behind ≡ record jobs { resume = start_held answer jobs.resume } → told ≡ start_reply answer
    → (s : State) → StandsFor core s → CoreLeads new (λ next. StartRun (driven s jobs) (told ∷ []) (driven next behind))
start_run core new jobs behind answer told turns is prints s stands =
    let went = turns.goes s stands in (
      after s (Starting answer) new.device,
      went.1,
      record { answer = answer; turn = record { turn = (went.0, refl); jobs = is }; prints = ap (λ (r : Reply). r ∷ []) prints },
    )
