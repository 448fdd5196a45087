-- What each write step, each resume step and each flush step of a run has.
use Rattle.std.specs.Prelude.{ℕ, zero, suc, Option, None, Some, List, [], ◌∷◌}
use Rattle.std.proofs.Common.{inl, inr}
use Rattle.keel_base.specs.declared.op.Batch.{Batch}
use Rattle.keel_base.specs.declared.options.Options.{Options}
use Rattle.keel_machine.specs.declared.steps.JobStep.TheVariants as job_step
use Rattle.keel_machine.specs.declared.steps.ResumeStep.TheVariants as boot_step
use Rattle.keel_machine.specs.declared.steps.WriteStep.{WriteStep}
use Rattle.keel_machine.specs.declared.steps.WriteStep.TheVariants as step
use Rattle.keel_machine.specs.States.{State}
use Rattle.keel_machine.specs.Turns.{Event, Resuming, Writing, Flushing}
use Rattle.keel_machine.specs.States.{is_open}
use Rattle.keel_script.specs.declared.command.Command.{Command}
use Rattle.keel_script.specs.declared.command.Command.TheVariants.{SetOption, Put, Del, Write, Flush, ResumeStep, Drain, Tick}
use Rattle.keel_script.specs.declared.reply.Reply.{Reply}
use Rattle.keel_cli.specs.declared.lines.LineStop.{LineStop}
use Rattle.keel_cli.specs.declared.lines.LineStop.TheVariants.{Refused, Unwritten, NoMemory}
use Rattle.keel_cli.specs.declared.lines.StopPlace.{StopPlace}
use Rattle.keel_cli.specs.Cuts.{StoreCutShort, CutShort}
use Rattle.keel_cli.specs.Drains.{Wrote, Round, Rounds, DrainRun, DrainCut}
use Rattle.keel_cli.specs.LineEnds.{Stops, LinesEnd}
use Rattle.keel_cli.specs.Puts.{put_batch, del_batch, Waits, PutRun, PutCut}
use Rattle.keel_cli.specs.Runs.{Calls, RestsOrCalls, rest_reply, Carries, CallsPartly, Run}
use Rattle.keel_cli.specs.Jobs.{Driven, driven}
use Rattle.keel_cli.specs.Sessions.{Session, driven_in}

-- what is said of a step, by the state before it, the step with its answer, and the state behind it
abbrev pub OfStep : Type 1
OfStep = State → Event → State → Type 0

-- each of these steps has it
abbrev pub EachWait : (Has : OfStep) (old : Driven) (ticket : ℕ) (steps : List WriteStep) (new : Driven) → Waits old ticket steps new → Type 0
EachWait Has old ticket [] new same = Unit {0}
EachWait Has old ticket (made ∷ earlier) new waits = EachWait Has old ticket earlier waits.0 waits.2 × Has waits.1 (Writing waits.0.jobs.write made) new.state

abbrev pub EachPut : (Has : OfStep) (old : Driven) (batch : Batch) (replies : List Reply) (new : Driven) → PutRun old batch replies new → Type 0
EachPut Has old batch replies new (inl refused) = Unit {0}
EachPut Has old batch replies new (inr (inl settled)) = EachWait Has (driven settled.queues.mid old.jobs) settled.ticket settled.steps settled.last settled.queues.waits
EachPut Has old batch replies new (inr (inr waits)) = EachWait Has (driven waits.queues.mid old.jobs) waits.ticket (waits.step ∷ waits.steps) new waits.queues.waits

abbrev pub EachPutCut : (Has : OfStep) (old : Driven) (batch : Batch) (new : Driven) → PutCut old batch new → Type 0
EachPutCut Has old batch new (inl turn) = Unit {0}
EachPutCut Has old batch new (inr cut) = EachWait Has (driven cut.2.mid old.jobs) cut.0 (step.OutOfMemory ∷ cut.1) new cut.2.waits

abbrev pub EachOfWrote : (Has : OfStep) (limit made : ℕ) (old : Driven) (moves : ℕ) (new : Driven) → Wrote limit made old moves new → Type 0
EachOfWrote Has limit made old moves new wrote =
    Has old.state (Resuming wrote.boot.drafts old.jobs.resume wrote.boot.step) wrote.mid.state
    × Has wrote.mid.state (Writing wrote.mid.jobs.write wrote.write.step) new.state

abbrev pub EachOfRound : (Has : OfStep) (limit made : ℕ) (old : Driven) (moves : ℕ) (new : Driven) → Round limit made old moves new → Type 0
EachOfRound Has limit made old moves new round =
    EachOfWrote Has limit made old round.before round.behind round.wrote
    × Has round.behind.state (Flushing round.flush.draft round.behind.jobs.flush round.flush.step) new.state

abbrev pub EachRound : (Has : OfStep) (limit : ℕ) (old : Driven) (rounds made : ℕ) (new : Driven) → Rounds limit old rounds made new → Type 0
EachRound Has limit old zero made new same = Unit {0}
EachRound Has limit old (suc rounds) made new went =
    EachRound Has limit old rounds went.1 went.0 went.3 × EachOfRound Has limit went.1 went.0 went.2 new went.4

abbrev pub EachDrain : (Has : OfStep) (limit : ℕ) (old : Driven) (replies : List Reply) (new : Driven) → DrainRun limit old replies new → Type 0
EachDrain Has limit old replies new (inl quiet) =
    EachRound Has limit old quiet.begun.rounds quiet.made quiet.last quiet.begun.went × EachOfRound Has limit quiet.made quiet.last 0 new quiet.round
EachDrain Has limit old replies new (inr (inl more)) =
    EachRound Has limit old more.begun.rounds more.made more.last more.begun.went
    × Has more.last.state (Resuming more.boot.drafts more.last.jobs.resume more.boot.step) new.state
EachDrain Has limit old replies new (inr (inr (inl more))) =
    EachRound Has limit old more.begun.rounds more.made more.last more.begun.went × EachOfWrote Has limit more.made more.last more.moves new more.wrote
EachDrain Has limit old replies new (inr (inr (inr more))) = EachRound Has limit old more.rounds limit new more.went

abbrev pub EachDrainCut : (Has : OfStep) (limit : ℕ) (old new : Driven) → DrainCut limit old new → Type 0
EachDrainCut Has limit old new (inl cut) =
    EachRound Has limit old cut.begun.rounds cut.made cut.last cut.begun.went
    × Has cut.last.state (Resuming cut.drafts cut.last.jobs.resume boot_step.OutOfMemory) new.state
EachDrainCut Has limit old new (inr (inl cut)) =
    EachRound Has limit old cut.begun.rounds cut.made cut.last cut.begun.went
    × Has cut.last.state (Resuming cut.boot.drafts cut.last.jobs.resume cut.boot.step) cut.mid.state
    × Has cut.mid.state (Writing cut.mid.jobs.write step.OutOfMemory) new.state
EachDrainCut Has limit old new (inr (inr cut)) =
    EachRound Has limit old cut.begun.rounds cut.made cut.last cut.begun.went
    × EachOfWrote Has limit cut.made cut.last cut.moves cut.behind cut.wrote
    × Has cut.behind.state (Flushing cut.draft cut.behind.jobs.flush job_step.OutOfMemory) new.state

-- each step that a command made
abbrev pub EachCall : (Has : OfStep) (options : Options) (old : Driven) (command : Command) (replies : List Reply) (new : Driven) → Calls options old command replies new → Type 0
EachCall Has options old (Put key value sync) replies new run = EachPut Has old (put_batch key value sync) replies new run
EachCall Has options old (Del key sync) replies new run = EachPut Has old (del_batch key sync) replies new run
EachCall Has options old Write replies new run = Has old.state (Writing old.jobs.write run.step) new.state
EachCall Has options old Flush replies new run = Has old.state (Flushing run.draft old.jobs.flush run.step) new.state
EachCall Has options old ResumeStep replies new run = Has old.state (Resuming run.drafts old.jobs.resume run.step) new.state
EachCall Has options old (Drain moves) replies new run = EachDrain Has moves old replies new run
EachCall Has options old command replies new run = Unit {0}

abbrev pub EachOnStore : (Has : OfStep) (options : Options) (r : Option Reply) (old : Driven) (command : Command) (replies : List Reply) (new : Driven) → RestsOrCalls options r old command replies new → Type 0
EachOnStore Has options (Some reply) old command replies new rests = Unit {0}
EachOnStore Has options None old command replies new run = EachCall Has options old command replies new run

abbrev pub EachOf : (Has : OfStep) (old : Session) (command : Command) (replies : List Reply) (new : Session) → Carries old command replies new → Type 0
EachOf Has old (SetOption name value) replies new run = Unit {0}
EachOf Has old (Tick ticks) replies new run = Unit {0}
EachOf Has old command replies new run = EachOnStore Has old.options (rest_reply (is_open old.store.mode.phase) command) (driven_in old) command replies (driven_in new) run.carries

-- each that was made before memory ended at a command
abbrev pub EachPartly : (Has : OfStep) (options : Options) (old : Driven) (command : Command) (new : Driven) → CallsPartly options old command new → Type 0
EachPartly Has options old (Put key value sync) new cut = EachPutCut Has old (put_batch key value sync) new cut
EachPartly Has options old (Del key sync) new cut = EachPutCut Has old (del_batch key sync) new cut
EachPartly Has options old Write new turn = Has old.state (Writing old.jobs.write step.OutOfMemory) new.state
EachPartly Has options old Flush new cut = Has old.state (Flushing cut.0 old.jobs.flush job_step.OutOfMemory) new.state
EachPartly Has options old ResumeStep new cut = Has old.state (Resuming cut.0 old.jobs.resume boot_step.OutOfMemory) new.state
EachPartly Has options old (Drain moves) new cut = EachDrainCut Has moves old new cut
EachPartly Has options old command new cut = Unit {0}

abbrev pub EachStoreCut : (Has : OfStep) (options : Options) (old : Driven) (command : Command) (new : Driven) → StoreCutShort options old command new → Type 0
EachStoreCut Has options old command new (inl same) = Unit {0}
EachStoreCut Has options old command new (inr (inl carries)) = EachOnStore Has options (rest_reply (is_open old.state.mode.phase) command) old command carries.0 new carries.1
EachStoreCut Has options old command new (inr (inr cut)) = EachPartly Has options old command new cut.1

abbrev pub EachCut : (Has : OfStep) (old : Session) (command : Command) (new : Session) → CutShort old command new → Type 0
EachCut Has old command new (inl short) = EachStoreCut Has old.options (driven_in old) command (driven_in new) short.cut
EachCut Has old command new (inr carries) = EachOf Has old command carries.0 new carries.1

-- each step of the commands of a run
abbrev pub EachRun : (Has : OfStep) (commands : List Command) (old : Session) (replies : List Reply) (new : Session) → Run old commands replies new → Type 0
EachRun Has [] old replies new same = Unit {0}
EachRun Has (command ∷ commands) old replies new run = EachOf Has old command run.1 run.0 run.3 × EachRun Has commands run.0 run.2 new run.4

abbrev pub EachStopped : (Has : OfStep) (stop : LineStop) (old : Session) (held : Option (List ℕ)) (line : List ℕ) (new : Session) (holds : Option (List ℕ)) → Stops stop old held line new holds → Type 0
EachStopped Has Refused old held line new holds stops = Unit {0}
EachStopped Has Unwritten old held line new holds stops = EachOf Has old stops.0 stops.2.replies new stops.2.carries
EachStopped Has NoMemory old held line new holds (inl same, quiet) = Unit {0}
EachStopped Has NoMemory old held line new holds (inr stops, quiet) = EachCut Has old stops.0 new stops.2

-- each step of a run over lines
abbrev pub EachEnd : (Has : OfStep) (stop : Option StopPlace) (old : Session) (held : Option (List ℕ)) (lines : List (List ℕ)) (new : Session) (holds : Option (List ℕ)) → LinesEnd stop old held lines new holds → Type 0
EachEnd Has None old held lines new holds progress = EachRun Has progress.commands old progress.replies new progress.run
EachEnd Has (Some at) old held lines new holds stops =
    EachRun Has stops.progress.commands old stops.progress.replies stops.mid stops.progress.run
    × EachStopped Has at.stop stops.mid stops.holds_mid stops.line new holds stops.stops
