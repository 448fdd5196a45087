-- What every write step, every resume step and every flush step of the machine has, each of a run has.
use Rattle.std.proofs.Common.{◌≡◌, ℕ, zero, suc, Bool, true, false, Option, None, Some, List, [], ◌∷◌, refl, inl, inr}
use Rattle.keel_base.specs.declared.op.Batch.{Batch}
use Rattle.keel_machine.specs.declared.answers.Admit.TheVariants as admit
use Rattle.keel_machine.specs.declared.answers.Outcome.TheVariants as outcome
use Rattle.keel_base.specs.declared.options.Options.{Options}
use Rattle.keel_draft.specs.Drafts.{Draft}
use Rattle.keel_machine.specs.declared.steps.JobStep.{JobStep}
use Rattle.keel_machine.specs.declared.steps.JobStep.TheVariants as job_step
use Rattle.keel_machine.specs.declared.steps.ResumeStep.{ResumeStep as BootStep}
use Rattle.keel_machine.specs.declared.steps.ResumeStep.TheVariants as boot_step
use Rattle.keel_machine.specs.declared.steps.WriteStep.{WriteStep}
use Rattle.keel_machine.specs.declared.steps.WriteStep.TheVariants as step
use Rattle.keel_machine.specs.States.{State}
use Rattle.keel_machine.specs.Turns.{Event, Resuming, Writing, Flushing, Turn}
use Rattle.keel_recovery.specs.Machine.{MayCall}
use Rattle.keel_machine.specs.States.{is_open}
use Rattle.keel_script.specs.declared.command.Command.{Command}
use Rattle.keel_script.specs.declared.command.Command.TheVariants.{SetOption, Put, Del, Write, Flush, ResumeStep, Drain, Tick}
use Rattle.keel_script.specs.declared.reply.Reply.{Reply}
use Rattle.keel_cli.specs.declared.lines.LineStop.{LineStop}
use Rattle.keel_cli.specs.declared.lines.LineStop.TheVariants.{Refused, Unwritten, NoMemory}
use Rattle.keel_cli.specs.declared.lines.StopPlace.{StopPlace}
use Rattle.keel_cli.specs.Cuts.{StoreCutShort, CutShort}
use Rattle.keel_cli.specs.Drains.{Wrote, Round, Rounds, DrainRun, DrainCut}
use Rattle.keel_cli.specs.LineEnds.{Stops, LinesEnd}
use Rattle.keel_cli.specs.Inside.{OfStep, EachWait, EachPut, EachPutCut, EachOfWrote, EachOfRound, EachRound, EachDrain, EachDrainCut, EachCall, EachOnStore, EachOf, EachPartly, EachStoreCut, EachCut, EachRun, EachStopped, EachEnd}
use Rattle.keel_cli.specs.Puts.{put_batch, del_batch, Waits, PutRun, PutCut}
use Rattle.keel_cli.specs.Runs.{rest_reply, Calls, RestsOrCalls, Carries, CallsPartly, Run}
use Rattle.keel_cli.specs.Jobs.{Driven, driven}
use Rattle.keel_cli.specs.Sessions.{Session, driven_in}
use Rattle.keel_cli.proofs.Keeping.{IsKept, admitted, booted, taken, waited, went, wrote, carried, progressed}

none_some : {A P : Type 0} (x : A) → Some x ≡ None → P
none_some x e = cc

module _ (C : State → Type 0) (keep : (old new : State) (event : Event) → MayCall old event → Turn old event new → C old → C new) (Has : OfStep)
    (has : (old new : State) (held : Option ℕ) (made : WriteStep) → is_open old.mode.phase ≡ true → Turn old (Writing held made) new → C old → Has old (Writing held made) new)
    (has_boot : (old new : State) (drafts : List Draft) (held : Option ℕ) (made : BootStep) → is_open old.mode.phase ≡ true → Turn old (Resuming drafts held made) new → C old
    → Has old (Resuming drafts held made) new)
    (has_flush : (old new : State) (draft : Draft) (held : Option ℕ) (made : JobStep) → Turn old (Flushing draft held made) new → C old → Has old (Flushing draft held made) new) where
  -- ---- writes and drains

  each_wait : (old new : Driven) (ticket : ℕ) (steps : List WriteStep) (waits : Waits old ticket steps new) → IsKept C keep old.state → EachWait Has old ticket steps new waits
  each_wait old new ticket [] same is = tt
  each_wait old new ticket (made ∷ earlier) waits is =
      let before = taken C keep waits.0.state waits.1 ticket outcome.Waiting waits.3 (waited C keep old waits.0 ticket earlier waits.2 is) in
      (each_wait old waits.0 ticket earlier waits.2 is, has waits.1 new.state waits.0.jobs.write made before.opened waits.4.turn before.kept)

  each_put : (old new : Driven) (batch : Batch) (replies : List Reply) (run : PutRun old batch replies new) → IsKept C keep old.state → EachPut Has old batch replies new run
  each_put old new batch replies (inl refused) is = tt
  each_put old new batch replies (inr (inl settled)) is =
      each_wait (driven settled.queues.mid old.jobs) settled.last settled.ticket settled.steps settled.queues.waits
      (admitted C keep old.state settled.queues.mid batch (admit.Queued settled.ticket) settled.queues.queued is)
  each_put old new batch replies (inr (inr waits)) is =
      each_wait (driven waits.queues.mid old.jobs) new waits.ticket (waits.step ∷ waits.steps) waits.queues.waits
      (admitted C keep old.state waits.queues.mid batch (admit.Queued waits.ticket) waits.queues.queued is)

  each_put_cut : (old new : Driven) (batch : Batch) (cut : PutCut old batch new) → IsKept C keep old.state → EachPutCut Has old batch new cut
  each_put_cut old new batch (inl turn) is = tt
  each_put_cut old new batch (inr cut) is =
      each_wait (driven cut.2.mid old.jobs) new cut.0 (step.OutOfMemory ∷ cut.1) cut.2.waits (admitted C keep old.state cut.2.mid batch (admit.Queued cut.0) cut.2.queued is)

  each_of_wrote : (limit made : ℕ) (old : Driven) (moves : ℕ) (new : Driven) (half : Wrote limit made old moves new) → IsKept C keep old.state → EachOfWrote Has limit made old moves new half
  each_of_wrote limit made old moves new half is =
      let before = booted C keep old half.mid half.of_boot half.boot is in (
        has_boot old.state half.mid.state half.boot.drafts old.jobs.resume half.boot.step is.opened half.boot.turn.turn is.kept,
        has half.mid.state new.state half.mid.jobs.write half.write.step before.opened half.write.turn.turn before.kept,
      )

  each_of_round : (limit made : ℕ) (old : Driven) (moves : ℕ) (new : Driven) (round : Round limit made old moves new) → IsKept C keep old.state → EachOfRound Has limit made old moves new round
  each_of_round limit made old moves new round is =
      let before = wrote C keep limit made old round.before round.behind round.wrote is in
      (each_of_wrote limit made old round.before round.behind round.wrote is, has_flush round.behind.state new.state round.flush.draft round.behind.jobs.flush round.flush.step round.flush.turn.turn before.kept)

  each_round : (limit : ℕ) (old : Driven) (rounds made : ℕ) (new : Driven) (gone : Rounds limit old rounds made new) → IsKept C keep old.state → EachRound Has limit old rounds made new gone
  each_round limit old zero made new same is = tt
  each_round limit old (suc rounds) made new gone is = (
    each_round limit old rounds gone.1 gone.0 gone.3 is,
    each_of_round limit gone.1 gone.0 gone.2 new gone.4 (went C keep limit old rounds gone.1 gone.0 gone.3 is),
  )

  each_drain : (limit : ℕ) (old new : Driven) (replies : List Reply) (run : DrainRun limit old replies new) → IsKept C keep old.state → EachDrain Has limit old replies new run
  each_drain limit old new replies (inl quiet) is = (
    each_round limit old quiet.begun.rounds quiet.made quiet.last quiet.begun.went is,
    each_of_round limit quiet.made quiet.last 0 new quiet.round (went C keep limit old quiet.begun.rounds quiet.made quiet.last quiet.begun.went is),
  )
  each_drain limit old new replies (inr (inl more)) is =
      let before = went C keep limit old more.begun.rounds more.made more.last more.begun.went is in
      (each_round limit old more.begun.rounds more.made more.last more.begun.went is, has_boot more.last.state new.state more.boot.drafts more.last.jobs.resume more.boot.step before.opened more.boot.turn.turn before.kept)
  each_drain limit old new replies (inr (inr (inl more))) is = (
    each_round limit old more.begun.rounds more.made more.last more.begun.went is,
    each_of_wrote limit more.made more.last more.moves new more.wrote (went C keep limit old more.begun.rounds more.made more.last more.begun.went is),
  )
  each_drain limit old new replies (inr (inr (inr more))) is = each_round limit old more.rounds limit new more.went is

  each_drain_cut : (limit : ℕ) (old new : Driven) (cut : DrainCut limit old new) → IsKept C keep old.state → EachDrainCut Has limit old new cut
  each_drain_cut limit old new (inl cut) is =
      let before = went C keep limit old cut.begun.rounds cut.made cut.last cut.begun.went is in
      (each_round limit old cut.begun.rounds cut.made cut.last cut.begun.went is, has_boot cut.last.state new.state cut.drafts cut.last.jobs.resume boot_step.OutOfMemory before.opened cut.turn.turn before.kept)
  each_drain_cut limit old new (inr (inl cut)) is =
      let before = went C keep limit old cut.begun.rounds cut.made cut.last cut.begun.went is in
      let at = booted C keep cut.last cut.mid cut.of_boot cut.boot before in (
        each_round limit old cut.begun.rounds cut.made cut.last cut.begun.went is,
        has_boot cut.last.state cut.mid.state cut.boot.drafts cut.last.jobs.resume cut.boot.step before.opened cut.boot.turn.turn before.kept,
        has cut.mid.state new.state cut.mid.jobs.write step.OutOfMemory at.opened cut.turn.turn at.kept,
      )
  each_drain_cut limit old new (inr (inr cut)) is =
      let before = went C keep limit old cut.begun.rounds cut.made cut.last cut.begun.went is in
      let at = wrote C keep limit cut.made cut.last cut.moves cut.behind cut.wrote before in (
        each_round limit old cut.begun.rounds cut.made cut.last cut.begun.went is,
        each_of_wrote limit cut.made cut.last cut.moves cut.behind cut.wrote before,
        has_flush cut.behind.state new.state cut.draft cut.behind.jobs.flush job_step.OutOfMemory cut.turn.turn at.kept,
      )

  -- ---- commands

  each_call : (options : Options) (b : Bool) (old new : Driven) (command : Command) (replies : List Reply) → is_open old.state.mode.phase ≡ b → rest_reply b command ≡ None
      → (run : Calls options old command replies new) → C old.state → EachCall Has options old command replies new run
  each_call options true old new (Put key value sync) replies opened none run kept = each_put old new (put_batch key value sync) replies run (record { opened = opened; kept = kept })
  each_call options false old new (Put key value sync) replies opened none run kept = none_some _ none
  each_call options true old new (Del key sync) replies opened none run kept = each_put old new (del_batch key sync) replies run (record { opened = opened; kept = kept })
  each_call options false old new (Del key sync) replies opened none run kept = none_some _ none
  each_call options true old new Write replies opened none run kept = has old.state new.state old.jobs.write run.step opened run.turn.turn kept
  each_call options false old new Write replies opened none run kept = none_some _ none
  each_call options true old new Flush replies opened none run kept = has_flush old.state new.state run.draft old.jobs.flush run.step run.turn.turn kept
  each_call options false old new Flush replies opened none run kept = none_some _ none
  each_call options true old new ResumeStep replies opened none run kept = has_boot old.state new.state run.drafts old.jobs.resume run.step opened run.turn.turn kept
  each_call options false old new ResumeStep replies opened none run kept = none_some _ none
  each_call options true old new (Drain moves) replies opened none run kept = each_drain moves old new replies run (record { opened = opened; kept = kept })
  each_call options false old new (Drain moves) replies opened none run kept = none_some _ none
  each_call options b old new command replies opened none run kept = tt

  each_on_store : (options : Options) (r : Option Reply) (old new : Driven) (command : Command) (replies : List Reply) → rest_reply (is_open old.state.mode.phase) command ≡ r
      → (run : RestsOrCalls options r old command replies new) → C old.state → EachOnStore Has options r old command replies new run
  each_on_store options (Some reply) old new command replies is rests kept = tt
  each_on_store options None old new command replies is run kept = each_call options (is_open old.state.mode.phase) old new command replies refl is run kept

  each_partly : (options : Options) (b : Bool) (old new : Driven) (command : Command) → is_open old.state.mode.phase ≡ b → rest_reply b command ≡ None
      → (cut : CallsPartly options old command new) → C old.state → EachPartly Has options old command new cut
  each_partly options true old new (Put key value sync) opened none cut kept = each_put_cut old new (put_batch key value sync) cut (record { opened = opened; kept = kept })
  each_partly options false old new (Put key value sync) opened none cut kept = none_some _ none
  each_partly options true old new (Del key sync) opened none cut kept = each_put_cut old new (del_batch key sync) cut (record { opened = opened; kept = kept })
  each_partly options false old new (Del key sync) opened none cut kept = none_some _ none
  each_partly options true old new Write opened none turn kept = has old.state new.state old.jobs.write step.OutOfMemory opened turn.turn kept
  each_partly options false old new Write opened none turn kept = none_some _ none
  each_partly options true old new Flush opened none cut kept = has_flush old.state new.state cut.0 old.jobs.flush job_step.OutOfMemory cut.1.turn kept
  each_partly options false old new Flush opened none cut kept = none_some _ none
  each_partly options true old new ResumeStep opened none cut kept = has_boot old.state new.state cut.0 old.jobs.resume boot_step.OutOfMemory opened cut.1.turn kept
  each_partly options false old new ResumeStep opened none cut kept = none_some _ none
  each_partly options true old new (Drain moves) opened none cut kept = each_drain_cut moves old new cut (record { opened = opened; kept = kept })
  each_partly options false old new (Drain moves) opened none cut kept = none_some _ none
  each_partly options b old new command opened none cut kept = tt

  each_store_cut : (options : Options) (old new : Driven) (command : Command) (cut : StoreCutShort options old command new) → C old.state → EachStoreCut Has options old command new cut
  each_store_cut options old new command (inl same) kept = tt
  each_store_cut options old new command (inr (inl carries)) kept =
      each_on_store options (rest_reply (is_open old.state.mode.phase) command) old new command carries.0 refl carries.1 kept
  each_store_cut options old new command (inr (inr cut)) kept = each_partly options (is_open old.state.mode.phase) old new command refl cut.0 cut.1 kept

  each_of : (old new : Session) (command : Command) (replies : List Reply) (run : Carries old command replies new) → C old.store → EachOf Has old command replies new run
  each_of old new (SetOption name value) replies run kept = tt
  each_of old new (Tick ticks) replies run kept = tt
  each_of old new command replies run kept = each_on_store old.options (rest_reply (is_open old.store.mode.phase) command) (driven_in old) (driven_in new) command replies refl run.carries kept

  each_cut : (old new : Session) (command : Command) (cut : CutShort old command new) → C old.store → EachCut Has old command new cut
  each_cut old new command (inl short) kept = each_store_cut old.options (driven_in old) (driven_in new) command short.cut kept
  each_cut old new command (inr carries) kept = each_of old new command carries.0 carries.1 kept

  -- ---- runs

  each_run : (commands : List Command) (old new : Session) (replies : List Reply) (run : Run old commands replies new) → C old.store → EachRun Has commands old replies new run
  each_run [] old new replies same kept = tt
  each_run (command ∷ commands) old new replies run kept =
      (each_of old run.0 command run.1 run.3 kept, each_run commands run.0 new run.2 run.4 (carried C keep old run.0 command run.1 run.3 kept))

  each_stopped : (stop : LineStop) (old new : Session) (held holds : Option (List ℕ)) (line : List ℕ) (stops : Stops stop old held line new holds) → C old.store → EachStopped Has stop old held line new holds stops
  each_stopped Refused old new held holds line stops kept = tt
  each_stopped Unwritten old new held holds line stops kept = each_of old new stops.0 stops.2.replies stops.2.carries kept
  each_stopped NoMemory old new held holds line (inl same, quiet) kept = tt
  each_stopped NoMemory old new held holds line (inr stops, quiet) kept = each_cut old new stops.0 stops.2 kept

  pub each_end : (stop : Option StopPlace) (old new : Session) (held holds : Option (List ℕ)) (lines : List (List ℕ)) (ends : LinesEnd stop old held lines new holds) → C old.store → EachEnd Has stop old held lines new holds ends
  each_end None old new held holds lines progress kept = each_run progress.commands old new progress.replies progress.run kept
  each_end (Some at) old new held holds lines stops kept = (
    each_run stops.progress.commands old stops.mid stops.progress.replies stops.progress.run kept,
    each_stopped at.stop stops.mid new stops.holds_mid holds stops.line stops.stops
        (progressed C keep old stops.mid held stops.holds_mid stops.before stops.progress kept),
  )
