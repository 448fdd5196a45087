-- What every turn of the machine keeps, a run keeps.
use Rattle.std.proofs.Common.{◌≡◌, ◌∙◌, ℕ, zero, suc, Bool, true, false, Option, None, Some, List, [], ◌∷◌, Err, refl, ap, sym, subst, inl, inr}
use Rattle.keel_base.specs.declared.op.Batch.{Batch}
use Rattle.keel_base.specs.declared.option_name.OptionName.{OptionName}
use Rattle.keel_disk.specs.declared.error.DiskError.TheVariants as disk
use Rattle.keel_disk.specs.declared.rule.Pick.{Pick}
use Rattle.keel_disk.specs.declared.rule.Rule.TheVariants as rule
use Rattle.keel_machine.specs.declared.answers.Admit.{Admit}
use Rattle.keel_machine.specs.declared.answers.Admit.TheVariants as admit
use Rattle.keel_machine.specs.declared.answers.Got.TheVariants as got
use Rattle.keel_machine.specs.declared.answers.Scanned.TheVariants as scanned
use Rattle.keel_machine.specs.declared.answers.Outcome.{Outcome}
use Rattle.keel_machine.specs.declared.answers.Outcome.TheVariants as outcome
use Rattle.keel_machine.specs.declared.steps.JobStep.{JobStep}
use Rattle.keel_machine.specs.declared.steps.JobStep.TheVariants as job_step
use Rattle.keel_machine.specs.declared.steps.ResumeStep.{ResumeStep as BootStep}
use Rattle.keel_machine.specs.declared.steps.ResumeStep.TheVariants as boot_step
use Rattle.keel_machine.specs.declared.steps.WriteStep.{WriteStep}
use Rattle.keel_machine.specs.declared.steps.WriteStep.TheVariants as step
use Rattle.keel_machine.specs.States.{State, Mode}
use Rattle.keel_machine.specs.Turns.{Event, Opening, Admitting, Writing, Resuming, Flushing, TakingOutcome, Getting, Scanning, Listing, TellingError, TellingLevels, Arranging, Crashing, Starting, Turn, ShuttingDown, Finishing}
use Rattle.keel_base.specs.declared.options.Options.{Options}
use Rattle.keel_open.specs.declared.refusal.OpenRefusal.TheVariants as refusal
use Rattle.keel_draft.specs.Drafts.{Draft}
use Rattle.keel_recovery.specs.Machine.{MayCall}
use Rattle.keel_machine.specs.States.{is_open}
use Rattle.keel_script.specs.declared.command.Command.{Command}
use Rattle.keel_script.specs.declared.command.Command.TheVariants.{SetOption, Open, Put, Del, QueuePut, QueueDel, Write, Flush, Resume, ResumeStep, Drain, Tick, Get, Scan, Error, Files, Levels, Fail, Capacity, Crash, Close}
use Rattle.keel_script.specs.declared.reply.Reply.{Reply}
use Rattle.keel_cli.specs.declared.lines.LineStop.{LineStop}
use Rattle.keel_cli.specs.declared.lines.LineStop.TheVariants.{Refused, Unwritten, NoMemory}
use Rattle.keel_cli.specs.declared.lines.StopPlace.{StopPlace}
use Rattle.keel_cli.specs.Cuts.{StoreCutShort, CutShort}
use Rattle.keel_cli.specs.Drains.{BootMoves, Wrote, Round, Rounds, DrainRun, DrainCut}
use Rattle.keel_cli.specs.LineEnds.{Progress, Stops, LinesEnd}
use Rattle.keel_cli.specs.Puts.{put_batch, del_batch, PutRun, PutCut, QueueRun, Queues, Waits}
use Rattle.keel_cli.specs.Runs.{rest_reply, CrashRun, Calls, RestsOrCalls, CarriesOnStore, SetRun, Carries, CallsPartly, Run}
use Rattle.keel_cli.specs.Jobs.{Driven, driven}
use Rattle.keel_cli.specs.Sessions.{Session, driven_in}
use Rattle.keel_cli.proofs.Beside.{open_flushed}
use Rattle.keel_cli.proofs.Modes.{mode_written, mode_admitted, open_resumed}

none_some : {A P : Type 0} (x : A) → Some x ≡ None → P
none_some x e = cc

module _ (C : State → Type 0) (keep : (old new : State) (event : Event) → MayCall old event → Turn old event new → C old → C new) where
  -- a store that is open and of which this holds stays so
  pub record IsKept (s : State) : Type 0 where
    pub opened : is_open s.mode.phase ≡ true
    pub kept : C s

  pub admitted : (old new : State) (batch : Batch) (answer : Admit) → Turn old (Admitting batch answer) new → IsKept old → IsKept new
  admitted old new batch answer turn is = record {
    opened = ap (λ (s : State). is_open s.mode.phase) turn.1 ∙ (ap (λ (m : Mode). is_open m.phase) (mode_admitted old batch answer) ∙ is.opened);
    kept = keep old new (Admitting batch answer) is.opened turn is.kept;
  }

  pub written : (old new : State) (held : Option ℕ) (made : WriteStep) → Turn old (Writing held made) new → IsKept old → IsKept new
  written old new held made turn is = record {
    opened = ap (λ (s : State). is_open s.mode.phase) turn.1 ∙ (ap (λ (m : Mode). is_open m.phase) (mode_written old made) ∙ is.opened);
    kept = keep old new (Writing held made) is.opened turn is.kept;
  }

  pub taken : (old new : State) (ticket : ℕ) (outcome : Outcome) → Turn old (TakingOutcome ticket outcome) new → IsKept old → IsKept new
  taken old new ticket outcome turn is = record {
    opened = ap (λ (s : State). is_open s.mode.phase) turn.1 ∙ is.opened;
    kept = keep old new (TakingOutcome ticket outcome) is.opened turn is.kept;
  }

  pub resumed : (old new : State) (drafts : List Draft) (held : Option ℕ) (made : BootStep) → Turn old (Resuming drafts held made) new → IsKept old → IsKept new
  resumed old new drafts held made turn is = record {
    opened = ap (λ (s : State). is_open s.mode.phase) turn.1 ∙ open_resumed old drafts made is.opened;
    kept = keep old new (Resuming drafts held made) is.opened turn is.kept;
  }

  pub flushed : (old new : State) (draft : Draft) (held : Option ℕ) (made : JobStep) → Turn old (Flushing draft held made) new → IsKept old → IsKept new
  flushed old new draft held made turn is = record {
    opened = ap (λ (s : State). is_open s.mode.phase) turn.1 ∙ open_flushed old draft made is.opened;
    kept = keep old new (Flushing draft held made) is.opened turn is.kept;
  }

  -- ---- writes

  pub waited : (old new : Driven) (ticket : ℕ) (steps : List WriteStep) → Waits old ticket steps new → IsKept old.state → IsKept new.state
  waited old new ticket [] same is = rw same is
  waited old new ticket (made ∷ earlier) waits is =
      written waits.1 new.state waits.0.jobs.write made waits.4.turn (taken waits.0.state waits.1 ticket outcome.Waiting waits.3 (waited old waits.0 ticket earlier waits.2 is))

  queued : (old new : Driven) (batch : Batch) (ticket : ℕ) (steps : List WriteStep) → Queues old batch ticket steps new → IsKept old.state → IsKept new.state
  queued old new batch ticket steps queues is =
      waited (driven queues.mid old.jobs) new ticket steps queues.waits (admitted old.state queues.mid batch (admit.Queued ticket) queues.queued is)

  put : (old new : Driven) (batch : Batch) (replies : List Reply) → PutRun old batch replies new → IsKept old.state → C new.state
  put old new batch replies (inl refused) is = (admitted old.state new.state batch refused.answer refused.turn.turn is).kept
  put old new batch replies (inr (inl settled)) is =
      (taken settled.last.state new.state settled.ticket settled.outcome settled.taken.turn (queued old settled.last batch settled.ticket settled.steps settled.queues is)).kept
  put old new batch replies (inr (inr waits)) is = (queued old new batch waits.ticket (waits.step ∷ waits.steps) waits.queues is).kept

  put_cut : (old new : Driven) (batch : Batch) → PutCut old batch new → IsKept old.state → C new.state
  put_cut old new batch (inl turn) is = (admitted old.state new.state batch admit.OutOfMemory turn.turn is).kept
  put_cut old new batch (inr cut) is = (queued old new batch cut.0 (step.OutOfMemory ∷ cut.1) cut.2 is).kept

  queued_alone : (old new : Driven) (batch : Batch) (replies : List Reply) → QueueRun old batch replies new → IsKept old.state → C new.state
  queued_alone old new batch replies (inl refused) is = (admitted old.state new.state batch refused.answer refused.turn.turn is).kept
  queued_alone old new batch replies (inr queues) is = (admitted old.state new.state batch (admit.Queued queues.ticket) queues.turn.turn is).kept

  -- ---- drains

  pub booted : (old new : Driven) (moves : ℕ) → BootMoves old moves new → IsKept old.state → IsKept new.state
  booted old new moves boot is = resumed old.state new.state boot.drafts old.jobs.resume boot.step boot.turn.turn is

  pub wrote : (limit made : ℕ) (old : Driven) (moves : ℕ) (new : Driven) → Wrote limit made old moves new → IsKept old.state → IsKept new.state
  wrote limit made old moves new half is = written half.mid.state new.state half.mid.jobs.write half.write.step half.write.turn.turn (booted old half.mid half.of_boot half.boot is)

  gone_round : (limit made : ℕ) (old : Driven) (moves : ℕ) (new : Driven) → Round limit made old moves new → IsKept old.state → IsKept new.state
  gone_round limit made old moves new round is =
      flushed round.behind.state new.state round.flush.draft round.behind.jobs.flush round.flush.step round.flush.turn.turn (wrote limit made old round.before round.behind round.wrote is)

  pub went : (limit : ℕ) (old : Driven) (rounds made : ℕ) (new : Driven) → Rounds limit old rounds made new → IsKept old.state → IsKept new.state
  went limit old zero made new same is = rw same.1 is
  went limit old (suc rounds) made new gone is = gone_round limit gone.1 gone.0 gone.2 new gone.4 (went limit old rounds gone.1 gone.0 gone.3 is)

  drained : (limit : ℕ) (old new : Driven) (replies : List Reply) → DrainRun limit old replies new → IsKept old.state → C new.state
  drained limit old new replies (inl quiet) is =
      (gone_round limit quiet.made quiet.last 0 new quiet.round (went limit old quiet.begun.rounds quiet.made quiet.last quiet.begun.went is)).kept
  drained limit old new replies (inr (inl more)) is =
      (booted more.last new more.of_boot more.boot (went limit old more.begun.rounds more.made more.last more.begun.went is)).kept
  drained limit old new replies (inr (inr (inl more))) is =
      (wrote limit more.made more.last more.moves new more.wrote (went limit old more.begun.rounds more.made more.last more.begun.went is)).kept
  drained limit old new replies (inr (inr (inr more))) is = (went limit old more.rounds limit new more.went is).kept

  drain_cut : (limit : ℕ) (old new : Driven) → DrainCut limit old new → IsKept old.state → C new.state
  drain_cut limit old new (inl cut) is =
      (resumed cut.last.state new.state cut.drafts cut.last.jobs.resume boot_step.OutOfMemory cut.turn.turn (went limit old cut.begun.rounds cut.made cut.last cut.begun.went is)).kept
  drain_cut limit old new (inr (inl cut)) is =
      let before = booted cut.last cut.mid cut.of_boot cut.boot (went limit old cut.begun.rounds cut.made cut.last cut.begun.went is) in
      (written cut.mid.state new.state cut.mid.jobs.write step.OutOfMemory cut.turn.turn before).kept
  drain_cut limit old new (inr (inr cut)) is =
      let before = wrote limit cut.made cut.last cut.moves cut.behind cut.wrote (went limit old cut.begun.rounds cut.made cut.last cut.begun.went is) in
      (flushed cut.behind.state new.state cut.draft cut.behind.jobs.flush job_step.OutOfMemory cut.turn.turn before).kept

  -- ---- commands on the store

  crashed : (b : Bool) (old new : Driven) (pick : Pick) (replies : List Reply) → CrashRun b old pick replies new → C old.state → C new.state
  crashed true old new pick replies run kept = keep old.state new.state (Crashing pick run.0) tt run.1 kept
  crashed false old new pick replies rests kept = rw rests.same kept

  calls : (options : Options) (b : Bool) (old new : Driven) (command : Command) (replies : List Reply) → is_open old.state.mode.phase ≡ b → rest_reply b command ≡ None → Calls options old command replies new → C old.state → C new.state
  calls options true old new Open replies opened none run kept = none_some _ none
  calls options false old new Open replies opened none run kept = keep old.state new.state (Opening options run.answer) opened run.turn kept
  calls options true old new (Put key value sync) replies opened none run kept = put old new (put_batch key value sync) replies run (record { opened = opened; kept = kept })
  calls options false old new (Put key value sync) replies opened none run kept = none_some _ none
  calls options true old new (Del key sync) replies opened none run kept = put old new (del_batch key sync) replies run (record { opened = opened; kept = kept })
  calls options false old new (Del key sync) replies opened none run kept = none_some _ none
  calls options true old new (QueuePut client key value sync) replies opened none run kept = queued_alone old new (put_batch key value sync) replies run (record { opened = opened; kept = kept })
  calls options false old new (QueuePut client key value sync) replies opened none run kept = none_some _ none
  calls options true old new (QueueDel client key sync) replies opened none run kept = queued_alone old new (del_batch key sync) replies run (record { opened = opened; kept = kept })
  calls options false old new (QueueDel client key sync) replies opened none run kept = none_some _ none
  calls options true old new Write replies opened none run kept = (written old.state new.state old.jobs.write run.step run.turn.turn (record { opened = opened; kept = kept })).kept
  calls options false old new Write replies opened none run kept = none_some _ none
  calls options true old new Flush replies opened none run kept = (flushed old.state new.state run.draft old.jobs.flush run.step run.turn.turn (record { opened = opened; kept = kept })).kept
  calls options false old new Flush replies opened none run kept = none_some _ none
  calls options true old new ResumeStep replies opened none run kept = (resumed old.state new.state run.drafts old.jobs.resume run.step run.turn.turn (record { opened = opened; kept = kept })).kept
  calls options false old new ResumeStep replies opened none run kept = none_some _ none
  calls options true old new Resume replies opened none run kept = keep old.state new.state (Starting run.answer) opened run.turn.turn kept
  calls options false old new Resume replies opened none run kept = none_some _ none
  calls options true old new Close replies opened none run kept =
      keep run.mid new.state Finishing (ap (λ (s : State). is_open s.mode.phase) run.closes.1) run.finishes (keep old.state run.mid (ShuttingDown run.tickets) opened run.closes kept)
  calls options false old new Close replies opened none run kept = none_some _ none
  calls options true old new (Scan from to) replies opened none run kept = keep old.state new.state (Scanning from to run.answer) opened run.turn.turn kept
  calls options false old new (Scan from to) replies opened none run kept = none_some _ none
  calls options true old new (Get key) replies opened none run kept = keep old.state new.state (Getting key run.answer) opened run.turn.turn kept
  calls options false old new (Get key) replies opened none run kept = none_some _ none
  calls options true old new (Drain moves) replies opened none run kept = drained moves old new replies run (record { opened = opened; kept = kept })
  calls options false old new (Drain moves) replies opened none run kept = none_some _ none
  calls options true old new Error replies opened none run kept = keep old.state new.state (TellingError run.standing) opened run.turn.turn kept
  calls options false old new Error replies opened none run kept = none_some _ none
  calls options true old new Levels replies opened none run kept = keep old.state new.state (TellingLevels run.view) opened run.turn.turn kept
  calls options false old new Levels replies opened none run kept = none_some _ none
  calls options b old new Files replies opened none run kept = keep old.state new.state (Listing run.answer) tt run.turn.turn kept
  calls options b old new (Fail call fault skip times keep_) replies opened none run kept = keep old.state new.state (Arranging (rule.Fail call fault skip times keep_) run.answer) tt run.turn.turn kept
  calls options b old new (Capacity bytes) replies opened none run kept = keep old.state new.state (Arranging (rule.Capacity bytes) run.answer) tt run.turn.turn kept
  calls options b old new (Crash dirops keep_ garbage seed) replies opened none run kept =
      crashed old.state.device.simulated old new (record { dirops = dirops; keep = keep_; garbage = garbage; seed = seed }) replies run kept
  calls options b old new command replies opened none run kept = absurd run

  rests_or_calls : (options : Options) (r : Option Reply) (old new : Driven) (command : Command) (replies : List Reply) → rest_reply (is_open old.state.mode.phase) command ≡ r
      → RestsOrCalls options r old command replies new → C old.state → C new.state
  rests_or_calls options None old new command replies is run kept = calls options (is_open old.state.mode.phase) old new command replies refl is run kept
  rests_or_calls options (Some reply) old new command replies is rests kept = rw rests.same kept

  on_store : (options : Options) (old new : Driven) (command : Command) (replies : List Reply) → CarriesOnStore options old command replies new → C old.state → C new.state
  on_store options old new command replies run kept = rests_or_calls options (rest_reply (is_open old.state.mode.phase) command) old new command replies refl run kept

  partly : (options : Options) (b : Bool) (old new : Driven) (command : Command) → is_open old.state.mode.phase ≡ b → rest_reply b command ≡ None → CallsPartly options old command new → C old.state → C new.state
  partly options true old new Open opened none turn kept = none_some _ none
  partly options false old new Open opened none turn kept = keep old.state new.state (Opening options (Err refusal.OutOfMemory)) opened turn.turn kept
  partly options true old new (Put key value sync) opened none cut kept = put_cut old new (put_batch key value sync) cut (record { opened = opened; kept = kept })
  partly options false old new (Put key value sync) opened none cut kept = none_some _ none
  partly options true old new (Del key sync) opened none cut kept = put_cut old new (del_batch key sync) cut (record { opened = opened; kept = kept })
  partly options false old new (Del key sync) opened none cut kept = none_some _ none
  partly options true old new (QueuePut client key value sync) opened none turn kept = (admitted old.state new.state (put_batch key value sync) admit.OutOfMemory turn.turn (record { opened = opened; kept = kept })).kept
  partly options false old new (QueuePut client key value sync) opened none turn kept = none_some _ none
  partly options true old new (QueueDel client key sync) opened none turn kept = (admitted old.state new.state (del_batch key sync) admit.OutOfMemory turn.turn (record { opened = opened; kept = kept })).kept
  partly options false old new (QueueDel client key sync) opened none turn kept = none_some _ none
  partly options true old new Write opened none turn kept = (written old.state new.state old.jobs.write step.OutOfMemory turn.turn (record { opened = opened; kept = kept })).kept
  partly options false old new Write opened none turn kept = none_some _ none
  partly options true old new Flush opened none cut kept = (flushed old.state new.state cut.0 old.jobs.flush job_step.OutOfMemory cut.1.turn (record { opened = opened; kept = kept })).kept
  partly options false old new Flush opened none cut kept = none_some _ none
  partly options true old new ResumeStep opened none cut kept = (resumed old.state new.state cut.0 old.jobs.resume boot_step.OutOfMemory cut.1.turn (record { opened = opened; kept = kept })).kept
  partly options false old new ResumeStep opened none cut kept = none_some _ none
  partly options true old new (Scan from to) opened none turn kept = keep old.state new.state (Scanning from to scanned.OutOfMemory) opened turn.turn kept
  partly options false old new (Scan from to) opened none turn kept = none_some _ none
  partly options true old new (Get key) opened none turn kept = keep old.state new.state (Getting key got.OutOfMemory) opened turn.turn kept
  partly options false old new (Get key) opened none turn kept = none_some _ none
  partly options true old new (Drain moves) opened none cut kept = drain_cut moves old new cut (record { opened = opened; kept = kept })
  partly options false old new (Drain moves) opened none cut kept = none_some _ none
  partly options b old new Files opened none turn kept = keep old.state new.state (Listing (Err disk.OutOfMemory)) tt turn.turn kept
  partly options b old new (Fail call fault skip times keep_) opened none cut kept = keep old.state new.state (Arranging (rule.Fail call fault skip times keep_) (Err cut.0)) tt cut.1.turn kept
  partly options b old new (Capacity bytes) opened none cut kept = keep old.state new.state (Arranging (rule.Capacity bytes) (Err cut.0)) tt cut.1.turn kept
  partly options b old new command opened none cut kept = absurd cut

  store_cut : (options : Options) (old new : Driven) (command : Command) → StoreCutShort options old command new → C old.state → C new.state
  store_cut options old new command (inl same) kept = rw same kept
  store_cut options old new command (inr (inl carries)) kept = on_store options old new command carries.0 carries.1 kept
  store_cut options old new command (inr (inr cut)) kept = partly options (is_open old.state.mode.phase) old new command refl cut.0 cut.1 kept

  -- ---- commands of a session

  same_store : (old new : Session) → new.store ≡ old.store → C old.store → C new.store
  same_store old new same kept = subst C (sym same) kept

  set : (b : Bool) (old new : Session) (name : OptionName) (value : ℕ) (replies : List Reply) → SetRun b old name value replies new → C old.store → C new.store
  set true old new name value replies rests kept = same_store old new (ap (λ (s : Session). s.store) rests.same) kept
  set false old new name value replies (inl is_set) kept = same_store old new (ap (λ (s : Session). s.store) is_set.rest) kept
  set false old new name value replies (inr out) kept = same_store old new (ap (λ (s : Session). s.store) out.rests.same) kept

  pub carried : (old new : Session) (command : Command) (replies : List Reply) → Carries old command replies new → C old.store → C new.store
  carried old new (SetOption name value) replies run kept = set (is_open old.store.mode.phase) old new name value replies run kept
  carried old new (Tick ticks) replies run kept = same_store old new (ap (λ (s : Session). s.store) run.passes) kept
  carried old new command replies run kept = on_store old.options (driven_in old) (driven_in new) command replies run.carries kept

  cut : (old new : Session) (command : Command) → CutShort old command new → C old.store → C new.store
  cut old new command (inl short) kept = store_cut old.options (driven_in old) (driven_in new) command short.cut kept
  cut old new command (inr carries) kept = carried old new command carries.0 carries.1 kept

  pub run : (commands : List Command) (old new : Session) (replies : List Reply) → Run old commands replies new → C old.store → C new.store
  run [] old new replies same kept = same_store old new (ap (λ (s : Session). s.store) same.0) kept
  run (command ∷ commands) old new replies runs kept = run commands runs.0 new runs.2 runs.4 (carried old runs.0 command runs.1 runs.3 kept)

  pub progressed : (old new : Session) (held holds : Option (List ℕ)) (lines : List (List ℕ)) → Progress old held lines new holds → C old.store → C new.store
  progressed old new held holds lines progress kept = run progress.commands old new progress.replies progress.run kept

  -- ---- ends

  pub stopped : (stop : LineStop) (old new : Session) (held holds : Option (List ℕ)) (line : List ℕ) → Stops stop old held line new holds → C old.store → C new.store
  stopped Refused old new held holds line stops kept = same_store old new (ap (λ (s : Session). s.store) stops.1) kept
  stopped Unwritten old new held holds line stops kept = carried old new stops.0 stops.2.replies stops.2.carries kept
  stopped NoMemory old new held holds line (inl same, quiet) kept = same_store old new (ap (λ (s : Session). s.store) same) kept
  stopped NoMemory old new held holds line (inr stops, quiet) kept = cut old new stops.0 stops.2 kept

  pub lines_end : (stop : Option StopPlace) (old new : Session) (held holds : Option (List ℕ)) (lines : List (List ℕ)) → LinesEnd stop old held lines new holds → C old.store → C new.store
  lines_end None old new held holds lines progress kept = progressed old new held holds lines progress kept
  lines_end (Some at) old new held holds lines stops kept =
      stopped at.stop stops.mid new stops.holds_mid holds stops.line stops.stops (progressed old stops.mid held stops.holds_mid stops.before stops.progress kept)
