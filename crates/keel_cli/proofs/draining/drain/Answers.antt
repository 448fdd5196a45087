use Rattle.std.proofs.Common.{◌≡◌, ◌+◌, ◌<◌, ◌≤◌, refl, subst, arith}
use Rattle.keel_machine.specs.Turns.{Writing}
use Rattle.keel_machine.specs.declared.steps.JobStep.{JobStep}
use Rattle.keel_machine.specs.declared.steps.ResumeStep.{ResumeStep}
use Rattle.keel_machine.specs.declared.steps.WriteStep.{WriteStep}
use Rattle.keel_core.specs.Flushes.{FlushesTurn}
use Rattle.keel_core.specs.Resuming.{ResumesTurn}
use Rattle.keel_core.specs.Views.{TakesTurn}
use Rattle.keel_cli.specs.declared.holding.HeldJobs.{HeldJobs}
use Rattle.keel_cli.specs.Jobs.{flush_held, resume_held, write_held}
use Rattle.keel_cli.proofs.Moving.{booted, boot_told, boot_wants, flush_told, flush_wants, more_by_boot, more_by_writer, more_run, none_gone, quiet_run, round_gone, round_of, step_told, write_wants, written}
use Rattle.keel_cli.proofs.OnErr.{on_err_always}
use Rattle.keel_cli.proofs.draining.drain.Goals as goal

pub rounds-init : goal.rounds-init
rounds-init g c = record { goes = none_gone c.args.moves c.args.core.now c.args.jobs.now; few = omega arith; told = c.requires.told }

pub returns-in_err-booted-clause-cut : goal.returns-in_err-booted-clause-cut
returns-in_err-booted-clause-cut g c s stands =
    let step = c.resume_step-step in
    let jobs : HeldJobs = c.rounds.jobs in
    let want = subst (λ (made : ResumeStep). ResumesTurn c.rounds.core jobs.resume made step.new.core) (c.in_err-booted.ensures.cut refl) step.ensures.turn in
    let same : step.new.jobs ≡ jobs =
    subst (λ (made : ResumeStep). step.new.jobs ≡ record jobs { resume = resume_held made jobs.resume }) (c.in_err-booted.ensures.cut refl) step.ensures.jobs in
    on_err_always c.from_residual.result
    (boot_wants c.args.moves c.args.core.now c.args.jobs.now c.rounds.core step.new.core jobs step.new.jobs c.rounds.made c.rounds.invariant.goes c.rounds-test.true want same s stands)

pub returns-in_err-booted-clause-told : goal.returns-in_err-booted-clause-told
returns-in_err-booted-clause-told g c =
    let step = c.resume_step-step in
    boot_told c.rounds.core step.new.core c.rounds.jobs.resume step.result step.ensures.turn c.rounds.invariant.told

pub returns-then-made-booted-clause-carried : goal.returns-then-made-booted-clause-carried
returns-then-made-booted-clause-carried g c =
    let step = c.resume_step-step in
    more_by_boot c.args.moves c.args.core.now c.args.jobs.now step.new.core step.new.jobs c.rounds.made c.in_ok-booted.booted
    (booted c.args.moves c.args.core.now c.args.jobs.now c.rounds.core step.new.core c.rounds.jobs step.new.jobs c.rounds.made c.in_ok-booted.booted step.result c.rounds.invariant.goes
    c.rounds-test.true step.ensures.turn step.ensures.jobs c.in_ok-booted.ensures.moves)
    c.if-made-booted.true

pub returns-then-made-booted-clause-told : goal.returns-then-made-booted-clause-told
returns-then-made-booted-clause-told g c =
    let step = c.resume_step-step in
    boot_told c.rounds.core step.new.core c.rounds.jobs.resume step.result step.ensures.turn c.rounds.invariant.told

pub returns-in_err-written-clause-cut : goal.returns-in_err-written-clause-cut
returns-in_err-written-clause-cut g c s stands =
    let step = c.resume_step-step in
    let made = c.write_step-step in
    let jobs : HeldJobs = step.new.jobs in
    let want = subst (λ (w : WriteStep). TakesTurn step.new.core (Writing jobs.write w) made.new.core) (c.in_err-written.ensures.cut refl) made.ensures.turn in
    let same : made.new.jobs ≡ jobs =
    subst (λ (w : WriteStep). made.new.jobs ≡ record jobs { write = write_held w jobs.write }) (c.in_err-written.ensures.cut refl) made.ensures.jobs in
    let left : c.rounds.made + c.in_ok-booted.booted < c.args.moves = omega (arith, c.rounds-test.true, c.in_ok-booted.ensures.few, c.if-made-booted.false) in
    on_err_always c.from_residual-in_err-written.result (write_wants c.args.moves c.args.core.now c.args.jobs.now step.new.core made.new.core jobs made.new.jobs c.rounds.made c.in_ok-booted.booted
    (booted c.args.moves c.args.core.now c.args.jobs.now c.rounds.core step.new.core c.rounds.jobs step.new.jobs c.rounds.made c.in_ok-booted.booted step.result c.rounds.invariant.goes
    c.rounds-test.true step.ensures.turn step.ensures.jobs c.in_ok-booted.ensures.moves)
    left want same s stands)

pub returns-in_err-written-clause-told : goal.returns-in_err-written-clause-told
returns-in_err-written-clause-told g c =
    let step = c.resume_step-step in
    let made = c.write_step-step in
    step_told step.new.core made.new.core step.new.jobs.write made.result made.ensures.turn
    (boot_told c.rounds.core step.new.core c.rounds.jobs.resume step.result step.ensures.turn c.rounds.invariant.told)

pub returns-then-made-booted-2-clause-carried : goal.returns-then-made-booted-2-clause-carried
returns-then-made-booted-2-clause-carried g c =
    let step = c.resume_step-step in
    let made = c.write_step-step in
    let left : c.rounds.made + c.in_ok-booted.booted < c.args.moves = omega (arith, c.rounds-test.true, c.in_ok-booted.ensures.few, c.if-made-booted.false) in
    let half =
    written c.args.moves c.args.core.now c.args.jobs.now step.new.core made.new.core step.new.jobs made.new.jobs c.rounds.made c.in_ok-booted.booted c.in_ok-written.written made.result
    (booted c.args.moves c.args.core.now c.args.jobs.now c.rounds.core step.new.core c.rounds.jobs step.new.jobs c.rounds.made c.in_ok-booted.booted step.result c.rounds.invariant.goes
    c.rounds-test.true step.ensures.turn step.ensures.jobs c.in_ok-booted.ensures.moves)
    left made.ensures.turn made.ensures.jobs c.in_ok-written.ensures.moves in
    more_by_writer c.args.moves c.args.core.now c.args.jobs.now made.new.core made.new.jobs c.rounds.made (c.in_ok-booted.booted + c.in_ok-written.written) half (omega (arith, c.if-made-booted-2.true))

pub returns-then-made-booted-2-clause-told : goal.returns-then-made-booted-2-clause-told
returns-then-made-booted-2-clause-told g c =
    let step = c.resume_step-step in
    let made = c.write_step-step in
    step_told step.new.core made.new.core step.new.jobs.write made.result made.ensures.turn
    (boot_told c.rounds.core step.new.core c.rounds.jobs.resume step.result step.ensures.turn c.rounds.invariant.told)

pub returns-in_err-flushed-clause-cut : goal.returns-in_err-flushed-clause-cut
returns-in_err-flushed-clause-cut g c s stands =
    let step = c.resume_step-step in
    let made = c.write_step-step in
    let flushed = c.flush_step-step in
    let jobs : HeldJobs = made.new.jobs in
    let left : c.rounds.made + c.in_ok-booted.booted < c.args.moves = omega (arith, c.rounds-test.true, c.in_ok-booted.ensures.few, c.if-made-booted.false) in
    let half =
    written c.args.moves c.args.core.now c.args.jobs.now step.new.core made.new.core step.new.jobs made.new.jobs c.rounds.made c.in_ok-booted.booted c.in_ok-written.written made.result
    (booted c.args.moves c.args.core.now c.args.jobs.now c.rounds.core step.new.core c.rounds.jobs step.new.jobs c.rounds.made c.in_ok-booted.booted step.result c.rounds.invariant.goes
    c.rounds-test.true step.ensures.turn step.ensures.jobs c.in_ok-booted.ensures.moves)
    left made.ensures.turn made.ensures.jobs c.in_ok-written.ensures.moves in
    let still : c.rounds.made + (c.in_ok-booted.booted + c.in_ok-written.written) < c.args.moves = omega (arith, left, c.in_ok-written.ensures.few, c.if-made-booted-2.false) in
    let want = subst (λ (w : JobStep). FlushesTurn made.new.core jobs.flush w flushed.new.core) (c.in_err-flushed.ensures.cut refl) flushed.ensures.turn in
    let same : flushed.new.jobs ≡ jobs =
    subst (λ (w : JobStep). flushed.new.jobs ≡ record jobs { flush = flush_held w jobs.flush }) (c.in_err-flushed.ensures.cut refl) flushed.ensures.jobs in
    on_err_always c.from_residual-in_err-flushed.result
    (flush_wants c.args.moves c.args.core.now c.args.jobs.now made.new.core flushed.new.core jobs flushed.new.jobs c.rounds.made (c.in_ok-booted.booted + c.in_ok-written.written) half still want same s stands)

pub returns-in_err-flushed-clause-told : goal.returns-in_err-flushed-clause-told
returns-in_err-flushed-clause-told g c =
    let step = c.resume_step-step in
    let made = c.write_step-step in
    let flushed = c.flush_step-step in
    flush_told made.new.core flushed.new.core made.new.jobs.flush flushed.result flushed.ensures.turn
    (step_told step.new.core made.new.core step.new.jobs.write made.result made.ensures.turn
    (boot_told c.rounds.core step.new.core c.rounds.jobs.resume step.result step.ensures.turn c.rounds.invariant.told))

pub returns-then-booted-written-eq0-clause-carried : goal.returns-then-booted-written-eq0-clause-carried
returns-then-booted-written-eq0-clause-carried g c =
    let step = c.resume_step-step in
    let made = c.write_step-step in
    let flushed = c.flush_step-step in
    let left : c.rounds.made + c.in_ok-booted.booted < c.args.moves = omega (arith, c.rounds-test.true, c.in_ok-booted.ensures.few, c.if-made-booted.false) in
    let half =
    written c.args.moves c.args.core.now c.args.jobs.now step.new.core made.new.core step.new.jobs made.new.jobs c.rounds.made c.in_ok-booted.booted c.in_ok-written.written made.result
    (booted c.args.moves c.args.core.now c.args.jobs.now c.rounds.core step.new.core c.rounds.jobs step.new.jobs c.rounds.made c.in_ok-booted.booted step.result c.rounds.invariant.goes
    c.rounds-test.true step.ensures.turn step.ensures.jobs c.in_ok-booted.ensures.moves)
    left made.ensures.turn made.ensures.jobs c.in_ok-written.ensures.moves in
    let still : c.rounds.made + (c.in_ok-booted.booted + c.in_ok-written.written) < c.args.moves = omega (arith, left, c.in_ok-written.ensures.few, c.if-made-booted-2.false) in
    quiet_run c.args.moves c.args.core.now c.args.jobs.now flushed.new.core flushed.new.jobs c.rounds.made (c.in_ok-booted.booted + c.in_ok-written.written + c.in_ok-flushed.flushed)
    c.if-booted-written-eq0.true
    (round_of c.args.moves c.args.core.now c.args.jobs.now made.new.core flushed.new.core made.new.jobs flushed.new.jobs c.rounds.made (c.in_ok-booted.booted + c.in_ok-written.written)
    c.in_ok-flushed.flushed flushed.result half still flushed.ensures.turn flushed.ensures.jobs c.in_ok-flushed.ensures.moves)

pub returns-then-booted-written-eq0-clause-told : goal.returns-then-booted-written-eq0-clause-told
returns-then-booted-written-eq0-clause-told g c =
    let step = c.resume_step-step in
    let made = c.write_step-step in
    let flushed = c.flush_step-step in
    flush_told made.new.core flushed.new.core made.new.jobs.flush flushed.result flushed.ensures.turn
    (step_told step.new.core made.new.core step.new.jobs.write made.result made.ensures.turn
    (boot_told c.rounds.core step.new.core c.rounds.jobs.resume step.result step.ensures.turn c.rounds.invariant.told))

pub rounds-preserved : goal.rounds-preserved
rounds-preserved g c =
    let step = c.resume_step-step in
    let made = c.write_step-step in
    let flushed = c.flush_step-step in
    let left : c.rounds.made + c.in_ok-booted.booted < c.args.moves = omega (arith, c.rounds-test.true, c.in_ok-booted.ensures.few, c.if-made-booted.false) in
    let half =
    written c.args.moves c.args.core.now c.args.jobs.now step.new.core made.new.core step.new.jobs made.new.jobs c.rounds.made c.in_ok-booted.booted c.in_ok-written.written made.result
    (booted c.args.moves c.args.core.now c.args.jobs.now c.rounds.core step.new.core c.rounds.jobs step.new.jobs c.rounds.made c.in_ok-booted.booted step.result c.rounds.invariant.goes
    c.rounds-test.true step.ensures.turn step.ensures.jobs c.in_ok-booted.ensures.moves)
    left made.ensures.turn made.ensures.jobs c.in_ok-written.ensures.moves in
    let still : c.rounds.made + (c.in_ok-booted.booted + c.in_ok-written.written) < c.args.moves = omega (arith, left, c.in_ok-written.ensures.few, c.if-made-booted-2.false) in
    let some : 1 ≤ c.in_ok-booted.booted + c.in_ok-written.written + c.in_ok-flushed.flushed = omega (arith, c.if-booted-written-eq0.false) in
    record {
      goes =
          round_gone c.args.moves c.args.core.now c.args.jobs.now flushed.new.core flushed.new.jobs c.rounds.made (c.in_ok-booted.booted + c.in_ok-written.written + c.in_ok-flushed.flushed) some
          (round_of c.args.moves c.args.core.now c.args.jobs.now made.new.core flushed.new.core made.new.jobs flushed.new.jobs c.rounds.made (c.in_ok-booted.booted + c.in_ok-written.written)
          c.in_ok-flushed.flushed flushed.result half still flushed.ensures.turn flushed.ensures.jobs c.in_ok-flushed.ensures.moves);
      few = omega (arith, still, c.in_ok-flushed.ensures.few);
      told =
          flush_told made.new.core flushed.new.core made.new.jobs.flush flushed.result flushed.ensures.turn
          (step_told step.new.core made.new.core step.new.jobs.write made.result made.ensures.turn
          (boot_told c.rounds.core step.new.core c.rounds.jobs.resume step.result step.ensures.turn c.rounds.invariant.told));
    }

pub returns-clause-carried : goal.returns-clause-carried
returns-clause-carried g c =
    more_run c.args.moves c.args.core.now c.args.jobs.now c.rounds.core c.rounds.jobs c.rounds.made c.rounds.invariant.goes (omega (arith, c.rounds.invariant.few, c.rounds-test.false))
