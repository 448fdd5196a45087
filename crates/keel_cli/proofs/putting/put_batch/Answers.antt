use Rattle.std.proofs.Common.{refl, sym, subst, inl, inr, ◌∷◌}
use Rattle.keel_machine.specs.declared.answers.Outcome.TheVariants as outcome
use Rattle.keel_machine.specs.declared.steps.WriteStep.TheVariants as step
use Rattle.keel_cli.proofs.OnErr.{on_err_always}
use Rattle.keel_cli.proofs.PutTurns.{GoesOn, refused_run, refused_cut, refused_told, queued_gone, queued_known, settled_run, taken_told, never_closed, never_unknown, step_gone, step_known, stuck_run, want_cut, put_nearer, never_wide}
use Rattle.keel_cli.proofs.Tickets.{known_told}
use Rattle.keel_cli.proofs.putting.put_batch.Goals as goal

pub ticket_or_reply-requires : goal.ticket_or_reply-requires
ticket_or_reply-requires g c = never_wide c.args.core.now c.admit.new.self c.args.batch c.admit.result c.requires.told c.admit.ensures.turn c.requires.one

pub returns-in_err-ticket-clause-cut : goal.returns-in_err-ticket-clause-cut
returns-in_err-ticket-clause-cut g c s stands =
    let want = rw (c.in_err-ticket.ensures.cut refl) at c.admit.ensures.turn in
    on_err_always c.from_residual.result (refused_cut c.args.core.now c.admit.new.self c.args.jobs.now c.args.batch want s stands)

pub returns-in_err-ticket-clause-told : goal.returns-in_err-ticket-clause-told
returns-in_err-ticket-clause-told g c = refused_told c.args.core.now c.admit.new.self c.args.batch c.admit.result c.admit.ensures.turn c.requires.told

pub returns-in-Refused-clause-carried : goal.returns-in-Refused-clause-carried
returns-in-Refused-clause-carried g c =
    let prints = rw c.in-Refused.is at c.in_ok-ticket.ensures.tells in
    refused_run c.args.core.now c.admit.new.self c.args.jobs.now c.args.batch c.admit.result _ c.admit.ensures.turn prints

pub returns-in-Refused-clause-told : goal.returns-in-Refused-clause-told
returns-in-Refused-clause-told g c = refused_told c.args.core.now c.admit.new.self c.args.batch c.admit.result c.admit.ensures.turn c.requires.told

pub writing-init : goal.writing-init
writing-init g c =
    let is = rw c.in-Queued.is at c.in_ok-ticket.ensures.tells in
    let turn = rw is at c.admit.ensures.turn in
    record {
      goes = queued_gone c.args.core.now c.admit.new.self c.args.jobs.now c.args.batch c.in-Queued.ticket turn;
      known = queued_known c.args.core.now c.admit.new.self c.args.batch c.in-Queued.ticket turn c.requires.told;
    }

pub returns-in-Done-clause-carried : goal.returns-in-Done-clause-carried
returns-in-Done-clause-carried g c =
    settled_run c.args.core.now c.writing.core c.take_outcome.new.self c.args.jobs.now c.writing.jobs c.args.batch c.in-Queued.ticket (outcome.Done c.in-Done.seq) _
    c.writing.invariant.goes c.in-Done.ensures.turn refl

pub returns-in-Done-clause-told : goal.returns-in-Done-clause-told
returns-in-Done-clause-told g c =
    taken_told c.writing.core c.take_outcome.new.self c.in-Queued.ticket (outcome.Done c.in-Done.seq) c.in-Done.ensures.turn (known_told c.in-Queued.ticket c.writing.core c.writing.invariant.known)

pub returns-in-Failed-clause-carried : goal.returns-in-Failed-clause-carried
returns-in-Failed-clause-carried g c =
    settled_run c.args.core.now c.writing.core c.take_outcome.new.self c.args.jobs.now c.writing.jobs c.args.batch c.in-Queued.ticket (outcome.Failed c.in-Failed.failure) _
    c.writing.invariant.goes c.in-Failed.ensures.turn refl

pub returns-in-Failed-clause-told : goal.returns-in-Failed-clause-told
returns-in-Failed-clause-told g c =
    taken_told c.writing.core c.take_outcome.new.self c.in-Queued.ticket (outcome.Failed c.in-Failed.failure) c.in-Failed.ensures.turn (known_told c.in-Queued.ticket c.writing.core c.writing.invariant.known)

pub returns-in-Turned-clause-carried : goal.returns-in-Turned-clause-carried
returns-in-Turned-clause-carried g c =
    settled_run c.args.core.now c.writing.core c.take_outcome.new.self c.args.jobs.now c.writing.jobs c.args.batch c.in-Queued.ticket (outcome.Turned c.in-Turned.failure) _
    c.writing.invariant.goes c.in-Turned.ensures.turn refl

pub returns-in-Turned-clause-told : goal.returns-in-Turned-clause-told
returns-in-Turned-clause-told g c =
    taken_told c.writing.core c.take_outcome.new.self c.in-Queued.ticket (outcome.Turned c.in-Turned.failure) c.in-Turned.ensures.turn (known_told c.in-Queued.ticket c.writing.core c.writing.invariant.known)

pub unreachable-requires : goal.unreachable-requires
unreachable-requires g c =
    never_closed c.writing.core c.take_outcome.new.self c.in-Queued.ticket c.in-Closed.ensures.turn c.writing.invariant.known

pub unreachable-requires-in-Unknown : goal.unreachable-requires-in-Unknown
unreachable-requires-in-Unknown g c =
    never_unknown c.writing.core c.take_outcome.new.self c.in-Queued.ticket c.in-Unknown.ensures.turn c.writing.invariant.known

pub returns-in-OutOfMemory-clause-cut : goal.returns-in-OutOfMemory-clause-cut
returns-in-OutOfMemory-clause-cut g c =
    want_cut c.args.core.now c.write_step.new.core c.args.jobs.now c.write_step.new.jobs c.args.batch c.in-Queued.ticket
    (step_gone c.args.core.now c.writing.core c.take_outcome.new.self c.write_step.new.core c.args.jobs.now c.writing.jobs c.write_step.new.jobs c.args.batch c.in-Queued.ticket step.OutOfMemory
    c.writing.invariant.goes c.in-Waiting.ensures.turn c.in-OutOfMemory.ensures.turn c.in-OutOfMemory.ensures.jobs)

pub returns-in-OutOfMemory-clause-told : goal.returns-in-OutOfMemory-clause-told
returns-in-OutOfMemory-clause-told g c =
    known_told c.in-Queued.ticket c.write_step.new.core (step_known c.writing.core c.take_outcome.new.self c.write_step.new.core c.writing.jobs.write c.in-Queued.ticket step.OutOfMemory
    c.writing.invariant.known c.in-Waiting.ensures.turn c.in-OutOfMemory.ensures.turn)

pub returns-in-Full-clause-carried : goal.returns-in-Full-clause-carried
returns-in-Full-clause-carried g c =
    stuck_run c.args.core.now c.write_step.new.core c.args.jobs.now c.write_step.new.jobs c.args.batch c.in-Queued.ticket (step.Full c.in-Full.active c.in-Full.immutables) tt
    (step_gone c.args.core.now c.writing.core c.take_outcome.new.self c.write_step.new.core c.args.jobs.now c.writing.jobs c.write_step.new.jobs c.args.batch c.in-Queued.ticket (step.Full c.in-Full.active c.in-Full.immutables)
    c.writing.invariant.goes c.in-Waiting.ensures.turn c.in-Full.ensures.turn c.in-Full.ensures.jobs)

pub returns-in-Full-clause-told : goal.returns-in-Full-clause-told
returns-in-Full-clause-told g c =
    known_told c.in-Queued.ticket c.write_step.new.core (step_known c.writing.core c.take_outcome.new.self c.write_step.new.core c.writing.jobs.write c.in-Queued.ticket (step.Full c.in-Full.active c.in-Full.immutables)
    c.writing.invariant.known c.in-Waiting.ensures.turn c.in-Full.ensures.turn)

pub returns-in-Spent-clause-carried : goal.returns-in-Spent-clause-carried
returns-in-Spent-clause-carried g c =
    stuck_run c.args.core.now c.write_step.new.core c.args.jobs.now c.write_step.new.jobs c.args.batch c.in-Queued.ticket (step.Spent c.in-Spent.field-0) tt
    (step_gone c.args.core.now c.writing.core c.take_outcome.new.self c.write_step.new.core c.args.jobs.now c.writing.jobs c.write_step.new.jobs c.args.batch c.in-Queued.ticket (step.Spent c.in-Spent.field-0)
    c.writing.invariant.goes c.in-Waiting.ensures.turn c.in-Spent.ensures.turn c.in-Spent.ensures.jobs)

pub returns-in-Spent-clause-told : goal.returns-in-Spent-clause-told
returns-in-Spent-clause-told g c =
    known_told c.in-Queued.ticket c.write_step.new.core (step_known c.writing.core c.take_outcome.new.self c.write_step.new.core c.writing.jobs.write c.in-Queued.ticket (step.Spent c.in-Spent.field-0)
    c.writing.invariant.known c.in-Waiting.ensures.turn c.in-Spent.ensures.turn)

pub writing-preserved : goal.writing-preserved
writing-preserved g c =
    let gone = step_gone c.args.core.now c.writing.core c.take_outcome.new.self c.write_step.new.core c.args.jobs.now c.writing.jobs c.write_step.new.jobs c.args.batch c.in-Queued.ticket c.write_step.result
    c.writing.invariant.goes c.in-Waiting.ensures.turn c.write_step.ensures.turn c.write_step.ensures.jobs in
    record {
      goes = λ s stands. let next = gone s stands in (next.0, next.1, (c.write_step.result ∷ next.2.0, next.2.1));
      known =
          step_known c.writing.core c.take_outcome.new.self c.write_step.new.core c.writing.jobs.write c.in-Queued.ticket c.write_step.result
          c.writing.invariant.known c.in-Waiting.ensures.turn c.write_step.ensures.turn;
    }

pub writing-smaller : goal.writing-smaller
writing-smaller g c =
    let told = taken_told c.writing.core c.take_outcome.new.self c.in-Queued.ticket outcome.Waiting c.in-Waiting.ensures.turn (known_told c.in-Queued.ticket c.writing.core c.writing.invariant.known) in
    let goes_on : GoesOn c.write_step.result =
    elim c.in-Idle.is [
      | inl is ↦ subst GoesOn (sym is) tt
      | inr other ↦ elim other [
        | inl moved ↦ subst GoesOn (sym moved.2) tt
        | inr other ↦ elim other [
          | inl done ↦ subst GoesOn (sym done.3) tt
          | inr other ↦ elim other [
            | inl failed ↦ subst GoesOn (sym failed.1) tt
            | inr other ↦ elim other [
              | inl turned ↦ subst GoesOn (sym turned.2) tt
              | inr cancelled ↦ subst GoesOn (sym cancelled.2) tt
            ]
          ]
        ]
      ]
    ] in
    put_nearer c.writing.core c.take_outcome.new.self c.write_step.new.core c.writing.jobs c.write_step.new.jobs (c.in-Waiting.ensures.waits refl) c.in-Waiting.ensures.same told
    c.write_step.result c.write_step.ensures.turn c.write_step.ensures.jobs c.write_step.ensures.nearer goes_on
