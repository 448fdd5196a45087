use Rattle.std.proofs.Common.{refl}
use Rattle.keel_cli.proofs.OnErr.{on_err_always}
use Rattle.keel_cli.proofs.PutTurns.{queue_cut, queue_refused, queue_run, refused_told, never_wide}
use Rattle.keel_cli.proofs.putting.queue_batch.Goals as goal

pub ticket_or_reply-requires : goal.ticket_or_reply-requires
ticket_or_reply-requires g c = never_wide c.args.core.now c.admit.new.self c.args.batch c.admit.result c.requires.told c.admit.ensures.turn c.requires.one

pub returns-in_err-ticket-clause-cut : goal.returns-in_err-ticket-clause-cut
returns-in_err-ticket-clause-cut g c s jobs stands =
    let want = rw (c.in_err-ticket.ensures.cut refl) at c.admit.ensures.turn in
    on_err_always c.from_residual.result (queue_cut c.args.core.now c.admit.new.self jobs c.args.batch want s stands)

pub returns-in_err-ticket-clause-told : goal.returns-in_err-ticket-clause-told
returns-in_err-ticket-clause-told g c = refused_told c.args.core.now c.admit.new.self c.args.batch c.admit.result c.admit.ensures.turn c.requires.told

pub returns-in-Queued-clause-carried : goal.returns-in-Queued-clause-carried
returns-in-Queued-clause-carried g c s jobs stands =
    let is = rw c.in-Queued.is at c.in_ok-ticket.ensures.tells in
    queue_run c.args.core.now c.admit.new.self jobs c.args.batch c.in-Queued.ticket (rw is at c.admit.ensures.turn) s stands

pub returns-in-Queued-clause-told : goal.returns-in-Queued-clause-told
returns-in-Queued-clause-told g c = refused_told c.args.core.now c.admit.new.self c.args.batch c.admit.result c.admit.ensures.turn c.requires.told

pub returns-in-Refused-clause-carried : goal.returns-in-Refused-clause-carried
returns-in-Refused-clause-carried g c s jobs stands =
    let prints = rw c.in-Refused.is at c.in_ok-ticket.ensures.tells in
    queue_refused c.args.core.now c.admit.new.self jobs c.args.batch c.admit.result _ c.admit.ensures.turn prints s stands

pub returns-in-Refused-clause-told : goal.returns-in-Refused-clause-told
returns-in-Refused-clause-told g c = refused_told c.args.core.now c.admit.new.self c.args.batch c.admit.result c.admit.ensures.turn c.requires.told
