use Rattle.keel_cli.proofs.Moving.{flush_told, flush_cut, flush_run}
use Rattle.keel_cli.proofs.flushing.flush.Goals as goal

pub returns-clause-carried : goal.returns-clause-carried
returns-clause-carried g c =
    let made = c.flush_step-step in
    flush_run c.args.core.now made.new.core c.args.jobs.now made.new.jobs made.result c.flush_reply.result made.ensures.turn made.ensures.jobs c.flush_reply.ensures.printed

pub returns-clause-cut : goal.returns-clause-cut
returns-clause-cut g c =
    let made = c.flush_step-step in
    flush_cut c.args.core.now made.new.core c.args.jobs.now made.new.jobs made.result c.flush_reply.result made.ensures.turn made.ensures.jobs c.flush_reply.ensures.cut

pub returns-clause-told : goal.returns-clause-told
returns-clause-told g c =
    let made = c.flush_step-step in
    flush_told c.args.core.now made.new.core c.args.jobs.now.flush made.result made.ensures.turn c.requires.told
