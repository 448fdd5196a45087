use Rattle.keel_cli.proofs.Moving.{step_told, write_cut, write_run}
use Rattle.keel_cli.proofs.stepping.write.Goals as goal

pub returns-clause-carried : goal.returns-clause-carried
returns-clause-carried g c =
    let made = c.write_step-step in
    write_run c.args.core.now made.new.core c.args.jobs.now made.new.jobs made.result c.step_reply.result made.ensures.turn made.ensures.jobs c.step_reply.ensures.printed

pub returns-clause-cut : goal.returns-clause-cut
returns-clause-cut g c =
    let made = c.write_step-step in
    write_cut c.args.core.now made.new.core c.args.jobs.now made.new.jobs made.result c.step_reply.result made.ensures.turn made.ensures.jobs c.step_reply.ensures.cut

pub returns-clause-told : goal.returns-clause-told
returns-clause-told g c =
    let made = c.write_step-step in
    step_told c.args.core.now made.new.core c.args.jobs.now.write made.result made.ensures.turn c.requires.told
