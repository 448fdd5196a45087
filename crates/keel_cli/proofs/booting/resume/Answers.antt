use Rattle.keel_cli.proofs.Moving.{boot_told, boot_cut, boot_run}
use Rattle.keel_cli.proofs.booting.resume.Goals as goal

pub returns-clause-carried : goal.returns-clause-carried
returns-clause-carried g c =
    let made = c.resume_step-step in
    boot_run c.args.core.now made.new.core c.args.jobs.now made.new.jobs made.result c.boot_reply.result made.ensures.turn made.ensures.jobs c.boot_reply.ensures.printed

pub returns-clause-cut : goal.returns-clause-cut
returns-clause-cut g c =
    let made = c.resume_step-step in
    boot_cut c.args.core.now made.new.core c.args.jobs.now made.new.jobs made.result c.boot_reply.result made.ensures.turn made.ensures.jobs c.boot_reply.ensures.cut

pub returns-clause-told : goal.returns-clause-told
returns-clause-told g c =
    let made = c.resume_step-step in
    boot_told c.args.core.now made.new.core c.args.jobs.now.resume made.result made.ensures.turn c.requires.told
