use Rattle.std.proofs.Common.{ap, Option, ℕ}
use Rattle.keel_cli.proofs.Starts.{start_run, start_told}
use Rattle.keel_cli.proofs.starting.start.Goals as goal

pub returns-clause-carried : goal.returns-clause-carried
returns-clause-carried g c = start_run c.args.core.now c.resume-start.new.self c.args.jobs.now _ c.resume-start.result c.start_reply.result c.resume-start.ensures.turn (ap (λ (held : Option ℕ). record c.args.jobs.now { resume = held }) c.start_held-jobs.ensures) c.start_reply.ensures

pub returns-clause-told : goal.returns-clause-told
returns-clause-told g c = start_told c.args.core.now c.resume-start.new.self c.resume-start.result c.resume-start.ensures.turn c.requires.told
