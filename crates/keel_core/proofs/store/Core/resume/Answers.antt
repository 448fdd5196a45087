use Rattle.keel_core.proofs.StartTests.{answers_goes, may_start, starts_goes}
use Rattle.keel_core.proofs.store.Core.resume.Goals as goal

pub start_job-requires : goal.start_job-requires
start_job-requires g c = may_start c.args.self.now c.in-Ok.ensures.0

pub returns-in-Ok : goal.returns-in-Ok
returns-in-Ok g c = record { turn = rw (c.start_job.ensures.view, c.start_job.ensures.answer) (starts_goes c.args.self.now c.in-Ok.failure c.in-Ok.ensures.0 c.in-Ok.ensures.1) }

pub returns-in-Err : goal.returns-in-Err
returns-in-Err g c = record { turn = rw (c.answer_with.ensures.view, c.answer_with.ensures.answer) (answers_goes c.args.self.now c.in-Err.answer c.in-Err.ensures) }
