use Rattle.std.proofs.Common.{arith, ap, length}
use Rattle.keel_resume.proofs.Stages.{behind_sync}
use Rattle.keel_resume.proofs.course.Course.behind_table.Goals as goal

pub returns-then-table-tables-clause-stage : goal.returns-then-table-tables-clause-stage
returns-then-table-tables-clause-stage c = behind_sync c.args.table c.args.self.now.drafts (omega (arith, ap length c.as_slice-tables.ensures))
