use Rattle.std.proofs.Common.{None}
use Rattle.keel_table.proofs.Searching.{entries_listed}
use Rattle.keel_table.proofs.opening.entries_in.Goals as goal

pub returns-in-Ok-clause-order : goal.returns-in-Ok-clause-order
returns-in-Ok-clause-order c = (entries_listed c.args.footer.index c.args.footer.blocks 0 None c.args.index.now c.in-Ok.entries c.in-Ok.ensures).0

pub returns-in-Ok-clause-blocks : goal.returns-in-Ok-clause-blocks
returns-in-Ok-clause-blocks c = (entries_listed c.args.footer.index c.args.footer.blocks 0 None c.args.index.now c.in-Ok.entries c.in-Ok.ensures).1
