use Rattle.std.proofs.Common.{[]}
use Rattle.keel_table.proofs.Joined.{rows_below}
use Rattle.keel_table.proofs.table.Table.first_block.Goals as goal

pub returns-clause-before : goal.returns-clause-before
returns-clause-before c = λ blocks fit.
    rows_below c.count_below-below.result [] blocks c.args.self.now.entries c.args.key.now fit (rw c.as_slice.ensures at c.count_below-below.ensures.below)
