use Rattle.keel_region.proofs.Trees.{raised_left, unraised_left}
use Rattle.keel_region.proofs.tree.raise_left.Goals as goal

pub returns-clause-joins : goal.returns-clause-joins
returns-clause-joins c =
    raised_left c.args.pool.now.slots c.write-2.new.pool.slots c.write-3.new.pool.slots c.args.slot c.in-Some.child c.args.node c.in-Some.lower
    c.in-Some.ensures.some.0 c.in-Some.ensures.some.1 c.write-2.ensures.joins c.write-3.ensures.joins

pub returns-in_default-clause-joins : goal.returns-in_default-clause-joins
returns-in_default-clause-joins c =
    unraised_left c.args.pool.now.slots c.write.new.pool.slots c.args.slot c.args.node c.args.slot c.in_default.ensures.none c.write.ensures.joins
