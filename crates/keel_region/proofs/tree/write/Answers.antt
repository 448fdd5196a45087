use Rattle.std.proofs.Common.{arith}
use Rattle.keel_region.proofs.Trees.{written}
use Rattle.keel_region.proofs.tree.write.Goals as goal

pub returns-clause-joins : goal.returns-clause-joins
returns-clause-joins c =
    written c.args.pool.now.slots c.put.new.self.slots c.args.slot.place c.args.node c.saturating_add.result (omega (arith, c.saturating_add.ensures, c.max-below.ensures, c.height.ensures, c.height-2.ensures)) c.put.ensures.node c.put.ensures.others
