use Rattle.std.proofs.Common.{length}
use Rattle.keel_region.specs.Trees.{walk, tree_at}
use Rattle.keel_region.proofs.tree.+behind.Given as goal

abbrev pub decreases-behind : goal.decreases-behind
decreases-behind l = length (walk (tree_at l.pool.now.slots l.root))
