use Rattle.std.proofs.Common.{length}
use Rattle.keel_region.specs.Trees.{walk, tree_at}
use Rattle.keel_region.proofs.tree.+leftmost.Given as goal

abbrev pub decreases-leftmost : goal.decreases-leftmost
decreases-leftmost l = length (walk (tree_at l.pool.now.slots l.root))
