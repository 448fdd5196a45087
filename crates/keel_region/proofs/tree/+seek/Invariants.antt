use Rattle.std.proofs.Common.{length}
use Rattle.keel_region.specs.Trees.{walk, tree_at}
use Rattle.keel_region.proofs.tree.+seek.Given as goal

abbrev pub decreases-seek : goal.decreases-seek
decreases-seek l = length (walk (tree_at l.pool.now.slots l.root))
