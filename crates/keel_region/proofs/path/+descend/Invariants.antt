use Rattle.std.proofs.Common.{length}
use Rattle.keel_region.specs.Trees.{walk, tree_at}
use Rattle.keel_region.proofs.path.+descend.Given as goal

abbrev pub decreases-descend : goal.decreases-descend
decreases-descend l = length (walk (tree_at l.pool.now.slots l.root))
