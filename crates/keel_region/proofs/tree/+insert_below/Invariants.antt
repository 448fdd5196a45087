use Rattle.std.proofs.Common.{length}
use Rattle.keel_region.specs.Trees.{walk, tree_at}
use Rattle.keel_region.proofs.tree.+insert_below.Given as goal

abbrev pub decreases-insert_below : goal.decreases-insert_below
decreases-insert_below l = length (walk (tree_at l.pool.now.slots l.root))
