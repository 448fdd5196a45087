use Rattle.std.proofs.Common.{true}
use Rattle.keel_merge.specs.Laws.{IsAlong}
use Rattle.keel_merge.specs.Order.{EachIsAscending}
use Rattle.keel_levels.proofs.merging.merge_all.Given as goal

abbrev pub invariant-steps : goal.invariant-steps
invariant-steps l = EachIsAscending l.fn.lists.items → IsAlong l.fn.lists.items true l.rows l.merge l.left.items
