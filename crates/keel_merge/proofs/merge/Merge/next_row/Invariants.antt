use Rattle.std.proofs.Common.{◌≡◌, List}
use Rattle.keel_base.specs.declared.row.Row.{Row}
use Rattle.keel_merge.specs.Feeding.{MayCome, to_come}
use Rattle.keel_merge.specs.Taking.{count_of}
use Rattle.keel_merge.proofs.merge.Merge.next_row.Given as goal

abbrev pub invariant-rows : goal.invariant-rows
invariant-rows l = record {
  may_come : (coming : List (List Row)) → MayCome l.fn.self coming → MayCome l.self coming;
  same : (coming : List (List Row)) → MayCome l.fn.self coming → to_come l.fn.self coming ≡ to_come l.self coming;
}

abbrev pub decreases-rows : goal.decreases-rows
decreases-rows l = count_of l.self.lists
