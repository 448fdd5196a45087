use Rattle.std.proofs.Common.{◌≤◌, drop, length}
use Rattle.keel_directory.specs.Answers.{ArePairsOf}
use Rattle.keel_directory.proofs.newest.pairs_of.Given as goal

-- the pairs are those of the rows behind the ones that are left
abbrev pub invariant-rows : goal.invariant-rows
invariant-rows l = record {
  within : l.left ≤ length l.rows;
  pairs : ArePairsOf (drop l.left l.rows) l.pairs.items;
}

abbrev pub decreases-rows : goal.decreases-rows
decreases-rows l = l.left
