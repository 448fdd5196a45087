use Rattle.std.proofs.Common.{◌≡◌, ◌++◌}
use Rattle.keel_levels.specs.Ranges.{between}
use Rattle.keel_core.proofs.scanning.rows_between.Given as goal

-- the rows so far, with those of the range that are to come, are all of the range
abbrev pub invariant-loop-row : goal.invariant-loop-row
invariant-loop-row l = l.rows ++ between l.from l.to l.row-iterator ≡ between l.from l.to l.initial.row-iterator
