use Rattle.std.proofs.Common.{◌≤◌, ◌-◌, length}
use Rattle.keel_table.proofs.Searching.{AreBelow, AreNotBelow}
use Rattle.keel_table.proofs.table.count_below.Given as goal

abbrev pub invariant-halving : goal.invariant-halving
invariant-halving l = (l.low ≤ l.high) × (l.high ≤ length l.entries) × AreBelow l.entries l.key l.low × AreNotBelow l.entries l.key l.high

abbrev pub decreases-halving : goal.decreases-halving
decreases-halving l = l.high - l.low
