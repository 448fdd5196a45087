use Rattle.std.proofs.Common.{◌≡◌, ◌+◌, drop}
use Rattle.std.specs.List.{AllByRecursion}
use Rattle.keel_base.specs.Weight.{weight_of, IsWithinLimits}
use Rattle.keel_base.proofs.op.ops_weight.Given as goal

-- what the ops weigh that are left, with what was summed up, is the whole weight
abbrev pub invariant-loop-op : goal.invariant-loop-op
invariant-loop-op l = record {
  sum : l.total + weight_of (drop l.op-index l.ops) ≡ weight_of l.ops;
  within : AllByRecursion IsWithinLimits (drop l.op-index l.ops);
}
