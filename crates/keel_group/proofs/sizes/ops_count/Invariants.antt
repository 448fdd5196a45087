use Rattle.std.proofs.Common.{◌≡◌, ◌*◌, ◌≤◌, take}
use Rattle.keel_group.specs.Queue.{ops_count}
use Rattle.keel_group.proofs.sizes.ops_count.Given as goal

abbrev pub invariant-loop-batch : goal.invariant-loop-batch
invariant-loop-batch l = record {
  sum_is : l.total ≡ ops_count (take l.batch-index l.batches);
  bound : l.total ≤ 1000 * l.batch-index;
}
