use Rattle.std.proofs.Common.{◌≡◌, ◌≤◌, ◌*◌, take}
use Rattle.keel_mem.specs.Needs.{bytes_of}
use Rattle.keel_mem.proofs.sizes.ops_size.Given as goal

abbrev pub invariant-loop-op : goal.invariant-loop-op
invariant-loop-op l = record {
  so_far : l.total ≡ bytes_of (take l.op-index l.ops);
  bound : l.total ≤ 66560 * l.op-index;
}
