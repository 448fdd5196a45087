use Rattle.std.proofs.Common.{◌≡◌, ◌+◌, ◌≤◌, length, vec_len, vec_capacity}
use Rattle.keel_region.specs.Slots.{IsPool, KeepsNodes}
use Rattle.keel_region.proofs.pool.Pool.reserve.Given as goal

abbrev pub invariant-adding : goal.invariant-adding
invariant-adding l = record {
  pool : IsPool l.self-inside.nodes.items l.self-inside.free.items;
  keeps : KeepsNodes l.fn.self.slots l.self-inside.nodes.items;
  length : vec_len l.self-inside.nodes + l.fn.self.spare ≡ length l.fn.self.slots + vec_len l.self-inside.free;
  count : vec_len l.self-inside.free ≡ l.fn.self.spare + l.counter;
  nodes_room : vec_len l.self-inside.nodes + l.more ≤ vec_capacity l.self-inside.nodes + l.counter;
  free_room : vec_len l.self-inside.nodes + l.more ≤ vec_capacity l.self-inside.free + l.counter;
}
