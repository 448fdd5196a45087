use Rattle.std.proofs.Common.{◌≡◌, ◌+◌, ◌++◌, take, drop, vec_len, vec_capacity}
use Rattle.keel_group.proofs.sizes.move_front.Given as goal

abbrev pub invariant-loop : goal.invariant-loop
invariant-loop g l = record {
  left : l.from.items ≡ drop l.counter l.fn.from.items;
  moved : l.to.items ≡ l.fn.to.items ++ take l.counter l.fn.from.items;
  some : vec_len l.from + l.counter ≡ vec_len l.fn.from;
  more : vec_len l.to ≡ vec_len l.fn.to + l.counter;
  room : vec_capacity l.to ≡ vec_capacity l.fn.to;
}
