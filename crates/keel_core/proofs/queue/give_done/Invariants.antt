use Rattle.std.proofs.Common.{◌≡◌, ◌+◌, ◌++◌, drop, vec_len, vec_capacity}
use Rattle.keel_machine.specs.Admission.{ops_of}
use Rattle.keel_draft.specs.Drafts.{count_ops}
use Rattle.keel_machine.specs.WritingAfter.{done_each}
use Rattle.keel_core.proofs.queue.give_done.Given as goal

-- what was given, with what the tickets that are left get, is all
abbrev pub invariant-loop-index : goal.invariant-loop-index
invariant-loop-index l = record {
  items : l.outcomes.items ++ done_each l.last (drop l.index l.tickets) (ops_of (drop l.index l.batches)) ≡ l.fn.outcomes.items ++ done_each l.seq l.tickets (ops_of l.batches);
  numbers : l.last + count_ops (ops_of (drop l.index l.batches)) ≡ l.seq + count_ops (ops_of l.batches);
  len : vec_len l.outcomes ≡ vec_len l.fn.outcomes + l.index;
  room : vec_capacity l.outcomes ≡ vec_capacity l.fn.outcomes;
}
