use Rattle.std.proofs.Common.{◌≡◌, ◌+◌, drop}
use Rattle.keel_machine.specs.Admission.{ops_of}
use Rattle.keel_draft.specs.Drafts.{count_ops}
use Rattle.keel_core.specs.Placing.{bytes_needed}
use Rattle.keel_core.proofs.placing.reserve_all.Given as goal

-- the room so far, with what the batches that are left need, is all
abbrev pub invariant-loop-batch : goal.invariant-loop-batch
invariant-loop-batch l = record {
  rows : l.mem.rows ≡ l.fn.mem.rows;
  bytes : l.mem.bytes + bytes_needed (ops_of (drop l.batch-index l.batches)) ≡ l.fn.mem.bytes + bytes_needed (ops_of l.batches);
  entries : l.mem.entries + count_ops (ops_of (drop l.batch-index l.batches)) ≡ l.fn.mem.entries + count_ops (ops_of l.batches);
}
