use Rattle.std.proofs.Common.{◌≡◌, ◌+◌, ◌++◌, drop, length}
use Rattle.keel_batch.specs.Batches.{payloads_behind}
use Rattle.keel_frag.specs.Writing.{records_bytes}
use Rattle.keel_machine.specs.Admission.{ops_of}
use Rattle.keel_draft.specs.Drafts.{count_ops}
use Rattle.keel_core.proofs.writing.records_of.Given as goal

-- the records so far, with those of the batches that are left, are all
abbrev pub invariant-loop-batch : goal.invariant-loop-batch
invariant-loop-batch l = record {
  bytes : l.bytes ++ records_bytes (l.size + length l.bytes) (payloads_behind l.seq (ops_of (drop l.batch-index l.batches))) ≡ records_bytes l.size (payloads_behind l.last (ops_of l.batches));
  numbers : l.seq + count_ops (ops_of (drop l.batch-index l.batches)) ≡ l.last + count_ops (ops_of l.batches);
}
