use Rattle.std.proofs.Common.{◌≡◌, ◌+◌, ◌<◌, ◌++◌, drop}
use Rattle.std.specs.Prelude.{All}
use Rattle.keel_machine.specs.Admission.{ops_of}
use Rattle.keel_draft.specs.Drafts.{count_ops}
use Rattle.keel_core.specs.Placing.{bytes_needed}
use Rattle.keel_draft.specs.Drafts.{batch_rows}
use Rattle.keel_core.proofs.placing.place.Given as goal

-- the rows so far, with those of the batches that are left, are all
abbrev pub invariant-loop-batch : goal.invariant-loop-batch
invariant-loop-batch l = record {
  rows : l.mem.rows ++ batch_rows l.next (ops_of (drop l.batch-index l.batches)) ≡ l.fn.mem.rows ++ batch_rows l.seq (ops_of l.batches);
  bytes : l.mem.bytes + bytes_needed (ops_of l.batches) ≡ l.fn.mem.bytes + bytes_needed (ops_of (drop l.batch-index l.batches));
  entries : l.mem.entries + count_ops (ops_of l.batches) ≡ l.fn.mem.entries + count_ops (ops_of (drop l.batch-index l.batches));
  above : All (λ row. row.seq < l.next) l.mem.rows;
  numbers : l.next + count_ops (ops_of (drop l.batch-index l.batches)) ≡ l.seq + count_ops (ops_of l.batches);
}
