use Rattle.std.proofs.Common.{◌≡◌, ◌+◌, ◌<◌, ◌++◌, drop}
use Rattle.std.specs.Prelude.{All}
use Rattle.keel_machine.specs.Opening.{ops_replayed}
use Rattle.keel_draft.specs.Drafts.{batch_rows}
use Rattle.keel_core.proofs.placing.placed.Given as goal

-- the rows so far, with those of the batches that are left, are all
abbrev pub invariant-loop-batch : goal.invariant-loop-batch
invariant-loop-batch l = record {
  rows : l.mem.rows ++ batch_rows (l.last + 1) (ops_replayed (drop l.batch-index l.batches)) ≡ batch_rows (l.seq + 1) (ops_replayed l.batches);
  below : All (λ row. row.seq < l.last + 1) l.mem.rows;
}
