use Rattle.std.proofs.Common.{◌≡◌, ◌++◌, drop}
use Rattle.std.specs.List.{AllByRecursion}
use Rattle.keel_directory.specs.Replays.{IsNumbered, replayed_rows}
use Rattle.keel_directory.proofs.logs.add_batches.Given as goal

-- the rows so far, with those of the batches that are left, are all
abbrev pub invariant-loop-batch : goal.invariant-loop-batch
invariant-loop-batch l = record {
  rows : l.rows.items ++ replayed_rows (drop l.batch-index l.batches) ≡ l.initial.rows.items ++ replayed_rows l.batches;
  numbered : AllByRecursion IsNumbered (drop l.batch-index l.batches);
}
