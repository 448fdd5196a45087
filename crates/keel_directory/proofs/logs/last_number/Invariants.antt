use Rattle.std.proofs.Common.{◌≡◌, ◌<◌, ◌^◌, drop}
use Rattle.std.specs.List.{AllByRecursion}
use Rattle.keel_directory.specs.Replays.{IsNumbered, run_on}
use Rattle.keel_directory.proofs.logs.last_number.Given as goal

-- the batches that are left run on as all do
abbrev pub invariant-loop-batch : goal.invariant-loop-batch
invariant-loop-batch l = record {
  runs : run_on l.last (drop l.batch-index l.batches) ≡ run_on l.fn.last l.batches;
  numbered : AllByRecursion IsNumbered (drop l.batch-index l.batches);
  below : l.fn.last < 2 ^ 63 → l.last < 2 ^ 63;
}
