use Rattle.std.proofs.Common.{◌≡◌, List, drop, Err}
use Rattle.std.specs.List.{AllByRecursion}
use Rattle.keel_directory.specs.declared.logs.Replayed.{Replayed}
use Rattle.keel_directory.specs.Refusals.{Refusal}
use Rattle.keel_directory.specs.Replays.{IsNumbered, batches_of}
use Rattle.keel_directory.proofs.Replaying.{AddsRecords}
use Rattle.keel_directory.proofs.logs.add_records.Given as goal

-- what the records that are left add, or their refusal, is that of all
abbrev pub invariant-loop-found : goal.invariant-loop-found
invariant-loop-found l = record {
  adds : (after : List Replayed) → AddsRecords l.log (drop l.found-index l.records) l.batches.items after → AddsRecords l.log l.records l.initial.batches.items after;
  refused : (refusal : Refusal) → batches_of l.log (drop l.found-index l.records) ≡ Err refusal → batches_of l.log l.records ≡ Err refusal;
  numbered : AllByRecursion IsNumbered l.initial.batches.items → AllByRecursion IsNumbered l.batches.items;
}
