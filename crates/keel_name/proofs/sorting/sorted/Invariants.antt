use Rattle.std.proofs.Common.{take}
use Rattle.keel_name.specs.Sorting.{HaveSameSizes, IsSorted, entries}
use Rattle.keel_name.proofs.sorting.sorted.Given as goal

abbrev pub invariant-loop-entry : goal.invariant-loop-entry
invariant-loop-entry l = record {
  order : IsSorted l.sorted.items;
  sizes : HaveSameSizes (entries l.sorted.items) (take l.entry-index l.files);
}
