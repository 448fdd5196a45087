use Rattle.std.proofs.Common.{◌≡◌, take}
use Rattle.keel_name.specs.Sorting.{entries}
use Rattle.keel_name.proofs.sorting.listed.Given as goal

abbrev pub invariant-loop-spelled : goal.invariant-loop-spelled
invariant-loop-spelled l = l.listing ≡ entries (take l.spelled-index l.spelled-items)
