use Rattle.std.proofs.Common.{◌≡◌, ◌+◌, drop}
use Rattle.keel_version.specs.Applying.{each_fits, take_off}
use Rattle.keel_version.proofs.entries.without_removed.Given as goal

abbrev pub invariant-loop-entry : goal.invariant-loop-entry
invariant-loop-entry l = each_fits take_off (0 + l.entry) (drop l.entry l.removed) l.tables.items ≡ each_fits take_off 0 l.removed l.fn.tables.items
