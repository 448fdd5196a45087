use Rattle.std.proofs.Common.{◌≡◌, take}
use Rattle.keel_version.specs.Picking.{on_level}
use Rattle.keel_version.proofs.picking.tables_on.Given as goal

abbrev pub invariant-loop-table : goal.invariant-loop-table
invariant-loop-table l = l.found.items ≡ on_level l.level (take l.table-index l.tables)
