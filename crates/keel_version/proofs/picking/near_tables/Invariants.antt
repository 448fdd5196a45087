use Rattle.std.proofs.Common.{◌≡◌, take}
use Rattle.std.specs.Prelude.{◌&&◌, ◌==◌, filter}
use Rattle.keel_version.specs.Picking.{is_near}
use Rattle.keel_version.proofs.picking.near_tables.Given as goal

abbrev pub invariant-loop-table : goal.invariant-loop-table
invariant-loop-table l = l.found.items ≡ filter (λ t. (t.level == l.level) && is_near l.seeds t) (take l.table-index l.tables)
