use Rattle.std.proofs.Common.{◌≡◌, List, ◌++◌, drop}
use Rattle.std.specs.List.{flat_map}
use Rattle.keel_directory.specs.TableFiles as spec
use Rattle.keel_directory.specs.TableFiles.{TableFile}
use Rattle.keel_directory.proofs.tables.add_tables.Given as goal

-- where all tables open, the rows so far, with those of the tables that are left, are all
abbrev pub invariant-loop-table : goal.invariant-loop-table
invariant-loop-table l = (read : List TableFile) → spec.AllOpen l.files l.tables read
    → (left : List TableFile) × spec.AllOpen l.files (drop l.table-index l.tables) left × (l.rows.items ++ flat_map spec.table_rows left ≡ l.initial.rows.items ++ flat_map spec.table_rows read)
