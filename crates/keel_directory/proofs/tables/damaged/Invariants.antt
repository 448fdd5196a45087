use Rattle.std.proofs.Common.{◌≡◌, ◌≤◌, drop, length}
use Rattle.std.specs.Prelude.{is_some, option_copied}
use Rattle.keel_directory.specs.TableFiles as spec
use Rattle.keel_directory.proofs.tables.damaged.Given as goal

-- what was found is the least of the tables behind the ones that are left
abbrev pub invariant-tables : goal.invariant-tables
invariant-tables l = record {
  within : l.left ≤ length l.tables;
  found : option_copied l.found ≡ spec.least (λ table. is_some (spec.damage_in table.size (spec.bytes_of l.files table))) (drop l.left l.tables);
}

abbrev pub decreases-tables : goal.decreases-tables
decreases-tables l = l.left
