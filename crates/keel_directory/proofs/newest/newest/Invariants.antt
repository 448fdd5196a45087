use Rattle.std.proofs.Common.{◌≡◌, ◌≤◌, drop, length}
use Rattle.std.specs.Prelude.{option_copied}
use Rattle.keel_base.specs.Rows as spec
use Rattle.keel_directory.proofs.newest.newest.Given as goal

-- what was found is the newest of the rows behind the ones that are left
abbrev pub invariant-rows : goal.invariant-rows
invariant-rows l = record {
  within : l.left ≤ length l.rows;
  found : option_copied l.found ≡ spec.newest l.key (drop l.left l.rows);
}

abbrev pub decreases-rows : goal.decreases-rows
decreases-rows l = l.left
