use Rattle.std.proofs.Common.{◌≡◌, ◌≤◌, drop, length}
use Rattle.keel_directory.specs.Reading as spec
use Rattle.keel_directory.proofs.files.first_used.Given as goal

-- what was found is the first of the files behind the ones that are left
abbrev pub invariant-files : goal.invariant-files
invariant-files l = record {
  within : l.left ≤ length l.files;
  found : l.found ≡ spec.first_used (drop l.left l.files);
}

abbrev pub decreases-files : goal.decreases-files
decreases-files l = l.left
