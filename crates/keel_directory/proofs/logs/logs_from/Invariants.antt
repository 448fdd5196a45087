use Rattle.std.proofs.Common.{◌≡◌, ◌≤◌, drop, length}
use Rattle.keel_directory.specs.Replays as spec
use Rattle.keel_directory.proofs.logs.logs_from.Given as goal

-- the logs are those of the files behind the ones that are left
abbrev pub invariant-files : goal.invariant-files
invariant-files l = record {
  within : l.left ≤ length l.files;
  logs : l.logs.items ≡ spec.logs_from l.least (drop l.left l.files);
}

abbrev pub decreases-files : goal.decreases-files
decreases-files l = l.left
