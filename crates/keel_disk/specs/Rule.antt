-- Rules that a driver may arrange.
use Rattle.std.specs.Prelude.{◌≢◌}
use Rattle.keel_base.specs.declared.failure.Fault.TheVariants.{SpaceLimit}
use Rattle.keel_disk.specs.declared.rule.Rule.{Rule}
use Rattle.keel_disk.specs.declared.rule.Rule.TheVariants.{Fail, Capacity}

-- a device never answers that a space limit is reached
abbrev pub IsAllowed : Rule → Type 0
IsAllowed (Fail call fault skip times keep) = fault ≢ SpaceLimit
IsAllowed (Capacity bytes) = Unit {0}
