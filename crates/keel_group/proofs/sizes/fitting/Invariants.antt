use Rattle.std.proofs.Common.{◌≡◌, ◌+◌, drop}
use Rattle.keel_group.specs.declared.formed.TheConstants.{MAX_GROUP_WEIGHT}
use Rattle.keel_group.specs.Sizes.{fitting}
use Rattle.keel_group.proofs.sizes.fitting.Given as goal

abbrev pub invariant-loop-count : goal.invariant-loop-count
invariant-loop-count l = l.count + fitting l.room (drop l.count l.batches) ≡ fitting MAX_GROUP_WEIGHT l.batches
