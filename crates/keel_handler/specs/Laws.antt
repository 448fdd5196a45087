-- Laws of the standing error.
use Rattle.std.specs.Prelude.{◌≡◌, Bool, List, Option}
use Rattle.keel_base.specs.declared.failure.Failure.{Failure}
use Rattle.keel_handler.specs.Failures.{IsStanding, standing_of}

-- the standing error of some failures, and no other is one
pub record HasOneStanding (paranoid : Bool) (failures : List Failure) : Type 0 where
  pub standing : Option Failure
  pub stands : IsStanding paranoid failures standing
  pub alone : (other : Option Failure) → IsStanding paranoid failures other → other ≡ standing

abbrev pub OneStanding : Type 0
OneStanding = (paranoid : Bool) (failures : List Failure) → HasOneStanding paranoid failures

-- the function gives it
abbrev pub StandingIsFound : Type 0
StandingIsFound = (paranoid : Bool) (failures : List Failure) → IsStanding paranoid failures (standing_of paranoid failures)
