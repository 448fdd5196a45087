-- What an op weighs: the bytes of its key and value, and 16.
use Rattle.std.specs.Prelude.{ℕ, ◌+◌, ◌<◌, ◌≤◌, List, [], ◌∷◌, length}
use Rattle.std.specs.List.{AllByRecursion}
use Rattle.keel_base.specs.declared.limits.TheConstants.{LONGEST_KEY, LONGEST_VALUE, MOST_OPS}
use Rattle.keel_base.specs.declared.op.Op.{Op}
use Rattle.keel_base.specs.declared.op.Op.TheVariants.{Put, Del}

abbrev pub weight : Op → ℕ
weight (Put key value) = 16 + length key + length value
weight (Del key) = 16 + length key

-- a key within its limits, of at least one byte
pub record IsKey (key : List ℕ) : Type 0 where
  pub some : 0 < length key
  pub most : length key ≤ LONGEST_KEY

-- the lengths of an op are within the limits
abbrev pub IsWithinLimits : Op → Type 0
IsWithinLimits (Put key value) = IsKey key × (length value ≤ LONGEST_VALUE)
IsWithinLimits (Del key) = IsKey key

-- what the ops weigh together
abbrev pub weight_of : List Op → ℕ
weight_of [] = 0
weight_of (op ∷ ops) = weight op + weight_of ops

-- at least one op and not too many, each within its limits
pub record AreAdmissible (ops : List Op) : Type 0 where
  pub some : 1 ≤ length ops
  pub few : length ops ≤ MOST_OPS
  pub each : AllByRecursion IsWithinLimits ops
