use Rattle.std.proofs.Common.{◌≡◌, true, take, All}
use Rattle.keel_base.specs.Keys.{key_lt}
use Rattle.keel_name.proofs.sorting.place_of.Given as goal

abbrev pub invariant-loop-place : goal.invariant-loop-place
invariant-loop-place l = All (λ other. key_lt other.spelling l.spelling ≡ true) (take l.place l.sorted)
