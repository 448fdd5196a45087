-- The place in a list up to which a test holds.
use Rattle.std.specs.Prelude.{◌≡◌, ℕ, ◌<◌, ◌≤◌, Bool, true, false, List, length, slice_index_or}

-- the test holds of the elements in front of the place, and of none from it on
pub record IsPlaceOf {X : Type 0} (test : X → Bool) (xs : List X) (place : ℕ) : Type 0 where
  pub within : place ≤ length xs
  pub before : (k : ℕ) (d : X) → k < place → test (slice_index_or xs k d) ≡ true
  pub behind : (k : ℕ) (d : X) → place ≤ k → k < length xs → test (slice_index_or xs k d) ≡ false
