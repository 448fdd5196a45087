-- What contracts see of a list whose room is taken first.
use Rattle.std.specs.Prelude.{ℕ, List}

-- the elements in their order, and how many more have room
pub record ReservedShown (T : Type 0) : Type 0 where
  pub items : List T
  pub spare : ℕ
