-- Bytes that are read of a file.
use Rattle.std.specs.Prelude.{ℕ, ◌<◌, ◌≤◌, List, length, Option}
use Rattle.std.specs.Io.KnownBytes.{Consumes, IsAtEnd}

-- these are the first so many of the bytes that were left, or all of them
pub record TakesFirst (old new : Option (List ℕ)) (most : ℕ) (bytes : List ℕ) : Type 0 where
  pub few : length bytes ≤ most
  pub taken : Consumes old new bytes
  pub all : length bytes < most → IsAtEnd new
