-- What a source has left and a sink holds, where that is told.
use Rattle.std.specs.Prelude.{ℕ, ◌+◌, ◌<◌, ◌≤◌, List, length, take, MatchResult, Option}
use Rattle.std.specs.Io.KnownBytes.{Appends, Consumes, IsAtEnd}
use Rattle.std.specs.declared.result.Result.{Result}

-- the bytes held gain a part of these from their beginning, and not all
pub record AppendsPart (old new : Option (List ℕ)) (bytes : List ℕ) : Type 0 where
  pub count : ℕ
  pub proper : count < length bytes
  pub part : Appends old new (take count bytes)

-- the bytes held gain all these, or after a fault a part of them
abbrev pub GivesAll : {E : Type 0} → Option (List ℕ) → Option (List ℕ) → List ℕ → Result (Unit {0}) E → Type 0
GivesAll old new bytes result = MatchResult result (λ _. Appends old new bytes) (λ _. AppendsPart old new bytes)

-- this is all that was left, and no more than the limit
pub record TakesAll (old new : Option (List ℕ)) (limit : ℕ) (input : List ℕ) : Type 0 where
  pub taken : Consumes old new input
  pub at_end : IsAtEnd new
  pub short : length input ≤ limit

-- more was left than the limit, of which at most one piece past it was taken
pub record TakesMore (old new : Option (List ℕ)) (limit : ℕ) : Type 0 where
  pub input : List ℕ
  pub taken : Consumes old new input
  pub long : limit < length input
  pub no_longer : length input ≤ limit + 4096
