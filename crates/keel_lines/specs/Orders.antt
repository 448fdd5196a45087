-- What a reader of lines keeps true of itself.
use Rattle.std.specs.Prelude.{◌≡◌, ℕ, ◌-◌, ◌≤◌, Bool, true, List, [], length, Option}
use Rattle.std.specs.Io.KnownBytes.{IsAtEnd}
use Rattle.keel_lines.specs.Lines.{longest_input, longest_piece}
use Rattle.keel_lines.specs.Pieces.{IsBegun}

-- behind the end of the source nothing is held
pub record IsEmpty (line rest : List ℕ) (remaining : Option (List ℕ)) : Type 0 where
  pub line_is : line ≡ []
  pub rest_is : rest ≡ []
  pub at_end : IsAtEnd remaining

pub record IsInOrder (line rest : List ℕ) (passed : ℕ) (ended : Bool) (remaining : Option (List ℕ)) : Type 0 where
  pub within : passed ≤ longest_input
  pub begun : IsBegun (longest_input - passed) line
  pub few : length rest ≤ longest_piece
  pub ended_is : ended ≡ true → IsEmpty line rest remaining
