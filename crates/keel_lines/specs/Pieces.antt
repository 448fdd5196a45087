-- What was taken of a source and isn't looked at yet.
use Rattle.std.specs.Prelude.{◌≡◌, ℕ, ◌+◌, ◌<◌, ◌≤◌, Bool, false, List, [], ◌∷◌, ◌++◌, length, take, drop, min, if◌then◌else◌}
use Rattle.keel_lines.specs.declared.piece.Piece.{Piece}
use Rattle.keel_lines.specs.Lines.{longest_line, IsUnbroken}

-- the bytes of a piece that aren't behind
abbrev pub rest_of : Piece → List ℕ
rest_of piece = drop piece.start (take piece.end piece.bytes)

-- a newline, where there is one
abbrev pub mark_if : Bool → List ℕ
mark_if found = if found then 10 ∷ [] else []

-- A line that has begun goes on with bytes: up to its newline where that was found, else with all of them.
pub record GoesOn (found : Bool) (line bytes new rest : List ℕ) (room : ℕ) : Type 0 where
  pub same : line ++ bytes ≡ new ++ mark_if found ++ rest
  pub unbroken : IsUnbroken new
  pub short : length new ≤ longest_line
  pub fits : length (new ++ mark_if found) ≤ room
  pub longer : found ≡ false → length line < length new
  pub all : found ≡ false → rest ≡ []

-- of the first bytes, as many as there is room for, more than a line may have come before a newline
pub record IsTooLong (room : ℕ) (bytes : List ℕ) : Type 0 where
  pub unbroken : IsUnbroken (take (longest_line + 1) bytes)
  pub long : longest_line < min room (length bytes)

-- there are more bytes than there is room for, and no newline among those for which there is
pub record IsTooMuch (room : ℕ) (bytes : List ℕ) : Type 0 where
  pub unbroken : IsUnbroken (take room bytes)
  pub room_is : room ≤ longest_line
  pub more : room < length bytes

-- the bytes are the beginning of a line, and there is room for them
pub record IsBegun (room : ℕ) (bytes : List ℕ) : Type 0 where
  pub unbroken : IsUnbroken bytes
  pub short : length bytes ≤ longest_line
  pub fits : length bytes ≤ room
