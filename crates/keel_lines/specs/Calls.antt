-- What a reader of lines shows, and what its calls make of that.
use Rattle.std.specs.Prelude.{◌≡◌, ℕ, ◌+◌, ◌-◌, ◌<◌, ◌≤◌, Bool, true, false, List, [], ◌++◌, length, Option}
use Rattle.std.specs.Io.KnownBytes.{Consumes, IsAtEnd, Keeps, prepend_known}
use Rattle.keel_lines.specs.Lines.{longest_line, longest_input, longest_piece, IsUnbroken}
use Rattle.keel_lines.specs.Pieces.{mark_if, IsBegun, IsTooLong, IsTooMuch}

pub record LinesView : Type 0 where
  -- taken of the source, and not given yet
  pub pending : List ℕ
  -- how many bytes were given, with their newlines
  pub passed : ℕ
  -- the end of the source was met
  pub ended : Bool
  -- what the source has left, where it tells that, and how often it failed
  pub remaining : Option (List ℕ)
  pub faults : ℕ

-- the bytes of the input that weren't given yet, where they are told
abbrev pub left : LinesView → Option (List ℕ)
left view = prepend_known view.pending view.remaining

-- how many bytes of the input may still be given
abbrev pub room_in : LinesView → ℕ
room_in view = longest_input - view.passed

-- at most one piece was taken past what an input may have
abbrev pub HoldsFew : LinesView → Type 0
HoldsFew view = view.passed + length view.pending ≤ longest_input + longest_piece

-- this line is what stood behind the last newline, and nothing is left
pub record IsLast (line : List ℕ) (new : LinesView) : Type 0 where
  pub some : 0 < length line
  pub ended : new.ended ≡ true
  pub pending : new.pending ≡ []
  pub at_end : IsAtEnd new.remaining

-- The next line is given. It goes up to its newline, or to the end of the input.
pub record GivesLine (old new : LinesView) (line : List ℕ) : Type 0 where
  pub unbroken : IsUnbroken line
  pub short : length line ≤ longest_line
  pub newline : Bool
  pub taken : Consumes (left old) (left new) (line ++ mark_if newline)
  pub passed_is : new.passed ≡ old.passed + length (line ++ mark_if newline)
  pub further : old.passed < new.passed
  pub within : new.passed ≤ longest_input
  pub open_before : old.ended ≡ false
  pub open_behind : newline ≡ true → new.ended ≡ false
  pub last : newline ≡ false → IsLast line new

-- the input is at its end, and all of its lines were given
pub record IsFinished (old new : LinesView) : Type 0 where
  pub same : Keeps (left old) (left new)
  pub passed_is : new.passed ≡ old.passed
  pub ended : new.ended ≡ true
  pub pending : new.pending ≡ []
  pub at_end : IsAtEnd new.remaining

-- no line was given, and no byte is lost; the source wasn't at its end
pub record IsHeld (old new : LinesView) : Type 0 where
  pub same : Keeps (left old) (left new)
  pub passed_is : new.passed ≡ old.passed
  pub open_before : old.ended ≡ false
  pub open_behind : new.ended ≡ false

-- the next line passes its most bytes
abbrev pub PassesLine : LinesView → Type 0
PassesLine view = IsTooLong (room_in view) view.pending

-- the input passes its most bytes, and no further line is whole within them
abbrev pub PassesInput : LinesView → Type 0
PassesInput view = IsTooMuch (room_in view) view.pending

-- what was taken and not given is no whole line
abbrev pub IsCut : LinesView → Type 0
IsCut view = IsBegun (room_in view) view.pending
