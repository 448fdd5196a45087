-- Which lines of an input were given, and how much of it was taken.
use Rattle.std.specs.Prelude.{◌≡◌, ◌⊎◌, ◌<◌, ◌≤◌, ◌+◌, ℕ, List, [], ◌∷◌, ◌++◌, length, take, Option, Some}
use Rattle.std.specs.Io.KnownBytes.{Consumes}
use Rattle.std.specs.List.{AllByRecursion}
use Rattle.keel_lines.specs.Lines.{longest_line, longest_input, longest_piece, lines_of, whole_lines, EndsLine}

-- Just these are the lines of this front of the input, which is no longer than an input may be. Each of them is whole, or
-- the input ends there.
pub record IsFront (input front : List ℕ) (lines : List (List ℕ)) : Type 0 where
  pub rest : List ℕ
  pub input_is : input ≡ front ++ rest
  pub within : length front ≤ longest_input
  pub lines_are : lines_of front ≡ lines
  pub whole : EndsLine front ⊎ (rest ≡ [])

-- they are the first of its lines
pub record AreFirst (input : List ℕ) (lines : List (List ℕ)) : Type 0 where
  pub front : List ℕ
  pub is_front : IsFront input front lines
  pub more : List (List ℕ)
  pub lines_are : lines_of input ≡ lines ++ more

-- they are all of its lines
pub record AreAll (input : List ℕ) (lines : List (List ℕ)) : Type 0 where
  pub lines_are : lines_of input ≡ lines
  pub short : length input ≤ longest_input

-- the next line, of this number, is too long, within the most that an input may have
pub record AreBeforeLong (number : ℕ) (input : List ℕ) (lines : List (List ℕ)) : Type 0 where
  pub front : List ℕ
  pub is_front : IsFront input front lines
  pub room : length front + longest_line < longest_input
  pub line : List ℕ
  pub more : List (List ℕ)
  pub lines_are : lines_of input ≡ lines ++ line ∷ more
  pub long : longest_line < length line
  pub number_is : number ≡ length lines + 1

-- The input is too long, and they are the lines that are whole within its first bytes. None of these bytes' lines is too
-- long.
pub record AreWithin (input : List ℕ) (lines : List (List ℕ)) : Type 0 where
  pub long : longest_input < length input
  pub lines_are : whole_lines (take longest_input input) ≡ lines
  pub short : AllByRecursion (λ line. length line ≤ longest_line) (lines_of (take longest_input input))

-- they are the lines that are whole among the bytes that were taken, and these are left
pub record AreTaken (left : Option (List ℕ)) (input : List ℕ) (lines : List (List ℕ)) : Type 0 where
  pub taken : List ℕ
  pub rest : List ℕ
  pub input_is : input ≡ taken ++ rest
  pub left_is : left ≡ Some rest
  pub within : length taken ≤ longest_input
  pub lines_are : whole_lines taken ≡ lines

-- as many bytes as an input may have were taken of a source, and at most one piece more
pub record TakesFew (old new : Option (List ℕ)) : Type 0 where
  pub taken : List ℕ
  pub consumed : Consumes old new taken
  pub few : length taken ≤ longest_input + longest_piece
