-- The lines that were given since the reading began.
use Rattle.std.specs.Prelude.{◌≡◌, ◌≤◌, ℕ, true, false, List, length, Option}
use Rattle.std.specs.Io.KnownBytes.{Consumes, IsAtEnd}
use Rattle.std.specs.List.{AllByRecursion}
use Rattle.keel_lines.specs.Calls.{LinesView, left}
use Rattle.keel_lines.specs.Lines.{longest_line, longest_input, lines_of, EndsLine}

-- These are the lines of the bytes that were given. They end with a newline as long as the source's end wasn't met; behind it nothing is left.
pub record Delivered (input : Option (List ℕ)) (view : LinesView) (lines : List (List ℕ)) : Type 0 where
  pub bytes : List ℕ
  pub taken : Consumes input (left view) bytes
  pub passed_is : view.passed ≡ length bytes
  pub within : view.passed ≤ longest_input
  pub lines_are : lines_of bytes ≡ lines
  pub short : AllByRecursion (λ line. length line ≤ longest_line) lines
  pub whole : view.ended ≡ false → EndsLine bytes
  pub last : view.ended ≡ true → IsAtEnd (left view)
