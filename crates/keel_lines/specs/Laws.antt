-- What the lines that were given are of an input that is told.
use Rattle.std.specs.Prelude.{◌≡◌, ◌+◌, ℕ, false, List, [], ◌∷◌, ◌++◌, length, Option, Some}
use Rattle.keel_lines.specs.Calls.{LinesView, GivesLine, IsFinished, IsHeld, HoldsFew, PassesLine, PassesInput, IsCut, left}
use Rattle.keel_lines.specs.Delivered.{Delivered}
use Rattle.keel_lines.specs.Inputs.{AreFirst, AreAll, AreBeforeLong, AreWithin, AreTaken, TakesFew}

-- a reader that has given nothing yet has given no line of what is left
abbrev pub Begins : Type 0
Begins = (view : LinesView) → view.passed ≡ 0 → view.ended ≡ false → Delivered (left view) view []

-- a line more
abbrev pub AddsLine : Type 0
AddsLine =
    (input : Option (List ℕ)) (old new : LinesView) (lines : List (List ℕ)) (line : List ℕ)
    → Delivered input old lines → GivesLine old new line → Delivered input new (lines ++ line ∷ [])

-- an error leaves what was given
abbrev pub HoldsLines : Type 0
HoldsLines =
    (input : Option (List ℕ)) (old new : LinesView) (lines : List (List ℕ)) → Delivered input old lines → IsHeld old new → Delivered input new lines

-- the end leaves it too
abbrev pub EndsLines : Type 0
EndsLines =
    (input : Option (List ℕ)) (old new : LinesView) (lines : List (List ℕ)) → Delivered input old lines → IsFinished old new → Delivered input new lines

-- no more is taken than an input may have, and one piece
abbrev pub FewTaken : Type 0
FewTaken = (input : Option (List ℕ)) (view : LinesView) (lines : List (List ℕ)) → Delivered input view lines → HoldsFew view → TakesFew input view.remaining

-- they are the first lines of the input
abbrev pub FirstGiven : Type 0
FirstGiven = (input : List ℕ) (view : LinesView) (lines : List (List ℕ)) → Delivered (Some input) view lines → AreFirst input lines

-- at the end they are all of them, and the input isn't too long
abbrev pub AllGiven : Type 0
AllGiven = (input : List ℕ) (old new : LinesView) (lines : List (List ℕ)) → Delivered (Some input) old lines → IsFinished old new → AreAll input lines

-- where a line is too long, it is the next one of the input
abbrev pub LongIsNext : Type 0
LongIsNext =
    (input : List ℕ) (view : LinesView) (lines : List (List ℕ)) → Delivered (Some input) view lines → view.ended ≡ false → PassesLine view
    → AreBeforeLong (length lines + 1) input lines

-- where the input is too long, they are the whole lines within its first bytes, of which none is too long
abbrev pub WholeWithin : Type 0
WholeWithin =
    (input : List ℕ) (view : LinesView) (lines : List (List ℕ)) → Delivered (Some input) view lines → view.ended ≡ false → PassesInput view
    → AreWithin input lines

-- where the source failed, they are the whole lines among the bytes that were taken
abbrev pub WholeTaken : Type 0
WholeTaken =
    (input : List ℕ) (view : LinesView) (lines : List (List ℕ)) → Delivered (Some input) view lines → view.ended ≡ false → IsCut view
    → AreTaken view.remaining input lines
