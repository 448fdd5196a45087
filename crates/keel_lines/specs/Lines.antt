-- The lines of a text.
use Rattle.std.specs.Prelude.{◌≡◌, ℕ, suc, List, [], ◌∷◌, if◌then◌else◌, ◌==◌}

-- the most bytes that a line may have before its newline, and that an input may have
abbrev pub longest_line : ℕ
longest_line = 8192

abbrev pub longest_input : ℕ
longest_input = 67108864

-- the most bytes that are taken of a source at once
abbrev pub longest_piece : ℕ
longest_piece = 4096

-- a byte onto the first of these lines
abbrev pub onto_first : ℕ → List (List ℕ) → List (List ℕ)
onto_first byte [] = (byte ∷ []) ∷ []
onto_first byte (line ∷ lines) = (byte ∷ line) ∷ lines

-- each line ends with a newline, which the last may lack
abbrev pub lines_of : List ℕ → List (List ℕ)
lines_of [] = []
lines_of (byte ∷ bytes) = if byte == 10 then [] ∷ lines_of bytes else onto_first byte (lines_of bytes)

-- a byte onto the first of these lines, where there is one
abbrev pub into_first : ℕ → List (List ℕ) → List (List ℕ)
into_first byte [] = []
into_first byte (line ∷ lines) = (byte ∷ line) ∷ lines

-- the lines that end with their newline
abbrev pub whole_lines : List ℕ → List (List ℕ)
whole_lines [] = []
whole_lines (byte ∷ bytes) = if byte == 10 then [] ∷ whole_lines bytes else into_first byte (whole_lines bytes)

-- how many bytes stand before the first newline
abbrev pub length_before : List ℕ → ℕ
length_before [] = 0
length_before (byte ∷ bytes) = if byte == 10 then 0 else suc (length_before bytes)

-- there is no newline among these bytes
abbrev pub IsUnbroken : List ℕ → Type 0
IsUnbroken [] = Unit {0}
IsUnbroken (byte ∷ bytes) = (byte ≡ 10 → ⊥) × IsUnbroken bytes

-- no byte, or a newline as the last one
abbrev pub EndsLine : List ℕ → Type 0
EndsLine [] = Unit {0}
EndsLine (byte ∷ []) = byte ≡ 10
EndsLine (byte ∷ next ∷ bytes) = EndsLine (next ∷ bytes)
