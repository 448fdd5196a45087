-- The words of a line.
use Rattle.std.specs.Prelude.{◌≡◌, ℕ, Bool, false, not, ◌==◌, if◌then◌else◌, List, [], ◌∷◌, ◌⊎◌, All}

-- whether a word begins here
abbrev pub begins_word : List ℕ → Bool
begins_word [] = false
begins_word (byte ∷ rest) = not (byte == 32)

-- a byte onto the front of the first of these words
abbrev pub onto_first : ℕ → List (List ℕ) → List (List ℕ)
onto_first byte [] = (byte ∷ []) ∷ []
onto_first byte (word ∷ words) = (byte ∷ word) ∷ words

-- the runs of bytes between spaces
abbrev pub words_of : List ℕ → List (List ℕ)
words_of [] = []
words_of (byte ∷ rest) =
    if byte == 32 then words_of rest else (if begins_word rest then onto_first byte (words_of rest) else (byte ∷ []) ∷ words_of rest)

-- a line whose first byte is `#`
abbrev pub IsComment : List ℕ → Type 0
IsComment [] = ⊥
IsComment (byte ∷ rest) = byte ≡ 35

-- spaces alone, nothing, or a comment: a line that says nothing and has no answer
abbrev pub IsBlank : List ℕ → Type 0
IsBlank line = All (λ byte. byte ≡ 32) line ⊎ IsComment line
