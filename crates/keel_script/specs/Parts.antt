-- What lines are spelled with: words, numbers and texts.
use Rattle.std.specs.Prelude.{◌≡◌, ℕ, ◌<◌, ◌^◌, List, [], ◌∷◌, ◌++◌}
use Rattle.std.specs.Fmt.{decimal}
use Rattle.std.specs.List.{flat_map, AllByRecursion}
use Rattle.keel_script.specs.Texts.{IsText, printed_text}

-- a word as it stands, a number, or a text of any bytes
pub data Part : Type 0 where
  Word : List ℕ → Part
  Number : ℕ → Part
  Text : List ℕ → Part

-- what has a spelling: a number below 2^64, a text of bytes
abbrev pub IsWritable : Part → Type 0
IsWritable (Word bytes) = Unit {0}
IsWritable (Number n) = n < 2 ^ 64
IsWritable (Text bytes) = AllByRecursion (λ byte. byte < 256) bytes

-- this word spells the part. A number has no sign and no zero in front
abbrev pub Spells : List ℕ → Part → Type 0
Spells word (Word bytes) = word ≡ bytes
Spells word (Number n) = (n < 2 ^ 64) × (word ≡ decimal n)
Spells word (Text bytes) = IsText word bytes

-- these words spell these parts, one each
abbrev pub Spell : List (List ℕ) → List Part → Type 0
Spell [] [] = Unit {0}
Spell (word ∷ words) (part ∷ parts) = Spells word part × Spell words parts
Spell [] (part ∷ parts) = ⊥
Spell (word ∷ words) [] = ⊥

-- a part as it is printed
abbrev pub printed_part : Part → List ℕ
printed_part (Word bytes) = bytes
printed_part (Number n) = decimal n
printed_part (Text bytes) = printed_text bytes

-- a space and the part, for each
abbrev pub printed_parts : List Part → List ℕ
printed_parts parts = flat_map (λ part. 32 ∷ printed_part part) parts

-- the parts with one space between them
abbrev pub printed_line : List Part → List ℕ
printed_line [] = []
printed_line (part ∷ parts) = printed_part part ++ printed_parts parts
