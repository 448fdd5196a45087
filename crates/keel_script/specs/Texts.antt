-- How a text of any bytes is spelled in one word.
use Rattle.std.specs.Prelude.{◌≡◌, ℕ, ◌+◌, ◌*◌, ◌/◌, ◌%◌, ◌<◌, Bool, true, not, ◌&&◌, ◌==◌, nat_le, if◌then◌else◌, IsTrue, List, [], ◌∷◌, ◌++◌, ◌⊎◌}
use Rattle.std.specs.Char.{digit_value}
use Rattle.std.specs.Fmt.{digit_glyph}
use Rattle.std.specs.List.{flat_map}

-- whether a byte may stand for itself: 0x21 to 0x7E, but not `%`
abbrev pub is_plain : ℕ → Bool
is_plain byte = nat_le 33 byte && nat_le byte 126 && not (byte == 37)

-- two hexadecimal digits, each in either case, are a byte
abbrev pub IsPair : ℕ → ℕ → ℕ → Type 0
IsPair high low byte = (digit_value high < 16) × (digit_value low < 16) × (byte ≡ 16 * digit_value high + digit_value low)

-- this is a byte: itself, or `%` and its two digits
abbrev pub IsByte : List ℕ → ℕ → Type 0
IsByte piece byte =
    ((piece ≡ byte ∷ []) × IsTrue (is_plain byte)) ⊎ ((high : ℕ) × (low : ℕ) × (piece ≡ 37 ∷ high ∷ low ∷ []) × IsPair high low byte)

-- these are bytes, one behind another
abbrev pub AreBytes : List ℕ → List ℕ → Type 0
AreBytes word [] = word ≡ []
AreBytes word (byte ∷ bytes) = (piece : List ℕ) × (rest : List ℕ) × (word ≡ piece ++ rest) × IsByte piece byte × AreBytes rest bytes

-- this word is a text: `%` alone is the empty one
abbrev pub IsText : List ℕ → List ℕ → Type 0
IsText word [] = word ≡ 37 ∷ []
IsText word (byte ∷ bytes) = AreBytes word (byte ∷ bytes)

-- the one spelling that is printed: itself wherever it can be, and digits in upper case
abbrev pub printed_byte : ℕ → List ℕ
printed_byte byte =
    if is_plain byte then byte ∷ [] else 37 ∷ digit_glyph true (byte / 16) ∷ digit_glyph true (byte % 16) ∷ []

abbrev pub printed_text : List ℕ → List ℕ
printed_text [] = 37 ∷ []
printed_text (byte ∷ bytes) = flat_map printed_byte (byte ∷ bytes)
