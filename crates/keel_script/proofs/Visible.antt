-- The bytes of words and lines.
use Rattle.std.proofs.Common.{◌≡◌, ℕ, ◌<◌, ◌≤◌, ◌^◌, Bool, true, not, ◌==◌, ◌&&◌, ltb, leb, List, [], ◌∷◌, ◌++◌, length, refl, ap, subst, inl, inr, arith, codes, All}
use Rattle.std.specs.Char.{digit_value}
use Rattle.std.specs.Fmt.{decimal}
use Rattle.std.specs.List.{AllByRecursion, list_all}
use Rattle.std.specs.Str.Parse.{AllDigits}
use Rattle.std.proofs.lemmas.Bool.{lt-ltb, le-ltb, ltb-true, leb-true, cases_lt, cases_eq}
use Rattle.std.proofs.lemmas.List.{length-append}
use Rattle.std.proofs.lemmas.List.Elements.{All-from_recursion}
use Rattle.std.proofs.lemmas.Fmt.{digits_decimal, decimal_nonempty}
use Rattle.std.proofs.lemmas.Str.Parse.{numerals_by_value, tells_digits, digit_from_value}
use Rattle.keel_script.specs.Parts.{Part, Spell}
use Rattle.keel_script.specs.Parts.Part.{Word, Number, Text}
use Rattle.keel_script.specs.Texts.{is_plain, IsByte, AreBytes, IsText}
use Rattle.keel_script.specs.Words.{begins_word, onto_first, words_of}
use Rattle.keel_script.specs.Laws.{IsPrintable}
use Rattle.keel_script.proofs.Choices.{both, which}
use Rattle.keel_script.proofs.Splitting.{behind_space, word_goes_on, word_ends}

-- a byte from 0x21 to 0x7E
abbrev pub IsVisible : ℕ → Type 0
IsVisible byte = (33 ≤ byte) × (byte ≤ 126)

-- one or more such bytes
pub record IsVisibleWord (word : List ℕ) : Type 0 where
  pub some : 0 < length word
  pub each : AllByRecursion IsVisible word

abbrev pub is_visible : ℕ → Bool
is_visible byte = leb 33 byte && leb byte 126

abbrev pub is_visible_word : List ℕ → Bool
is_visible_word word = ltb 0 (length word) && list_all is_visible word

all_visible : (word : List ℕ) → list_all is_visible word ≡ true → AllByRecursion IsVisible word
all_visible [] all = tt
all_visible (byte ∷ word) all =
    let parts = both (is_visible byte) (list_all is_visible word) all in
    let bounds = both (leb 33 byte) (leb byte 126) parts.0 in
    ((leb-true 33 byte bounds.0, leb-true byte 126 bounds.1), all_visible word parts.1)

pub visible_word : (word : List ℕ) → is_visible_word word ≡ true → IsVisibleWord word
visible_word word test =
    let parts = both (ltb 0 (length word)) (list_all is_visible word) test in
    record { some = ltb-true 0 (length word) parts.0; each = all_visible word parts.1 }

all_append : (xs ys : List ℕ) → AllByRecursion IsVisible xs → AllByRecursion IsVisible ys → AllByRecursion IsVisible (xs ++ ys)
all_append [] ys first second = second
all_append (x ∷ xs) ys first second = (first.0, all_append xs ys first.1 second)

-- hexadecimal digits are visible
hex_visible : (digit : ℕ) → digit_value digit < 16 → IsVisible digit
hex_visible digit small =
    elim (cases_lt digit 48) [
      | inl below ↦ absurd (omega (arith, rw (lt-ltb digit 48 below) at small))
      | inr above ↦ elim (cases_lt digit 123) [
        | inl within ↦ (omega arith, omega arith)
        | inr over ↦ absurd (omega (arith, rw (le-ltb digit 48 above, le-ltb digit 58 (omega arith), le-ltb digit 65 (omega arith), le-ltb digit 91 (omega arith), le-ltb digit 97 (omega arith), le-ltb digit 123 over) at small))
      ]
    ]

-- decimal digits are visible
digits_visible : (ds : List ℕ) → AllDigits 10 ds → AllByRecursion IsVisible ds
digits_visible [] all = tt
digits_visible (d ∷ ds) all = let range = digit_from_value d all.0 in ((omega (arith, range.0), omega (arith, range.1)), digits_visible ds all.1)

pub decimal_visible : (n : ℕ) → n < 2 ^ 64 → IsVisibleWord (decimal n)
decimal_visible n small = record {
  some = decimal_nonempty n small;
  each = digits_visible (decimal n) (digits_decimal (numerals_by_value (AllDigits 10) tells_digits) n small);
}

pub plain_visible : (byte : ℕ) → is_plain byte ≡ true → IsVisible byte
plain_visible byte plain =
    let parts = both (leb 33 byte && leb byte 126) (not (byte == 37)) plain in
    let bounds = both (leb 33 byte) (leb byte 126) parts.0 in
    (leb-true 33 byte bounds.0, leb-true byte 126 bounds.1)

byte_visible : (piece : List ℕ) (byte : ℕ) → IsByte piece byte → AllByRecursion IsVisible piece × (0 < length piece)
byte_visible piece byte (inl (same, plain)) = rw same ((plain_visible byte plain, tt), omega arith)
byte_visible piece byte (inr (high, low, same, pair)) =
    rw same (((omega arith, omega arith), (hex_visible high pair.0, (hex_visible low pair.1, tt))), omega arith)

bytes_visible : (word bytes : List ℕ) → AreBytes word bytes → AllByRecursion IsVisible word
bytes_visible word [] are = rw are tt
bytes_visible word (byte ∷ bytes) (piece, rest, same, is, others) =
    rw same (all_append piece rest (byte_visible piece byte is).0 (bytes_visible rest bytes others))

bytes_some : (word bytes : List ℕ) (byte : ℕ) → AreBytes word (byte ∷ bytes) → 0 < length word
bytes_some word bytes byte (piece, rest, same, is, others) =
    let some = (byte_visible piece byte is).1 in
    omega (arith, ap length same, length-append piece rest)

pub text_visible : (word bytes : List ℕ) → IsText word bytes → IsVisibleWord word
text_visible word [] is = rw is (visible_word (codes "%") refl)
text_visible word (byte ∷ bytes) is = record { some = bytes_some word bytes byte is; each = bytes_visible word (byte ∷ bytes) is }

-- what a part has in front of its words
abbrev pub are_fixed : List Part → Bool
are_fixed [] = true
are_fixed (Word bytes ∷ parts) = is_visible_word bytes && are_fixed parts
are_fixed (Number n ∷ parts) = are_fixed parts
are_fixed (Text bytes ∷ parts) = are_fixed parts

abbrev pub AreVisible : List (List ℕ) → Type 0
AreVisible words = AllByRecursion IsVisibleWord words

-- words that spell parts are visible
pub spelled_visible : (words : List (List ℕ)) (parts : List Part) → are_fixed parts ≡ true → Spell words parts → AreVisible words
spelled_visible [] parts fixed spelled = tt
spelled_visible (word ∷ words) [] fixed spelled = absurd spelled
spelled_visible (word ∷ words) (Word bytes ∷ parts) fixed spelled =
    let tests = both (is_visible_word bytes) (are_fixed parts) fixed in
    (rw spelled.0 (visible_word bytes tests.0), spelled_visible words parts tests.1 spelled.1)
spelled_visible (word ∷ words) (Number n ∷ parts) fixed spelled =
    (rw spelled.0.1 (decimal_visible n spelled.0.0), spelled_visible words parts fixed spelled.1)
spelled_visible (word ∷ words) (Text bytes ∷ parts) fixed spelled =
    (text_visible word bytes spelled.0, spelled_visible words parts fixed spelled.1)

-- from the words to the line: what stands between them are spaces
abbrev Each : List (List ℕ) → Type 0
Each words = AllByRecursion (λ word. AllByRecursion IsVisible word) words

each_visible : (words : List (List ℕ)) → AreVisible words → Each words
each_visible [] visible = tt
each_visible (word ∷ words) visible = (visible.0.each, each_visible words visible.1)

onto_visible : (byte : ℕ) (words : List (List ℕ)) → Each (onto_first byte words) → IsVisible byte × Each words
onto_visible byte [] visible = (visible.0.0, tt)
onto_visible byte (word ∷ words) visible = (visible.0.0, (visible.0.1, visible.1))

line_printable : (line : List ℕ) → Each (words_of line) → AllByRecursion IsPrintable line
line_printable [] visible = tt
line_printable (byte ∷ line) visible =
    elim (cases_eq byte 32) [
      | inl space ↦ ((omega arith, omega arith), line_printable line (subst Each (behind_space byte line space) visible))
      | inr other ↦ elim (which (begins_word line)) [
        | inl goes ↦
            let parts = onto_visible byte (words_of line) (subst Each (word_goes_on byte line other goes) visible) in
            ((omega (arith, parts.0.0), parts.0.1), line_printable line parts.1)
        | inr ends ↦
            let parts : Each ((byte ∷ []) ∷ words_of line) = subst Each (word_ends byte line other ends) visible in
            ((omega (arith, parts.0.0.0), parts.0.0.1), line_printable line parts.1)
      ]
    ]

-- a line of visible words has printable bytes alone
pub words_printable : (line : List ℕ) → AreVisible (words_of line) → All IsPrintable line
words_printable line visible = All-from_recursion IsPrintable line (line_printable line (each_visible (words_of line) visible))
