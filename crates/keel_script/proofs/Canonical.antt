-- The line that is printed for parts has words that spell them.
use Rattle.std.proofs.Common.{◌≡◌, ℕ, ◌+◌, ◌/◌, ◌%◌, ◌<◌, true, false, List, [], ◌∷◌, ◌++◌, map, refl, sym, ap, ◌∙◌, subst, inl, inr, arith}
use Rattle.std.specs.Char.{digit_value}
use Rattle.std.specs.Fmt.{digit_glyph}
use Rattle.std.specs.List.{AllByRecursion, flat_map}
use Rattle.std.proofs.lemmas.Bool.{lt-ltb, le-ltb, cases_lt, ne_eqb}
use Rattle.keel_script.specs.Parts.{Part, IsWritable, Spells, Spell, printed_part, printed_parts, printed_line}
use Rattle.keel_script.specs.Parts.Part.{Word, Number, Text}
use Rattle.keel_script.specs.Texts.{is_plain, IsByte, AreBytes, printed_byte}
use Rattle.keel_script.specs.Words.{begins_word, onto_first, words_of}
use Rattle.keel_script.proofs.Choices.{which, if_true, if_false}
use Rattle.keel_script.proofs.Splitting.{word_goes_on, word_ends}
use Rattle.keel_script.proofs.Visible.{IsVisibleWord, AreVisible, are_fixed, spelled_visible, plain_visible}

-- the digit of a value has that value
glyph_value : (d : ℕ) → d < 16 → digit_value (digit_glyph true d) ≡ d
glyph_value d small =
    elim (cases_lt d 10) [
      | inl below ↦ rw (lt-ltb d 10 below, le-ltb (48 + d) 48 (omega arith), lt-ltb (48 + d) 58 (omega arith)) (omega arith)
      | inr above ↦
          rw (le-ltb d 10 above, le-ltb (55 + d) 48 (omega arith), le-ltb (55 + d) 58 (omega arith), le-ltb (55 + d) 65 (omega arith), lt-ltb (55 + d) 91 (omega arith)) (omega arith)
    ]

byte_printed : (byte : ℕ) → byte < 256 → IsByte (printed_byte byte) byte
byte_printed byte small =
    let high = digit_glyph true (byte / 16) in
    let low = digit_glyph true (byte % 16) in
    let digits : List ℕ = 37 ∷ high ∷ low ∷ [] in
    let first = glyph_value (byte / 16) (omega arith) in
    let last = glyph_value (byte % 16) (omega arith) in
    elim (which (is_plain byte)) [
      | inl plain ↦ inl (if_true (is_plain byte) (byte ∷ []) digits plain, plain)
      | inr other ↦ inr (high, low, if_false (is_plain byte) (byte ∷ []) digits other, (omega (arith, first), omega (arith, last), omega (arith, first, last)))
    ]

bytes_printed : (bytes : List ℕ) → AllByRecursion (λ byte. byte < 256) bytes → AreBytes (flat_map printed_byte bytes) bytes
bytes_printed [] small = refl
bytes_printed (byte ∷ bytes) small = (printed_byte byte, flat_map printed_byte bytes, refl, byte_printed byte small.0, bytes_printed bytes small.1)

-- a part as it is printed spells it
part_printed : (part : Part) → IsWritable part → Spells (printed_part part) part
part_printed (Word bytes) is = refl
part_printed (Number n) is = (is, refl)
part_printed (Text []) is = refl
part_printed (Text (byte ∷ bytes)) is = bytes_printed (byte ∷ bytes) is

parts_printed : (parts : List Part) → AllByRecursion IsWritable parts → Spell (map printed_part parts) parts
parts_printed [] are = tt
parts_printed (part ∷ parts) are = (part_printed part are.0, parts_printed parts are.1)

-- a visible word stays a word where no word goes on behind it
word_kept : (word rest : List ℕ) → IsVisibleWord word → begins_word rest ≡ false → words_of (word ++ rest) ≡ word ∷ words_of rest
word_kept [] rest visible ends = absurd (omega (arith, visible.some))
word_kept (byte ∷ []) rest visible ends = word_ends byte rest (λ space. omega (arith, visible.each.0.0)) ends
word_kept (byte ∷ next ∷ word) rest visible ends =
    let more = word_kept (next ∷ word) rest (record { some = omega arith; each = visible.each.1 }) ends in
    word_goes_on byte (next ∷ word ++ rest) (λ space. omega (arith, visible.each.0.0)) (rw (ne_eqb next 32 (λ space. omega (arith, visible.each.1.0.0))) refl)
    ∙ ap (onto_first byte) more

-- behind a part a space follows, or nothing
parts_apart : (parts : List Part) → begins_word (printed_parts parts) ≡ false
parts_apart [] = refl
parts_apart (part ∷ parts) = refl

-- the words are the parts
words_printed : (parts : List Part) → AreVisible (map printed_part parts) → words_of (printed_parts parts) ≡ map printed_part parts
words_printed [] visible = refl
words_printed (part ∷ parts) visible =
    word_kept (printed_part part) (printed_parts parts) visible.0 (parts_apart parts) ∙ ap (λ words. printed_part part ∷ words) (words_printed parts visible.1)

line_printed : (parts : List Part) → AreVisible (map printed_part parts) → words_of (printed_line parts) ≡ map printed_part parts
line_printed [] visible = refl
line_printed (part ∷ parts) visible =
    word_kept (printed_part part) (printed_parts parts) visible.0 (parts_apart parts) ∙ ap (λ words. printed_part part ∷ words) (words_printed parts visible.1)

-- the line that is printed for parts spells them
pub line_spells : (parts : List Part) → are_fixed parts ≡ true → AllByRecursion IsWritable parts → Spell (words_of (printed_line parts)) parts
line_spells parts fixed writable =
    let spelled = parts_printed parts writable in
    subst (λ (words : List (List ℕ)). Spell words parts) (sym (line_printed parts (spelled_visible (map printed_part parts) parts fixed spelled))) spelled

-- what is spelled has a spelling
byte_small : (piece : List ℕ) (byte : ℕ) → IsByte piece byte → byte < 256
byte_small piece byte (inl (same, plain)) = let visible = plain_visible byte plain in omega (arith, visible.1)
byte_small piece byte (inr (high, low, same, pair)) = omega (arith, pair.0, pair.1, pair.2)

spelled_bytes : (word bytes : List ℕ) → AreBytes word bytes → AllByRecursion (λ byte. byte < 256) bytes
spelled_bytes word [] are = tt
spelled_bytes word (byte ∷ bytes) (piece, rest, same, is, others) = (byte_small piece byte is, spelled_bytes rest bytes others)

pub spelled_writable : (words : List (List ℕ)) (parts : List Part) → Spell words parts → AllByRecursion IsWritable parts
spelled_writable words [] spelled = tt
spelled_writable [] (part ∷ parts) spelled = absurd spelled
spelled_writable (word ∷ words) (Word bytes ∷ parts) spelled = (tt, spelled_writable words parts spelled.1)
spelled_writable (word ∷ words) (Number n ∷ parts) spelled = (spelled.0.0, spelled_writable words parts spelled.1)
spelled_writable (word ∷ words) (Text [] ∷ parts) spelled = (tt, spelled_writable words parts spelled.1)
spelled_writable (word ∷ words) (Text (byte ∷ bytes) ∷ parts) spelled = (spelled_bytes word (byte ∷ bytes) spelled.0, spelled_writable words parts spelled.1)
