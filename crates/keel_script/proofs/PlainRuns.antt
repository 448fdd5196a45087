-- Bytes that stand for themselves, read and printed all at once.
use Rattle.std.proofs.Common.{◌≡◌, ℕ, zero, suc, ◌<◌, ◌≤◌, ◌==◌, true, false, Some, List, [], ◌∷◌, ◌++◌, length, take, drop, get_or, refl, sym, ap, ◌∙◌, append_assoc, append-nil, arith}
use Rattle.std.specs.List.{flat_map}
use Rattle.std.proofs.lemmas.Bool.{eqb-false}
use Rattle.keel_script.specs.declared.command.LineError.{LineError}
use Rattle.keel_script.specs.declared.command.LineError.TheVariants.{NotACommand, OutOfMemory}
use Rattle.keel_script.specs.Reading.{Fails, byte_at, bytes_from}
use Rattle.keel_script.specs.Texts.{is_plain, printed_byte}
use Rattle.keel_script.proofs.Spellings.{behind_front, no_byte, one_more}
use Rattle.keel_script.proofs.TextLaws.{plain_byte}

-- the first so many bytes may stand for themselves
abbrev pub ArePlain : ℕ → List ℕ → Type 0
ArePlain count bytes = (k : ℕ) → k < count → is_plain (get_or bytes k 0) ≡ true

-- a reading keeps the bytes so far
pub more_plain : (word rest bytes more : List ℕ) (count : ℕ) → behind_front bytes (bytes_from rest) ≡ bytes_from word → count ≤ length rest → ArePlain count rest
    → more ≡ bytes ++ take count rest → behind_front more (bytes_from (drop count rest)) ≡ bytes_from word
more_plain word rest bytes more zero kept within plain added = rw (added, append-nil bytes) kept
more_plain word [] bytes more (suc count) kept within plain added = absurd (omega (arith, within))
more_plain word (first ∷ others) bytes more (suc count) kept within plain added =
    let one = one_more word (first ∷ others) others bytes (bytes ++ first ∷ []) first kept (plain_byte first others (plain 0 (omega arith))) refl in
    more_plain word others (bytes ++ first ∷ []) more count one (omega (arith, within)) (λ k less. plain (suc k) (omega (arith, less)))
    (added ∙ sym (append_assoc bytes (first ∷ []) (take count others)))

-- they are printed as they are
pub printed_plain : (count : ℕ) (rest : List ℕ) → count ≤ length rest → ArePlain count rest
    → flat_map printed_byte rest ≡ take count rest ++ flat_map printed_byte (drop count rest)
printed_plain zero rest within plain = refl
printed_plain (suc count) [] within plain = absurd (omega (arith, within))
printed_plain (suc count) (first ∷ others) within plain =
    let one : is_plain first ≡ true = plain 0 (omega arith) in
    rw one (ap (λ (l : List ℕ). first ∷ l) (printed_plain count others (omega (arith, within)) (λ k less. plain (suc k) (omega (arith, less)))))

-- the same of bytes that are cut behind them
pub plain_front : (word rest front back bytes more : List ℕ) (count : ℕ) → behind_front bytes (bytes_from rest) ≡ bytes_from word → count ≤ length rest → ArePlain count rest
    → front ≡ take count rest → back ≡ drop count rest → more ≡ bytes ++ front → behind_front more (bytes_from back) ≡ bytes_from word
plain_front word rest front back bytes more count kept within plain front_is back_is added =
    rw back_is (more_plain word rest bytes more count kept within plain (added ∙ ap (λ (l : List ℕ). bytes ++ l) front_is))

-- nothing is left to be read
pub all_read : (word back more : List ℕ) → behind_front more (bytes_from back) ≡ bytes_from word → length back ≡ 0 → bytes_from word ≡ Some more
all_read word [] more kept none = sym kept ∙ ap Some (append-nil more)
all_read word (byte ∷ back) more kept none = absurd (omega (arith, none))

-- what is left can't be read
pub none_read : (error : LineError) (word back more : List ℕ) → behind_front more (bytes_from back) ≡ bytes_from word → (length back == 0) ≡ false
    → Fails error (byte_at back) → Fails error (bytes_from word)
none_read OutOfMemory word back more kept some none = tt
none_read NotACommand word back more kept some none =
    let full : 0 < length back = omega (arith, eqb-false (length back) 0 some) in
    sym kept ∙ ap (behind_front more) (no_byte back full none)

-- a line with bytes in front of those that are printed
pub printed_front : (line rest front back longer whole : List ℕ) (count : ℕ) → line ++ flat_map printed_byte rest ≡ whole → count ≤ length rest → ArePlain count rest
    → front ≡ take count rest → back ≡ drop count rest → longer ≡ line ++ front → longer ++ flat_map printed_byte back ≡ whole
printed_front line rest front back longer whole count kept within plain front_is back_is added =
    rw (added, front_is, back_is) (append_assoc line (take count rest) (flat_map printed_byte (drop count rest)))
    ∙ ap (λ (l : List ℕ). line ++ l) (sym (printed_plain count rest within plain)) ∙ kept

-- one byte more is printed
pub printed_more : (line back others longer whole : List ℕ) (byte : ℕ) → line ++ flat_map printed_byte back ≡ whole → back ≡ byte ∷ others
    → longer ≡ line ++ printed_byte byte → longer ++ flat_map printed_byte others ≡ whole
printed_more line back others longer whole byte kept back_is added =
    rw added (append_assoc line (printed_byte byte) (flat_map printed_byte others))
    ∙ ap (λ (l : List ℕ). line ++ flat_map printed_byte l) (sym back_is) ∙ kept

-- nothing is left to be printed
pub all_printed : (line back whole : List ℕ) → line ++ flat_map printed_byte back ≡ whole → length back ≡ 0 → line ≡ whole
all_printed line [] whole kept none = sym (append-nil line) ∙ kept
all_printed line (byte ∷ back) whole kept none = absurd (omega (arith, none))
