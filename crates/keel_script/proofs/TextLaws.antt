-- A word is read as the text that it is, and as no other.
use Rattle.std.proofs.Common.{◌≡◌, ℕ, zero, suc, ◌+◌, ◌*◌, ◌<◌, ◌≤◌, Bool, true, false, not, ◌==◌, ltb, leb, ◌&&◌, cond, List, [], ◌∷◌, ◌++◌, length, Option, Some, None, refl, sym, ap, ◌∙◌, subst, inl, inr, arith, codes, IsTrue, eqb-true}
use Rattle.std.specs.Char.{digit_value}
use Rattle.std.specs.Str.{bytes_eq}
use Rattle.std.proofs.lemmas.Bool.{lt-ltb, ltb-true, eqb-false}
use Rattle.std.proofs.lemmas.Slice.Eq.{bytes_eq-Decides}
use Rattle.keel_script.specs.Reading.{byte_at, pair_at, plain_at, bytes_from, onto, text_from}
use Rattle.keel_script.specs.Texts.{is_plain, IsPair, IsByte, AreBytes, IsText}
use Rattle.keel_script.proofs.Choices.{chosen, only_if, both, stepped, same_some, which, second, third}
use Rattle.keel_script.proofs.Spellings.{one_byte, no_byte, shorter}

-- the first byte was spelled
pair_is : (first : ℕ) (word others : List ℕ) (byte : ℕ) → first ≡ 37 → pair_at word ≡ Some (byte, others)
    → (piece : List ℕ) × (first ∷ word ≡ piece ++ others) × IsByte piece byte
pair_is first [] others byte percent read = cc
pair_is first (high ∷ []) others byte percent read = cc
pair_is first (high ∷ low ∷ rest) others byte percent read =
    let value = 16 * digit_value high + digit_value low in
    let parts = only_if (ltb (digit_value high) 16 && ltb (digit_value low) 16) (Some (value, rest)) (byte, others) read in
    let found = same_some (value, rest) (byte, others) parts.1 in
    let digits = both (ltb (digit_value high) 16) (ltb (digit_value low) 16) parts.0 in
    let is_pair : IsPair high low byte = (ltb-true (digit_value high) 16 digits.0, ltb-true (digit_value low) 16 digits.1, sym (ap (λ (x : ℕ × List ℕ). x.0) found)) in
    let same : first ∷ high ∷ low ∷ rest ≡ 37 ∷ high ∷ low ∷ others =
    ap (λ (b : ℕ). b ∷ high ∷ low ∷ rest) percent ∙ ap (λ (x : ℕ × List ℕ). 37 ∷ high ∷ low ∷ x.1) found
    in
    (37 ∷ high ∷ low ∷ [], same, inr (high, low, refl, is_pair))

plain_is : (first : ℕ) (rest others : List ℕ) (byte : ℕ) → plain_at first rest ≡ Some (byte, others)
    → (piece : List ℕ) × (first ∷ rest ≡ piece ++ others) × IsByte piece byte
plain_is first rest others byte read =
    let parts = only_if (is_plain first) (Some (first, rest)) (byte, others) read in
    let found = same_some (first, rest) (byte, others) parts.1 in
    let same : first ≡ byte = ap (λ (x : ℕ × List ℕ). x.0) found in
    (byte ∷ [], ap (λ (x : ℕ × List ℕ). x.0 ∷ x.1) found, inl (refl, subst (λ (b : ℕ). IsTrue (is_plain b)) same parts.0))

byte_is : (word others : List ℕ) (byte : ℕ) → byte_at word ≡ Some (byte, others) → (piece : List ℕ) × (word ≡ piece ++ others) × IsByte piece byte
unfolding byte_at
byte_is [] others byte read = cc
byte_is (first ∷ rest) others byte read =
    elim (chosen (first == 37) (pair_at rest) (plain_at first rest) (Some (byte, others)) read) [
      | inl pair ↦ pair_is first rest others byte (eqb-true first 37 pair.0) pair.1
      | inr plain ↦ plain_is first rest others byte plain.1
    ]

-- what is spelled is read
plain_differs : (byte : ℕ) → is_plain byte ≡ true → (byte == 37) ≡ false
plain_differs byte plain =
    let parts = both (leb 33 byte && leb byte 126) (not (byte == 37)) plain in
    elim (byte == 37) as (λ (test : Bool). not test ≡ true → test ≡ false) [ true ↦ λ e. cc | false ↦ λ e. refl ] parts.1

pub plain_byte : (byte : ℕ) (rest : List ℕ) → is_plain byte ≡ true → byte_at (byte ∷ rest) ≡ Some (byte, rest)
unfolding byte_at
plain_byte byte rest plain =
    let value : ℕ × List ℕ = (byte, rest) in
    second (byte == 37) (is_plain byte) (pair_at rest) (Some value) None (plain_differs byte plain) plain

is_byte : (piece rest : List ℕ) (byte : ℕ) → IsByte piece byte → byte_at (piece ++ rest) ≡ Some (byte, rest)
unfolding byte_at
is_byte piece rest byte (inl (same, plain)) = rw same (plain_byte byte rest plain)
is_byte piece rest byte (inr (high, low, same, pair)) =
    rw (same, lt-ltb (digit_value high) 16 pair.0, lt-ltb (digit_value low) 16 pair.1) (ap (λ (b : ℕ). Some (b, rest)) (sym pair.2))

-- the rest of a word is what the bytes of shorter words are
first_is : (n : ℕ) (word bytes : List ℕ) (first : Option (ℕ × List ℕ)) → byte_at word ≡ first → 0 < length word → length word ≤ suc n → bytes_from word ≡ Some bytes
    → ((word bytes : List ℕ) → length word ≤ n → bytes_from word ≡ Some bytes → AreBytes word bytes) → AreBytes word bytes
first_is n word bytes None is some within read shorter_are =
    let nothing = no_byte word some is in cc
first_is n word bytes (Some (byte, others)) is some within read shorter_are =
    let less = shorter word others byte is in
    let spelled = byte_is word others byte is in
    let kept : onto (Some (byte, others)) (bytes_from others) ≡ Some bytes = sym (one_byte word others byte is) ∙ read in
    let rest = stepped (bytes_from others) (λ (bytes : List ℕ). Some (byte ∷ bytes)) bytes kept in
    let whole : byte ∷ rest.0 ≡ bytes = same_some (byte ∷ rest.0) bytes rest.2 in
    subst (AreBytes word) whole (spelled.0, others, spelled.1, spelled.2, shorter_are others rest.0 (omega arith) rest.1)

-- the bytes of a word
pub bytes_are : (n : ℕ) (word bytes : List ℕ) → length word ≤ n → bytes_from word ≡ Some bytes → AreBytes word bytes
bytes_are n [] bytes within read = subst (AreBytes []) (same_some [] bytes read) refl
bytes_are zero (first ∷ rest) bytes within read = absurd (omega arith)
bytes_are (suc n) (first ∷ rest) bytes within read = first_is n (first ∷ rest) bytes (byte_at (first ∷ rest)) refl (omega arith) within read (bytes_are n)

pub are_bytes : (bytes word : List ℕ) → AreBytes word bytes → bytes_from word ≡ Some bytes
are_bytes [] word are = rw are refl
are_bytes (byte ∷ bytes) word (piece, rest, same, is, others) =
    let read = is_byte piece rest byte is in
    rw (same, one_byte (piece ++ rest) rest byte read, are_bytes bytes rest others) refl

some_text : (word bytes : List ℕ) → (length word ≡ 0 → ⊥) → AreBytes word bytes → IsText word bytes
some_text word [] some are = absurd (some (ap length are))
some_text word (byte ∷ bytes) some are = are

-- a word is read as the text that it is, and as no other
pub text_is : (word bytes : List ℕ) → text_from word ≡ Some bytes → IsText word bytes
unfolding text_from
text_is word bytes read =
    elim (chosen (bytes_eq word (codes "%")) (Some []) (cond (length word == 0) None (bytes_from word)) (Some bytes) read) [
      | inl none ↦ subst (IsText word) (same_some [] bytes none.1) ((bytes_eq-Decides word (codes "%")).0 none.0)
      | inr some ↦ elim (chosen (length word == 0) None (bytes_from word) (Some bytes) some.1) [
        | inl empty ↦ cc
        | inr full ↦ some_text word bytes (eqb-false (length word) 0 full.0) (bytes_are (length word) word bytes (omega arith) full.1)
      ]
    ]

-- neither `%` nor nothing is spelled as bytes
no_text : (bytes : List ℕ) → bytes_from (codes "%") ≡ Some bytes → ⊥
unfolding byte_at
no_text bytes read = cc

not_empty : (word : List ℕ) (byte : ℕ) (bytes : List ℕ) → length word ≡ 0 → bytes_from word ≡ Some (byte ∷ bytes) → ⊥
not_empty [] byte bytes empty read = cc
not_empty (first ∷ rest) byte bytes empty read = omega arith

pub is_text : (word bytes : List ℕ) → IsText word bytes → text_from word ≡ Some bytes
unfolding text_from
is_text word [] is = rw ((bytes_eq-Decides word (codes "%")).1 is) refl
is_text word (byte ∷ bytes) is =
    let read = are_bytes (byte ∷ bytes) word is in
    elim (which (bytes_eq word (codes "%"))) [
      | inl percent ↦ absurd (no_text (byte ∷ bytes) (ap bytes_from (sym ((bytes_eq-Decides word (codes "%")).0 percent)) ∙ read))
      | inr other ↦ elim (which (length word == 0)) [
        | inl empty ↦ absurd (not_empty word byte bytes (eqb-true (length word) 0 empty) read)
        | inr full ↦ third (bytes_eq word (codes "%")) (length word == 0) (Some []) None (bytes_from word) other full ∙ read
      ]
    ]
