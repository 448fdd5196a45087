-- How the bytes of a text are taken off its spelling one by one.
use Rattle.std.proofs.Common.{◌≡◌, ℕ, ◌+◌, ◌*◌, ◌<◌, ◌==◌, ltb, ◌&&◌, List, [], ◌∷◌, ◌++◌, length, Option, Some, None, refl, sym, ap, ◌∙◌, inl, inr, arith}
use Rattle.std.specs.Char.{digit_value}
use Rattle.std.proofs.lemmas.List.{append_assoc}
use Rattle.keel_script.specs.Reading.{byte_at, pair_at, plain_at, bytes_from, onto}
use Rattle.keel_script.specs.Texts.{is_plain}
use Rattle.keel_script.proofs.Choices.{chosen, only_if, same_some}

-- these bytes, and then those
abbrev pub behind_front : List ℕ → Option (List ℕ) → Option (List ℕ)
behind_front front None = None
behind_front front (Some bytes) = Some (front ++ bytes)

-- what stands behind the first byte
pair_rest : (high low : ℕ) (rest others : List ℕ) (byte : ℕ) → pair_at (high ∷ low ∷ rest) ≡ Some (byte, others) → rest ≡ others
pair_rest high low rest others byte read =
    let value = 16 * digit_value high + digit_value low in
    let parts = only_if (ltb (digit_value high) 16 && ltb (digit_value low) 16) (Some (value, rest)) (byte, others) read in
    ap (λ (x : ℕ × List ℕ). x.1) (same_some (value, rest) (byte, others) parts.1)

plain_rest : (first byte : ℕ) (rest others : List ℕ) → plain_at first rest ≡ Some (byte, others) → rest ≡ others
plain_rest first byte rest others read =
    let parts = only_if (is_plain first) (Some (first, rest)) (byte, others) read in
    ap (λ (x : ℕ × List ℕ). x.1) (same_some (first, rest) (byte, others) parts.1)

-- the bytes are the first and those of the rest
pub one_byte : (word others : List ℕ) (byte : ℕ) → byte_at word ≡ Some (byte, others) → bytes_from word ≡ onto (Some (byte, others)) (bytes_from others)
unfolding byte_at
one_byte [] others byte read = cc
one_byte (first ∷ []) others byte read =
    elim (chosen (first == 37) (pair_at []) (plain_at first []) (Some (byte, others)) read) [
      | inl pair ↦ cc
      | inr plain ↦ rw (read, ← plain_rest first byte [] others plain.1) refl
    ]
one_byte (first ∷ second ∷ []) others byte read =
    elim (chosen (first == 37) (pair_at (second ∷ [])) (plain_at first (second ∷ [])) (Some (byte, others)) read) [
      | inl pair ↦ cc
      | inr plain ↦ rw (read, ← plain_rest first byte (second ∷ []) others plain.1) refl
    ]
one_byte (first ∷ high ∷ low ∷ rest) others byte read =
    elim (chosen (first == 37) (pair_at (high ∷ low ∷ rest)) (plain_at first (high ∷ low ∷ rest)) (Some (byte, others)) read) [
      | inl pair ↦ rw (read, ← pair_rest high low rest others byte pair.1, pair.0) refl
      | inr plain ↦ rw (read, ← plain_rest first byte (high ∷ low ∷ rest) others plain.1, plain.0) refl
    ]

-- without a first byte there are none
pub no_byte : (word : List ℕ) → 0 < length word → byte_at word ≡ None → bytes_from word ≡ None
no_byte [] some read = absurd (omega arith)
no_byte (first ∷ []) some read = rw read refl
no_byte (first ∷ second ∷ []) some read = rw read refl
no_byte (first ∷ high ∷ low ∷ rest) some read = rw read refl

-- what follows the first byte is shorter
pub shorter : (word others : List ℕ) (byte : ℕ) → byte_at word ≡ Some (byte, others) → length others < length word
unfolding byte_at
shorter [] others byte read = cc
shorter (first ∷ []) others byte read =
    elim (chosen (first == 37) (pair_at []) (plain_at first []) (Some (byte, others)) read) [
      | inl pair ↦ cc
      | inr plain ↦ omega (arith, ap length (plain_rest first byte [] others plain.1))
    ]
shorter (first ∷ second ∷ []) others byte read =
    elim (chosen (first == 37) (pair_at (second ∷ [])) (plain_at first (second ∷ [])) (Some (byte, others)) read) [
      | inl pair ↦ cc
      | inr plain ↦ omega (arith, ap length (plain_rest first byte (second ∷ []) others plain.1))
    ]
shorter (first ∷ high ∷ low ∷ rest) others byte read =
    elim (chosen (first == 37) (pair_at (high ∷ low ∷ rest)) (plain_at first (high ∷ low ∷ rest)) (Some (byte, others)) read) [
      | inl pair ↦ omega (arith, ap length (pair_rest high low rest others byte pair.1))
      | inr plain ↦ omega (arith, ap length (plain_rest first byte (high ∷ low ∷ rest) others plain.1))
    ]

shifted : (bytes : List ℕ) (byte : ℕ) (rest : List ℕ) (others : Option (List ℕ)) → behind_front (bytes ++ byte ∷ []) others ≡ behind_front bytes (onto (Some (byte, rest)) others)
shifted bytes byte rest None = refl
shifted bytes byte rest (Some others) = ap Some (append_assoc bytes (byte ∷ []) others)

-- a step of a reading that keeps the bytes so far
pub one_more : (word rest others bytes more : List ℕ) (byte : ℕ) → behind_front bytes (bytes_from rest) ≡ bytes_from word → byte_at rest ≡ Some (byte, others)
    → more ≡ bytes ++ byte ∷ [] → behind_front more (bytes_from others) ≡ bytes_from word
one_more word rest others bytes more byte kept read added = rw added (shifted bytes byte others (bytes_from others) ∙ ap (behind_front bytes) (sym (one_byte rest others byte read)) ∙ kept)
