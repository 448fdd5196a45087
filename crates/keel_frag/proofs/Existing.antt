-- Every list of bytes has a reading.
use Rattle.std.proofs.Common.{◌≡◌, ℕ, zero, suc, ◌+◌, ◌-◌, ◌<◌, ◌≤◌, Bool, true, false, not, ◌⊎◌, inl, inr, eqb, eqb-true, eq-eqb, List, [], ◌∷◌, ◌++◌, length, take, drop, replicate, get_or, refl, sym, ap, subst, ◌∙◌, arith}
use Rattle.std.specs.Option.{is_some}
use Rattle.std.specs.Int.{w16, from_le_bytes}
use Rattle.std.proofs.lemmas.List.{take_at}
use Rattle.std.proofs.lemmas.Bool.{cases_lt}
use Rattle.keel_frag.specs.Pieces.{Piece, fragment, trailer, Progress, start, after, room_at, spelling_of}
use Rattle.keel_frag.specs.Reading.{IsReading, HasReading, HasRecords}
use Rattle.keel_frag.specs.Parsing.{BeginWith, NoPiece}
use Rattle.keel_frag.proofs.Heads.{head_before}
use Rattle.keel_frag.proofs.Laying.{HasRead, HasRead-start, goes_on, goes_no_further, offset-size, size_positive, size_within}

-- ---- whether a list begins with another

abbrev Begins : List ℕ → List ℕ → Type 0
Begins front bytes = (rest : List ℕ) × (bytes ≡ front ++ rest)

first_of_both : (x y : ℕ) (xs ys : List ℕ) → x ∷ xs ≡ y ∷ ys → x ≡ y
first_of_both x y xs ys e = cc

rest_of_both : (x y : ℕ) (xs ys : List ℕ) → x ∷ xs ≡ y ∷ ys → xs ≡ ys
rest_of_both x y xs ys e = cc

begins : (front bytes : List ℕ) → Begins front bytes ⊎ (Begins front bytes → ⊥)
begins [] bytes = inl (bytes, refl)
begins (x ∷ front) [] = inr (λ b. let e : [] ≡ x ∷ (front ++ b.0) = b.1 in cc)
begins (x ∷ front) (y ∷ bytes) =
    elim (eqb y x) as (λ t. eqb y x ≡ t → Begins (x ∷ front) (y ∷ bytes) ⊎ (Begins (x ∷ front) (y ∷ bytes) → ⊥)) [
      | true ↦ λ same. behind (eqb-true y x same) (begins front bytes)
      | false ↦ λ other. inr (λ b. let t : eqb y x ≡ true = eq-eqb y x (first_of_both y x bytes (front ++ b.0) b.1) in cc)
    ] refl
  where
    behind : y ≡ x → Begins front bytes ⊎ (Begins front bytes → ⊥) → Begins (x ∷ front) (y ∷ bytes) ⊎ (Begins (x ∷ front) (y ∷ bytes) → ⊥)
    behind e (inl b) = inl (b.0, λ i. e i ∷ b.1 i)
    behind e (inr none) = inr (λ b. none (b.0, rest_of_both y x bytes (front ++ b.0) b.1))

-- ---- whether a piece stands there

-- the payload that the head speaks of
abbrev told : List ℕ → List ℕ
told bytes = take (from_le_bytes w16 (get_or bytes 4 0 ∷ get_or bytes 5 0 ∷ [])) (drop 7 bytes)

-- a fragment there has that payload
its_payload : (bytes : List ℕ) (room : ℕ) (inside first last : Bool) (payload : List ℕ) → room ≤ 32768 → BeginWith bytes room inside (fragment first last payload) → payload ≡ told bytes
its_payload bytes room inside first last payload small s =
    let h = head_before bytes room inside first last payload small s in
    sym (ap (λ (n : ℕ). take n (drop 7 bytes)) h.len ∙ ap (take (length payload)) h.behind ∙ take_at payload s.rest (length payload) refl)

-- a fragment with this payload and this last mark, in its turn
one_fragment : (bytes : List ℕ) (room : ℕ) (inside last : Bool) (payload : List ℕ)
    → BeginWith bytes room inside (fragment (not inside) last payload) ⊎ (BeginWith bytes room inside (fragment (not inside) last payload) → ⊥)
one_fragment bytes room inside last payload =
    elim (cases_lt room (7 + length payload)) [
      | inl short ↦ inr (λ s. omega (arith, s.fits))
      | inr fits ↦ spelled (begins (spelling_of (fragment (not inside) last payload)) bytes) fits
    ]
  where
    spelled : Begins (spelling_of (fragment (not inside) last payload)) bytes ⊎ (Begins (spelling_of (fragment (not inside) last payload)) bytes → ⊥) → 7 + length payload ≤ room
        → BeginWith bytes room inside (fragment (not inside) last payload) ⊎ (BeginWith bytes room inside (fragment (not inside) last payload) → ⊥)
    spelled (inl b) fits = inl (record { rest = b.0; spelled = b.1; fits = fits; in_turn = refl })
    spelled (inr none) fits = inr (λ s. none (s.rest, s.spelled))

-- a fragment, or none
some_fragment : (bytes : List ℕ) (room : ℕ) (inside : Bool) → 7 ≤ room → room ≤ 32768 → ((x : Piece) × BeginWith bytes room inside x) ⊎ NoPiece bytes room inside
some_fragment bytes room inside long small =
    elim (one_fragment bytes room inside true (told bytes)) [
      | inl s ↦ inl (fragment (not inside) true (told bytes), s)
      | inr none ↦ elim (one_fragment bytes room inside false (told bytes)) [
        | inl s ↦ inl (fragment (not inside) false (told bytes), s)
        | inr neither ↦ inr (refused none neither)
      ]
    ]
  where
    refused : (BeginWith bytes room inside (fragment (not inside) true (told bytes)) → ⊥) → (BeginWith bytes room inside (fragment (not inside) false (told bytes)) → ⊥) → NoPiece bytes room inside
    refused none neither (trailer n) s = omega (arith, s.fits.0, s.fits.1)
    refused none neither (fragment first true payload) s =
        none (subst (λ (f : Bool). BeginWith bytes room inside (fragment f true (told bytes))) s.in_turn
        (subst (λ (p : List ℕ). BeginWith bytes room inside (fragment first true p)) (its_payload bytes room inside first true payload small s) s))
    refused none neither (fragment first false payload) s =
        neither (subst (λ (f : Bool). BeginWith bytes room inside (fragment f false (told bytes))) s.in_turn
        (subst (λ (p : List ℕ). BeginWith bytes room inside (fragment first false p)) (its_payload bytes room inside first false payload small s) s))

-- zeros, or none
some_zeros : (bytes : List ℕ) (room : ℕ) (inside : Bool) → room < 7 → ((x : Piece) × BeginWith bytes room inside x) ⊎ NoPiece bytes room inside
some_zeros bytes room inside short =
    elim (begins (replicate room 0) bytes) [
      | inl b ↦ inl (trailer room, record { rest = b.0; spelled = b.1; fits = (short, refl); in_turn = tt })
      | inr none ↦ inr (refused none)
    ]
  where
    refused : (Begins (replicate room 0) bytes → ⊥) → NoPiece bytes room inside
    refused none (fragment first last payload) s = omega (arith, s.fits)
    refused none (trailer n) s = none (s.rest, s.spelled ∙ ap (λ (k : ℕ). replicate k 0 ++ s.rest) s.fits.1)

some_piece : (bytes : List ℕ) (room : ℕ) (inside : Bool) → room ≤ 32768 → ((x : Piece) × BeginWith bytes room inside x) ⊎ NoPiece bytes room inside
some_piece bytes room inside small =
    elim (cases_lt room 7) [
      | inl short ↦ some_zeros bytes room inside short
      | inr long ↦ some_fragment bytes room inside long small
    ]

-- ---- reading to the end, with that many bytes left at most

module _ (bytes : List ℕ) where
  next_piece : (p : Progress) → ((x : Piece) × BeginWith (drop p.offset bytes) (room_at p.offset) (is_some p.begun) x) ⊎ NoPiece (drop p.offset bytes) (room_at p.offset) (is_some p.begun)
  next_piece p = some_piece (drop p.offset bytes) (room_at p.offset) (is_some p.begun) (omega arith)

  reads_from : (left : ℕ) (p : Progress) → HasRead bytes p → length bytes - p.offset ≤ left → (read : Progress) × IsReading bytes read
  reads_from zero p h within =
      elim (next_piece p) [
        | inl x ↦ absurd (omega (arith, size_positive p.offset x.0 x.1.fits, size_within bytes p h (room_at p.offset) (is_some p.begun) x.0 x.1))
        | inr none ↦ (p, goes_no_further bytes p h none)
      ]
  reads_from (suc left) p h within =
      elim (next_piece p) [
        | inl x ↦ reads_from left (after p x.0) (goes_on bytes p h x.0 x.1)
            (omega (arith, offset-size p x.0, size_positive p.offset x.0 x.1.fits, size_within bytes p h (room_at p.offset) (is_some p.begun) x.0 x.1))
        | inr none ↦ (p, goes_no_further bytes p h none)
      ]

pub has_reading : HasReading
has_reading bytes = reads_from bytes (length bytes) start (HasRead-start bytes) (omega arith)

pub has_records : HasRecords
has_records bytes =
    let r = has_reading bytes in
    (r.0.done, (r.0.offset, (r.0.begun, r.1)))
