-- Places in a list whose elements are in an order.
use Rattle.std.proofs.Common.{◌≡◌, inl, inr, ℕ, zero, suc, ◌+◌, ◌-◌, ◌<◌, ◌≤◌, Bool, true, false, List, [], ◌∷◌, length, get_or, Some, None, refl, sym, ap, subst, ◌∙◌, arith}
use Rattle.std.specs.Prelude.{AllPairs, find, insert}
use Rattle.std.proofs.lemmas.Bool.{cases_lt, false≢true}
use Rattle.std.proofs.lemmas.List.{get_or_default}
use Rattle.std.proofs.lemmas.List.Edits.{length-insert, get_or-insert_below, get_or-insert_at, get_or-insert_above}

other : (b : Bool) → (b ≡ true → ⊥) → b ≡ false
other true h = absurd (h refl)
other false h = refl

-- what is behind a place where a test fails fails it too
pub fails_from : {X : Type 0} (R : X → X → Type 0) (test : X → Bool) (xs : List X) (at : ℕ) (x : X) → ((x y : X) → R x y → test y ≡ true → test x ≡ true)
    → AllPairs R xs → test (get_or xs at x) ≡ false → (k : ℕ) (d : X) → at ≤ k → k < length xs → test (get_or xs k d) ≡ false
fails_from {X} R test xs at x down pairs h k d le within =
    let here : test (get_or xs at d) ≡ false = ap test (get_or_default xs at d x (omega arith)) ∙ h in
    elim (cases_lt at k) [
      | inl less ↦ other _ (λ holds. false≢true (sym here ∙ down (get_or xs at d) (get_or xs k d) (pairs at k d less within) holds))
      | inr more ↦ let same : k ≡ at = omega arith in subst (λ (n : ℕ). test (get_or xs n d) ≡ false) (sym same) here
    ]

pub find_none : {X : Type 0} (test : X → Bool) (xs : List X) → ((k : ℕ) (d : X) → k < length xs → test (get_or xs k d) ≡ false) → find test xs ≡ None
find_none test [] h = refl
find_none test (x ∷ xs) h = rw (h 0 x (omega arith)) (find_none test xs (λ k d lt. h (suc k) d (omega arith)))

pub find_at : {X : Type 0} (test : X → Bool) (xs : List X) (at : ℕ) (x : X) → at < length xs → ((k : ℕ) (d : X) → k < at → test (get_or xs k d) ≡ false)
    → test (get_or xs at x) ≡ true → find test xs ≡ Some (get_or xs at x)
find_at test [] at x within h here = absurd (omega arith)
find_at test (y ∷ ys) zero x within h here = rw here refl
find_at test (y ∷ ys) (suc at) x within h here =
    rw (h 0 y (omega arith)) (find_at test ys at x (omega arith) (λ k d lt. h (suc k) d (omega arith)) here)

inserted_above : {X : Type 0} (xs : List X) (i : ℕ) (y d : X) (k : ℕ) → i < k → i ≤ length xs → get_or (insert xs i y) k d ≡ get_or xs (k - 1) d
inserted_above xs i y d k less le =
    let next : k ≡ k - 1 + 1 = omega arith in
    ap (λ (n : ℕ). get_or (insert xs i y) n d) next ∙ get_or-insert_above xs i y d (k - 1) (omega arith) le

-- an element put in behind what precedes it and in front of what it precedes
pub insert_pairs : {X : Type 0} (R : X → X → Type 0) (xs : List X) (i : ℕ) (y : X) → i ≤ length xs → AllPairs R xs
    → ((k : ℕ) (d : X) → k < i → R (get_or xs k d) y) → ((k : ℕ) (d : X) → i ≤ k → k < length xs → R y (get_or xs k d)) → AllPairs R (insert xs i y)
insert_pairs {X} R xs i y le pairs below above a b d lt within =
    let size = length-insert xs i y le in
    elim (cases_lt b i) [
      | inl less ↦
          rw (get_or-insert_below xs i y d a (omega arith) le, get_or-insert_below xs i y d b less le) (pairs a b d lt (omega arith))
      | inr more ↦ elim (cases_lt i b) [
        | inr most ↦
            let same : b ≡ i = omega arith in
            rw (same, get_or-insert_at xs i y d le, get_or-insert_below xs i y d a (omega arith) le) (below a d (omega arith))
        | inl behind ↦ elim (cases_lt a i) [
          | inl front ↦
              rw (get_or-insert_below xs i y d a front le, inserted_above xs i y d b behind le) (pairs a (b - 1) d (omega arith) (omega arith))
          | inr rest ↦ elim (cases_lt i a) [
            | inl past ↦
                rw (inserted_above xs i y d a past le, inserted_above xs i y d b behind le) (pairs (a - 1) (b - 1) d (omega arith) (omega arith))
            | inr at ↦
                let same : a ≡ i = omega arith in
                rw (same, get_or-insert_at xs i y d le, inserted_above xs i y d b behind le) (above (b - 1) d (omega arith) (omega arith))
          ]
        ]
      ]
    ]
