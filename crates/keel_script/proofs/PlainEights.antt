-- Bytes that stand for themselves, in a row.
use Rattle.std.proofs.Common.{◌≡◌, ℕ, ◌+◌, ◌<◌, ◌≤◌, Bool, true, false, ◌&&◌, List, get_or, inl, inr, refl, sym, subst, ◌∙◌, arith}
use Rattle.std.proofs.lemmas.Bool.{cases_lt}
use Rattle.keel_script.specs.Texts.{is_plain}

module _ (bytes : List ℕ) where
  abbrev pub Plain : ℕ → ℕ → Type 0
  Plain from to = (k : ℕ) → from ≤ k → k < to → is_plain (get_or bytes k 0) ≡ true

  pub none : (from : ℕ) → Plain from from
  none from k low high = absurd (omega (arith, low, high))

  pub joined : (from mid to : ℕ) → Plain from mid → Plain mid to → Plain from to
  joined from mid to first second k low high =
      elim (cases_lt k mid) [ inl less ↦ first k low less | inr le ↦ second k le high ]

  pub one : (at : ℕ) (b : Bool) → b ≡ is_plain (get_or bytes at 0) → b ≡ true → Plain at (at + 1)
  one at b is holds k low high = subst (λ (j : ℕ). is_plain (get_or bytes j 0) ≡ true) (omega (arith, low, high)) (sym is ∙ holds)

  -- one behind those that are there
  pub and : (from to next : ℕ) (a b : Bool) → to + 1 ≡ next → (a ≡ true → Plain from to) → b ≡ is_plain (get_or bytes to 0) → (a && b) ≡ true → Plain from next
  and from to next true b step first is both = joined from to next (first refl) (subst (Plain to) step (one to b is both))
  and from to next false b step first is both = absurd cc
