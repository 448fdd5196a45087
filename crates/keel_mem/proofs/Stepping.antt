-- One of the entries that are still to come is the next.
use Rattle.std.proofs.Common.{◌≡◌, ℕ, zero, suc, ◌+◌, ◌-◌, ◌≤◌, List, [], ◌∷◌, length, drop, Option, Some, None, refl, sym, ap, subst, ◌∙◌, arith}
use Rattle.std.specs.Prelude.{slice_get, Contains}
use Rattle.keel_region.specs.declared.span.IndexEntry.{IndexEntry}
use Rattle.keel_region.specs.Spans.{IsHeld}
use Rattle.keel_region.proofs.Seeking.{slice_get_some}
use Rattle.keel_mem.specs.Rest.{IsRest, rest_of}

drop_none : {X : Type 0} (xs : List X) (k : ℕ) → slice_get xs k ≡ None → drop k xs ≡ []
drop_none [] zero h = refl
drop_none [] (suc k) h = refl
drop_none (x ∷ xs) zero h = absurd cc
drop_none (x ∷ xs) (suc k) h = drop_none xs k h

drop_some : {X : Type 0} (xs : List X) (k : ℕ) (x : X) → slice_get xs k ≡ Some x → drop k xs ≡ x ∷ drop (suc k) xs
drop_some [] k x h = absurd cc
drop_some {X} (y ∷ ys) zero x h = ap (λ (z : X). z ∷ ys) (slice_get_some (y ∷ ys) 0 x h).1
drop_some (y ∷ ys) (suc k) x h = drop_some ys k x h

module _ (bytes : List ℕ) (entries : List IndexEntry) (next : Option IndexEntry) (left : ℕ) (rest : IsRest bytes entries next left) where
  pub rest_none : next ≡ None → rest_of entries left ≡ []
  rest_none h = drop_none entries (length entries - left) (sym rest.next_is ∙ h)

  module _ (entry : IndexEntry) (is : next ≡ Some entry) where
    pub here : slice_get entries (length entries - left) ≡ Some entry
    here = sym rest.next_is ∙ is

    pub rest_there : Contains entries entry
    rest_there = let at = slice_get_some entries (length entries - left) entry here in (length entries - left, at.0, at.1)

    pub rest_held : IsHeld bytes entry
    rest_held =
        let at = slice_get_some entries (length entries - left) entry here in
        subst (IsHeld bytes) at.1 (rest.held (length entries - left) entry at.0)

    pub rest_some : 1 ≤ left
    rest_some = omega (arith, (slice_get_some entries (length entries - left) entry here).0)

    moved : suc (length entries - left) ≡ length entries - (left - 1)
    moved = omega (arith, rest_some, rest.within)

    pub rest_step : rest_of entries left ≡ entry ∷ rest_of entries (left - 1)
    rest_step = drop_some entries (length entries - left) entry here ∙ ap (λ (n : ℕ). entry ∷ drop n entries) moved

    pub rest_next : (after : Option IndexEntry) → ((k : ℕ) → slice_get entries k ≡ Some entry → after ≡ slice_get entries (k + 1)) → IsRest bytes entries after (left - 1)
    rest_next after follows =
        let plus : length entries - left + 1 ≡ length entries - (left - 1) = omega (arith, rest_some, rest.within) in
        record {
          held = rest.held;
          order = rest.order;
          within = omega (arith, rest.within);
          next_is = follows (length entries - left) here ∙ ap (slice_get entries) plus;
        }
