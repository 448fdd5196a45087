-- What stands at the place of a key.
use Rattle.std.proofs.Common.{◌≡◌, ℕ, zero, suc, ◌<◌, ◌≤◌, true, false, List, [], ◌∷◌, length, get_or, Some, None, arith, sym, ap, subst, ◌∙◌, inl, inr}
use Rattle.std.specs.Prelude.{find, slice_get}
use Rattle.std.proofs.lemmas.Bool.{cases_lt}
use Rattle.std.proofs.lemmas.List.{get_or_default}
use Rattle.keel_region.specs.declared.span.IndexEntry.{IndexEntry}
use Rattle.keel_region.specs.Order.{entry_before, Precedes, AreInOrder, has_key}
use Rattle.keel_region.specs.Places.{IsPlaceOf}
use Rattle.keel_region.specs.Spans.{bytes_at}
use Rattle.keel_region.proofs.Halves.{find_none, find_at}
use Rattle.keel_region.proofs.Orders.{key_lt-differs, behind_greater}

module _ (bytes key : List ℕ) (entries : List IndexEntry) (place : ℕ) (at : IsPlaceOf (entry_before bytes key None) entries place) where
  lesser_differ : (k : ℕ) (d : IndexEntry) → k < place → has_key bytes key (get_or entries k d) ≡ false
  lesser_differ k d lt = key_lt-differs (bytes_at bytes (get_or entries k d).key) key (at.before k d lt)

  pub found_past : length entries ≤ place → find (has_key bytes key) entries ≡ None
  found_past le = find_none (has_key bytes key) entries (λ k d lt. lesser_differ k d (omega arith))

  pub found_here : (entry : IndexEntry) → place < length entries → get_or entries place entry ≡ entry → has_key bytes key entry ≡ true
      → find (has_key bytes key) entries ≡ Some entry
  found_here entry within is same =
      find_at (has_key bytes key) entries place entry within lesser_differ (ap (has_key bytes key) is ∙ same) ∙ ap (λ (e : IndexEntry). Some e) is

  pub found_other : (entry : IndexEntry) → AreInOrder bytes entries → place < length entries → get_or entries place entry ≡ entry → has_key bytes key entry ≡ false
      → find (has_key bytes key) entries ≡ None
  found_other entry order within is differ =
      find_none (has_key bytes key) entries
      (λ k d lt.
      elim (cases_lt k place) [
        | inl front ↦ lesser_differ k d front
        | inr rest ↦ elim (cases_lt place k) [
          | inr most ↦
              let same : k ≡ place = omega arith in
              subst (λ (n : ℕ). has_key bytes key (get_or entries n d) ≡ false) (sym same)
              (ap (has_key bytes key) (get_or_default entries place d entry within ∙ is) ∙ differ)
          | inl less ↦
              let here : get_or entries place d ≡ entry = get_or_default entries place d entry within ∙ is in
              let before : Precedes bytes entry (get_or entries k d) = subst (λ (e : IndexEntry). Precedes bytes e (get_or entries k d)) here (order place k d less lt) in
              let high : entry_before bytes key None entry ≡ false = subst (λ (e : IndexEntry). entry_before bytes key None e ≡ false) is (at.behind place entry (omega arith) within) in
              behind_greater (bytes_at bytes entry.key) (bytes_at bytes (get_or entries k d).key) key entry.seq (get_or entries k d).seq high differ before
        ]
      ])

pub slice_get_some : {X : Type 0} (xs : List X) (k : ℕ) (x : X) → slice_get xs k ≡ Some x → (k < length xs) × (get_or xs k x ≡ x)
slice_get_some [] k x h = absurd cc
slice_get_some (y ∷ ys) zero x h = (omega arith, cc)
slice_get_some (y ∷ ys) (suc k) x h = let r = slice_get_some ys k x h in (omega (arith, r.0), r.1)
