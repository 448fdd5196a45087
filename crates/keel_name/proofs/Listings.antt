-- Names stand in one order, since their spellings do.
use Rattle.std.proofs.Common.{◌≡◌, ◌≢◌, ◌⊎◌, true, false, refl, ap, ◌∙◌, inl, inr, List, ℕ}
use Rattle.std.specs.declared.cmp.Ordering.{Ordering}
use Rattle.std.specs.declared.cmp.Ordering.TheVariants.{Less, Equal, Greater}
use Rattle.std.specs.Ordering.{is_lt, ordering_reverse}
use Rattle.std.proofs.lemmas.Cmp.{nat_list_cmp_total}
use Rattle.std.proofs.lemmas.Map.Lookups.{exact_bytes}
use Rattle.keel_base.specs.Keys.{key_lt, key_cmp}
use Rattle.keel_base.specs.Name.{printed}
use Rattle.keel_name.specs.Laws.{IsListingOrder}
use Rattle.keel_name.proofs.Spellings.{printed_injective}

less : (o : Ordering) → is_lt o ≡ true → o ≡ Less
less Less e = refl
less Equal e = cc
less Greater e = cc

-- nothing is its own reverse but what is equal
own_reverse : (o : Ordering) → o ≡ ordering_reverse o → is_lt o ≡ false
own_reverse Less e = cc
own_reverse Equal e = refl
own_reverse Greater e = refl

apart : (x y : List ℕ) → (o : Ordering) → key_cmp x y ≡ o → x ≢ y → (key_lt x y ≡ true) ⊎ (key_lt y x ≡ true)
apart x y Less e differ = inl (ap is_lt e)
apart x y Equal e differ = absurd (differ (exact_bytes x y e))
apart x y Greater e differ = inr (ap is_lt (nat_list_cmp_total.antisymm y x ∙ ap ordering_reverse e))

pub in_order : IsListingOrder
in_order = record {
  apart = λ a. own_reverse (key_cmp (printed a) (printed a)) (nat_list_cmp_total.antisymm (printed a) (printed a));
  onward = λ a b c first second.
      ap is_lt (nat_list_cmp_total.trans (printed a) (printed b) (printed c) (less (key_cmp (printed a) (printed b)) first) (less (key_cmp (printed b) (printed c)) second));
  one_of_two = λ a b is_a is_b differ.
      apart (printed a) (printed b) (key_cmp (printed a) (printed b)) refl (λ same. differ (printed_injective a b is_a is_b same));
}
