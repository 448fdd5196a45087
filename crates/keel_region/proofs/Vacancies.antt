-- The free slots of a pool, as one is taken or given back.
use Rattle.std.proofs.Common.{◌≡◌, ◌≢◌, ℕ, zero, suc, ◌-◌, ◌<◌, true, cond, List, [], ◌∷◌, ◌++◌, length, take, get_or, set, Option, Some, None, sym, ap, subst, ◌∙◌, arith}
use Rattle.std.specs.Prelude.{is_some}
use Rattle.std.proofs.lemmas.List.{get_or_default, get_or-take, get_or-set_same, get_or-set_other, length-set, length-take-le, length-append}
use Rattle.std.proofs.lemmas.List.Elements.{All-push}
use Rattle.std.proofs.lemmas.List.Quantifiers.{all_pairs_push}
use Rattle.std.proofs.lemmas.List.Sums.{sum_by-set, get_or-le-sum_by}
use Rattle.keel_region.specs.declared.pool.Node.{Node}
use Rattle.keel_region.specs.Slots.{node_at, IsVacant, IsPool}

abbrev held : Option Node → ℕ
held slot = cond (is_some slot) 1 0

-- a slot beside the one that is written stays vacant
still_vacant : (slots : List (Option Node)) (written : ℕ) (slot : Option Node) (place : ℕ) → place ≢ written → IsVacant slots place → IsVacant (set slots written slot) place
still_vacant slots written slot place other vacant = record {
  there = omega (arith, length-set slots written slot, vacant.there);
  empty = get_or-set_other slots written place slot None other ∙ vacant.empty;
}

pub taken_pool : (slots : List (Option Node)) (free : List ℕ) (place : ℕ) (node : Node) → IsPool slots free → 0 < length free → place ≡ get_or free (length free - 1) place
    → IsPool (set slots place (Some node)) (take (length free - 1) free)
taken_pool slots free place node pool some is =
    let last = length free - 1 in
    let size : length (take last free) ≡ last = length-take-le last free (omega arith) in
    let vacant : IsVacant slots place = subst (IsVacant slots) (sym is) (pool.vacant last place (omega arith)) in
    record {
      vacant = λ k d lt.
          let less : k < last = omega (arith, size) in
          let same : get_or (take last free) k d ≡ get_or free k d = get_or-take last free k d less in
          let apart : get_or free k d ≢ place = λ e. pool.apart k last d less (omega arith) (e ∙ is ∙ get_or_default free last place d (omega arith)) in
          subst (IsVacant (set slots place (Some node))) (sym same) (still_vacant slots place (Some node) (get_or free k d) apart (pool.vacant k d (omega arith)));
      apart = λ i j d less lt.
          let within : j < last = omega (arith, size) in
          rw (get_or-take last free i d (omega arith), get_or-take last free j d within) (pool.apart i j d less (omega arith));
      count =
          let before = sum_by-set held slots place (Some node) None vacant.there in
          omega (arith, before, ap held vacant.empty, length-set slots place (Some node), pool.count, size);
    }

taken_within : (slots : List (Option Node)) (place : ℕ) (node : Node) → node_at slots place ≡ Some node → place < length slots
taken_within [] place node h = absurd cc
taken_within (slot ∷ slots) zero node h = omega arith
taken_within (slot ∷ slots) (suc place) node h = omega (arith, taken_within slots place node h)

pub taken_there : (slots : List (Option Node)) (place : ℕ) → is_some (node_at slots place) ≡ true → place < length slots
taken_there [] place h = absurd cc
taken_there (slot ∷ slots) zero h = omega arith
taken_there (slot ∷ slots) (suc place) h = omega (arith, taken_there slots place h)

none_some : (node : Node) (slot : Option Node) → slot ≡ None → slot ≡ Some node → ⊥
none_some node slot e f = cc

pub given_pool : (slots : List (Option Node)) (free : List ℕ) (place : ℕ) (node : Node) → IsPool slots free → node_at slots place ≡ Some node → IsPool (set slots place None) (free ++ place ∷ [])
given_pool slots free place node pool is =
    let there = taken_within slots place node is in
    let differ : (k : ℕ) (d : ℕ) → k < length free → get_or free k d ≢ place =
    λ k d lt e. none_some node (node_at slots (get_or free k d)) (pool.vacant k d lt).empty (ap (node_at slots) e ∙ is) in
    record {
      vacant = All-push (IsVacant (set slots place None)) free place
          (λ k d lt. still_vacant slots place None (get_or free k d) (differ k d lt) (pool.vacant k d lt))
          (record { there = omega (arith, length-set slots place None, there); empty = get_or-set_same slots place None None there });
      apart = all_pairs_push (λ (a b : ℕ). a ≢ b) free place pool.apart differ;
      count =
          let before = sum_by-set held slots place None None there in
          omega (arith, before, ap held is, length-set slots place None, pool.count, length-append free (place ∷ []));
    }

-- a slot that is taken leaves room among the free ones
pub room_for_taken : (slots : List (Option Node)) (free : List ℕ) (place : ℕ) (node : Node) → IsPool slots free → node_at slots place ≡ Some node → length free < length slots
room_for_taken slots free place node pool is =
    let some = get_or-le-sum_by held slots place None (taken_within slots place node is) in
    omega (arith, some, ap held is, pool.count)
