-- How many batches fit.
use Rattle.std.proofs.Common.{◌≡◌, ℕ, zero, suc, ◌+◌, ◌-◌, ◌<◌, ◌≤◌, List, [], ◌∷◌, length, take, inl, inr, max, arith, refl, sym, subst}
use Rattle.std.proofs.lemmas.Bool.{cases_lt}
use Rattle.std.proofs.lemmas.List.Sums.{sum_by-cons}
use Rattle.std.proofs.lemmas.Bool.Decides.{nat_tests}
use Rattle.keel_base.specs.declared.op.Batch.{Batch}
use Rattle.keel_group.specs.declared.formed.TheConstants.{MAX_GROUP_WEIGHT}
use Rattle.keel_group.specs.Sizes.{batch_weight, weight_together, fitting, group_size, IsNextGroup}
use Rattle.keel_group.specs.Laws.{IsLongestPrefix}

pub fitting_more : (room : ℕ) (b : Batch) (bs : List Batch) → batch_weight b ≤ room → fitting room (b ∷ bs) ≡ suc (fitting (room - batch_weight b) bs)
fitting_more room b bs fits = grind (arith, nat_tests)

pub fitting_none : (room : ℕ) (b : Batch) (bs : List Batch) → room < batch_weight b → fitting room (b ∷ bs) ≡ 0
fitting_none room b bs heavy = grind (arith, nat_tests)

pub fitting_le : (room : ℕ) (bs : List Batch) → fitting room bs ≤ length bs
fitting_le room [] = omega arith
fitting_le room (b ∷ bs) =
    elim (cases_lt room (batch_weight b)) [
      | inl heavy ↦ omega (arith, fitting_none room b bs heavy)
      | inr fits ↦ omega (arith, fitting_more room b bs fits, fitting_le (room - batch_weight b) bs)
    ]

weight_front : (n : ℕ) (b : Batch) (bs : List Batch) → weight_together (take (suc n) (b ∷ bs)) ≡ batch_weight b + weight_together (take n bs)
weight_front n b bs = sum_by-cons batch_weight b (take n bs)

pub fitting_light : (room : ℕ) (bs : List Batch) → weight_together (take (fitting room bs) bs) ≤ room
fitting_light room [] = omega arith
fitting_light room (b ∷ bs) =
    let IsLight : ℕ → Type 0 = λ k. weight_together (take k (b ∷ bs)) ≤ room in
    elim (cases_lt room (batch_weight b)) [
      | inl heavy ↦ subst IsLight (sym (fitting_none room b bs heavy)) (omega arith)
      | inr fits ↦ subst IsLight (sym (fitting_more room b bs fits)) (omega (arith, weight_front (fitting (room - batch_weight b) bs) b bs, fitting_light (room - batch_weight b) bs))
    ]

pub fitting_longest : (room : ℕ) (bs : List Batch) (n : ℕ) → n ≤ length bs → weight_together (take n bs) ≤ room → n ≤ fitting room bs
fitting_longest room [] n within light = within
fitting_longest room (b ∷ bs) zero within light = omega arith
fitting_longest room (b ∷ bs) (suc n) within light =
    let front : weight_together (take (suc n) (b ∷ bs)) ≡ batch_weight b + weight_together (take n bs) = weight_front n b bs in
    elim (cases_lt room (batch_weight b)) [
      | inl heavy ↦ absurd (omega arith)
      | inr fits ↦
          omega (arith, fitting_more room b bs fits, fitting_longest (room - batch_weight b) bs n (omega arith) (omega arith))
    ]

pub group_size_le : (bs : List Batch) → group_size bs ≤ length bs
group_size_le [] = omega arith
group_size_le (b ∷ bs) = omega (arith, fitting_le MAX_GROUP_WEIGHT (b ∷ bs))

light_group : (b : Batch) (bs : List Batch) (n : ℕ) → n ≡ fitting MAX_GROUP_WEIGHT (b ∷ bs) → 1 < max 1 n → weight_together (take (max 1 n) (b ∷ bs)) ≤ MAX_GROUP_WEIGHT
light_group b bs n same some =
    let IsLight : ℕ → Type 0 = λ k. weight_together (take k (b ∷ bs)) ≤ MAX_GROUP_WEIGHT in
    let e : fitting MAX_GROUP_WEIGHT (b ∷ bs) ≡ max 1 n = omega arith in
    subst IsLight e (fitting_light MAX_GROUP_WEIGHT (b ∷ bs))

is_next : (bs : List Batch) → IsNextGroup bs (group_size bs)
is_next [] = record {
  within = omega arith;
  some = λ h. h;
  light = λ h. absurd (omega arith);
  longest = λ other within light. within;
}
is_next (b ∷ bs) = record {
  within = group_size_le (b ∷ bs);
  some = λ h. omega arith;
  light = light_group b bs (fitting MAX_GROUP_WEIGHT (b ∷ bs)) refl;
  longest = λ other within light. omega (arith, fitting_longest MAX_GROUP_WEIGHT (b ∷ bs) other within light);
}

no_less : (bs : List Batch) (one other : ℕ) → IsNextGroup bs one → IsNextGroup bs other → one < other → ⊥
no_less bs one other a b less =
    elim (cases_lt 1 other) [
      | inl more ↦ omega (arith, a.longest other b.within (b.light more))
      | inr first ↦ omega (arith, a.some (omega (arith, b.within)))
    ]

only_one : (bs : List Batch) (one other : ℕ) → IsNextGroup bs one → IsNextGroup bs other → one ≡ other
only_one bs one other a b =
    elim (cases_lt one other) [
      | inl less ↦ absurd (no_less bs one other a b less)
      | inr le ↦ elim (cases_lt other one) [
        | inl less ↦ absurd (no_less bs other one b a less)
        | inr ge ↦ omega arith
      ]
    ]

pub is_longest_prefix : IsLongestPrefix
is_longest_prefix = record { is_next = is_next; only_one = only_one }
