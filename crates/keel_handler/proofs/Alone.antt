-- A list of failures has one standing error.
use Rattle.std.proofs.Common.{◌≡◌, ◌<◌, ◌≤◌, Bool, true, false, List, [], ◌∷◌, ◌++◌, Option, Some, None, refl, sym, subst, ap, arith}
use Rattle.std.specs.Prelude.{All, Contains, nat_lt, if◌then◌else◌}
use Rattle.std.proofs.lemmas.Bool.{ltb-true, ltb-false}
use Rattle.std.proofs.lemmas.List.Elements.{All-nil, All-cons, All-head, All-tail, All-weaker, All-contains, Contains-append_right}
use Rattle.keel_base.specs.declared.failure.Failure.{Failure}
use Rattle.keel_handler.specs.Failures.{severity, IsFirstWorst, IsStanding, first_worst, standing_of}
use Rattle.keel_handler.specs.Laws.{HasOneStanding}
use Rattle.keel_handler.proofs.Standing.{none_worse, is_there}

abbrev Less : Bool → Failure → Failure → Type 0
Less paranoid failure other = severity paranoid other < severity paranoid failure

abbrev NoMore : Bool → Failure → Failure → Type 0
NoMore paranoid failure other = severity paranoid other ≤ severity paranoid failure

abbrev Zero : Bool → Failure → Type 0
Zero paranoid failure = severity paranoid failure ≡ 0

-- what stands in a list is no more severe than the bound of all
within : (paranoid : Bool) (bound failure : Failure) (list before behind : List Failure) → list ≡ before ++ failure ∷ behind → All (NoMore paranoid bound) list
    → severity paranoid failure ≤ severity paranoid bound
within paranoid bound failure list before behind splits all =
    All-contains (NoMore paranoid bound) list failure all
    (subst (λ (l : List Failure). Contains l failure) (sym splits) (Contains-append_right before (failure ∷ behind) failure (0, omega arith, refl)))

same_first : (paranoid : Bool) (before before' behind behind' : List Failure) (failure failure' : Failure) → before ++ failure ∷ behind ≡ before' ++ failure' ∷ behind'
    → All (Less paranoid failure) before → All (NoMore paranoid failure) behind → All (Less paranoid failure') before' → All (NoMore paranoid failure') behind' → failure ≡ failure'
same_first paranoid [] [] behind behind' failure failure' same less most less' most' = cc
same_first paranoid [] (x ∷ before') behind behind' failure failure' same less most less' most' =
    let here : failure ≡ x = cc in
    let rest : behind ≡ before' ++ failure' ∷ behind' = cc in
    let below : severity paranoid failure < severity paranoid failure' = subst (λ (f : Failure). severity paranoid f < severity paranoid failure') (sym here) (All-head (Less paranoid failure') x before' less') in
    let above = within paranoid failure failure' behind before' behind' rest most in
    absurd (omega (arith, below, above))
same_first paranoid (x ∷ before) [] behind behind' failure failure' same less most less' most' =
    let here : failure' ≡ x = cc in
    let rest : behind' ≡ before ++ failure ∷ behind = cc in
    let below : severity paranoid failure' < severity paranoid failure = subst (λ (f : Failure). severity paranoid f < severity paranoid failure) (sym here) (All-head (Less paranoid failure) x before less) in
    let above = within paranoid failure' failure behind' before behind rest most' in
    absurd (omega (arith, below, above))
same_first paranoid (x ∷ before) (x' ∷ before') behind behind' failure failure' same less most less' most' =
    let rest : before ++ failure ∷ behind ≡ before' ++ failure' ∷ behind' = cc in
    same_first paranoid before before' behind behind' failure failure' rest (All-tail (Less paranoid failure) x before less) most (All-tail (Less paranoid failure') x' before' less') most'

alone : (paranoid : Bool) (failures : List Failure) (standing other : Option Failure) → IsStanding paranoid failures standing → IsStanding paranoid failures other → other ≡ standing
alone paranoid failures None None stands stands' = refl
alone paranoid failures None (Some failure) stands stands' =
    absurd (omega (arith, stands'.some, All-contains (Zero paranoid) failures failure stands (is_there paranoid failures failure stands')))
alone paranoid failures (Some failure) None stands stands' =
    absurd (omega (arith, stands.some, All-contains (Zero paranoid) failures failure stands' (is_there paranoid failures failure stands)))
alone paranoid failures (Some failure) (Some failure') stands stands' =
    let same : stands'.before ++ failure' ∷ stands'.behind ≡ stands.before ++ failure ∷ stands.behind = subst (λ (l : List Failure). l ≡ stands.before ++ failure ∷ stands.behind) stands'.splits stands.splits in
    ap (λ (f : Failure). Some f) (same_first paranoid stands'.before stands.before stands'.behind stands.behind failure' failure same stands'.less stands'.no_more stands.less stands.no_more)

-- a failure in front of others stands where it is one, and no other is more severe
front : (paranoid : Bool) (failure : Failure) (failures : List Failure) → 0 < severity paranoid failure → All (NoMore paranoid failure) failures → IsFirstWorst paranoid (failure ∷ failures) failure
front paranoid failure failures some most = record {
  before = [];
  behind = failures;
  splits = refl;
  some = some;
  less = All-nil (Less paranoid failure);
  no_more = most;
}

-- the standing error of others, behind a less severe failure
behind_front : (paranoid : Bool) (failure standing : Failure) (failures : List Failure) → severity paranoid failure < severity paranoid standing
    → IsFirstWorst paranoid failures standing → IsFirstWorst paranoid (failure ∷ failures) standing
behind_front paranoid failure standing failures less worst = record {
  before = failure ∷ worst.before;
  behind = worst.behind;
  splits = ap (λ rest. failure ∷ rest) worst.splits;
  some = worst.some;
  less = All-cons (Less paranoid standing) failure worst.before less worst.less;
  no_more = worst.no_more;
}

in_front : (paranoid : Bool) (failure : Failure) (failures : List Failure) (standing : Option Failure) → IsStanding paranoid failures standing
    → IsStanding paranoid (failure ∷ failures) (first_worst paranoid failure standing)
in_front paranoid failure failures None stands =
    elim (nat_lt 0 (severity paranoid failure))
    as (λ some. nat_lt 0 (severity paranoid failure) ≡ some → IsStanding paranoid (failure ∷ failures) (if some then Some failure else None)) [
      | true ↦ λ some.
          front paranoid failure failures (ltb-true 0 (severity paranoid failure) some)
          (All-weaker (Zero paranoid) (NoMore paranoid failure) (λ other zero. omega (arith, zero)) failures stands)
      | false ↦ λ none. All-cons (Zero paranoid) failure failures (omega (arith, ltb-false 0 (severity paranoid failure) none)) stands
    ] refl
in_front paranoid failure failures (Some standing) stands =
    elim (nat_lt (severity paranoid failure) (severity paranoid standing))
    as (λ less. nat_lt (severity paranoid failure) (severity paranoid standing) ≡ less → IsStanding paranoid (failure ∷ failures) (if less then Some standing else Some failure)) [
      | true ↦ λ less. behind_front paranoid failure standing failures (ltb-true (severity paranoid failure) (severity paranoid standing) less) stands
      | false ↦ λ more. let above : severity paranoid standing ≤ severity paranoid failure = ltb-false (severity paranoid failure) (severity paranoid standing) more in
          front paranoid failure failures (omega (arith, above, stands.some))
          (All-weaker (NoMore paranoid standing) (NoMore paranoid failure) (λ other most. omega (arith, most, above)) failures (none_worse paranoid failures standing stands))
    ] refl

pub found : (paranoid : Bool) (failures : List Failure) → IsStanding paranoid failures (standing_of paranoid failures)
found paranoid [] = All-nil (Zero paranoid)
found paranoid (failure ∷ failures) = in_front paranoid failure failures (standing_of paranoid failures) (found paranoid failures)

pub has_one : (paranoid : Bool) (failures : List Failure) → HasOneStanding paranoid failures
has_one paranoid failures = record {
  standing = standing_of paranoid failures;
  stands = found paranoid failures;
  alone = λ other stands. alone paranoid failures (standing_of paranoid failures) other (found paranoid failures) stands;
}
