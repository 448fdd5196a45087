-- A failure more leaves writes stopped.
use Rattle.std.proofs.Common.{◌≡◌, ◌⊎◌, ℕ, ◌≤◌, Bool, true, false, List, [], ◌∷◌, ◌++◌, Option, Some, None, refl, sym, ◌∙◌, inl, inr, ⊎_elim, arith, nat_le}
use Rattle.std.specs.Prelude.{nat_lt, if◌then◌else◌, is_some}
use Rattle.std.proofs.lemmas.Bool.{ltb-true, ltb-false, leb-true, le-leb}
use Rattle.keel_base.specs.declared.failure.Failure.{Failure}
use Rattle.keel_handler.specs.Failures.{severity, first_worst, standing_of, standing_severity, where_severe}
use Rattle.keel_machine.specs.Admission.{stopping}
use Rattle.keel_machine.specs.States.{State}
use Rattle.keel_machine.specs.WritingAfter.{noted}

-- what is at least so bad is one of those behind, or the one in front
worst_front : (paranoid : Bool) (least : ℕ) (front : Failure) (behind : Option Failure) → 1 ≤ least → least ≤ severity paranoid front → least ≤ standing_severity paranoid (first_worst paranoid front behind)
worst_front paranoid least front None some bad =
    elim (nat_lt 0 (severity paranoid front)) as (λ b. nat_lt 0 (severity paranoid front) ≡ b → least ≤ standing_severity paranoid (if b then Some front else None)) [
      | true ↦ λ is. bad
      | false ↦ λ none. absurd (omega (arith, some, bad, ltb-false 0 (severity paranoid front) none))
    ] refl
worst_front paranoid least front (Some other) some bad =
    elim (nat_lt (severity paranoid front) (severity paranoid other)) as (λ b. nat_lt (severity paranoid front) (severity paranoid other) ≡ b → least ≤ standing_severity paranoid (if b then Some other else Some front)) [
      | true ↦ λ less. omega (arith, bad, ltb-true (severity paranoid front) (severity paranoid other) less)
      | false ↦ λ more. bad
    ] refl

worst_behind : (paranoid : Bool) (least : ℕ) (front : Failure) (behind : Option Failure) → 1 ≤ least → least ≤ standing_severity paranoid behind → least ≤ standing_severity paranoid (first_worst paranoid front behind)
worst_behind paranoid least front None some bad = absurd (omega (arith, some, bad))
worst_behind paranoid least front (Some other) some bad =
    elim (nat_lt (severity paranoid front) (severity paranoid other)) as (λ b. nat_lt (severity paranoid front) (severity paranoid other) ≡ b → least ≤ standing_severity paranoid (if b then Some other else Some front)) [
      | true ↦ λ less. bad
      | false ↦ λ more. omega (arith, bad, ltb-false (severity paranoid front) (severity paranoid other) more)
    ] refl

worst_of : (paranoid : Bool) (least : ℕ) (front : Failure) (behind : Option Failure) → least ≤ standing_severity paranoid (first_worst paranoid front behind) → 1 ≤ least
    → (least ≤ severity paranoid front) ⊎ (least ≤ standing_severity paranoid behind)
worst_of paranoid least front None bad some =
    elim (nat_lt 0 (severity paranoid front)) as (λ b. least ≤ standing_severity paranoid (if b then Some front else None) → (least ≤ severity paranoid front) ⊎ (least ≤ 0)) [
      | true ↦ λ is. inl is
      | false ↦ λ none. inr none
    ] bad
worst_of paranoid least front (Some other) bad some =
    elim (nat_lt (severity paranoid front) (severity paranoid other)) as (λ b. least ≤ standing_severity paranoid (if b then Some other else Some front) → (least ≤ severity paranoid front) ⊎ (least ≤ severity paranoid other)) [
      | true ↦ λ is. inr is
      | false ↦ λ is. inl is
    ] bad

-- a further failure behind them leaves it as bad
worst_more : (paranoid : Bool) (least : ℕ) (failures : List Failure) (failure : Failure) → 1 ≤ least → least ≤ standing_severity paranoid (standing_of paranoid failures) → least ≤ standing_severity paranoid (standing_of paranoid (failures ++ failure ∷ []))
worst_more paranoid least [] failure some bad = absurd (omega (arith, some, bad))
worst_more paranoid least (front ∷ failures) failure some bad =
    ⊎_elim (λ own. worst_front paranoid least front (standing_of paranoid (failures ++ failure ∷ [])) some own)
    (λ later. worst_behind paranoid least front (standing_of paranoid (failures ++ failure ∷ [])) some (worst_more paranoid least failures failure some later))
    (worst_of paranoid least front (standing_of paranoid failures) bad some)

pub severe_is : (paranoid : Bool) (standing : Option Failure) → is_some (where_severe paranoid standing) ≡ nat_le 2 (standing_severity paranoid standing)
severe_is paranoid None = refl
severe_is paranoid (Some failure) = elim (nat_le 2 (severity paranoid failure)) as (λ b. is_some (if b then Some failure else None) ≡ b) [
  | true ↦ refl
  | false ↦ refl
]

pub still_stopped : (s : State) (failure : Failure) → is_some (stopping s) ≡ true → is_some (stopping (noted failure s)) ≡ true
still_stopped s failure stopped =
    let paranoid = s.options.paranoid in
    let now : 2 ≤ standing_severity paranoid (standing_of paranoid s.failing.failures) = leb-true 2 _ (sym (severe_is paranoid (standing_of paranoid s.failing.failures)) ∙ stopped) in
    severe_is paranoid (standing_of paranoid (s.failing.failures ++ failure ∷ [])) ∙ le-leb 2 _ (worst_more paranoid 2 s.failing.failures failure (omega arith) now)
