-- A failure that is noted stops no less than stood before.
use Rattle.std.specs.Prelude.{nat_le, nat_lt, if◌then◌else◌}
use Rattle.std.proofs.Common.{◌≡◌, ◌⊎◌, inl, inr, ⊎_elim, ℕ, ◌<◌, ◌≤◌, Bool, true, false, List, [], ◌∷◌, ◌++◌, Option, Some, None, refl, arith}
use Rattle.std.proofs.lemmas.Bool.{leb-false, leb-true, ltb-false, ltb-true}
use Rattle.keel_base.specs.declared.failure.Failure.{Failure}
use Rattle.keel_handler.specs.Failures.{first_worst, severity, standing_of, standing_severity, where_severe}
use Rattle.keel_machine.specs.Admission.{stopping}
use Rattle.keel_machine.specs.States.{State}
use Rattle.keel_machine.specs.WritingAfter.{noted}

-- the greater of two
record Worst (one two worst : ℕ) : Type 0 where
  front : one ≤ worst
  behind : two ≤ worst
  most : (worst ≡ one) ⊎ (worst ≡ two)

one_front : (paranoid : Bool) (front : Failure) → standing_severity paranoid (first_worst paranoid front None) ≡ severity paranoid front
one_front paranoid front = by (nat_lt 0 (severity paranoid front)) refl
  where
    by : (b : Bool) → nat_lt 0 (severity paranoid front) ≡ b → standing_severity paranoid (if b then Some front else None) ≡ severity paranoid front
    by true is = refl
    by false is = omega (arith, ltb-false 0 (severity paranoid front) is)

two_front : (paranoid : Bool) (front behind : Failure) → Worst (severity paranoid front) (severity paranoid behind) (standing_severity paranoid (first_worst paranoid front (Some behind)))
two_front paranoid front behind = by (nat_lt (severity paranoid front) (severity paranoid behind)) refl
  where
    by : (b : Bool) → nat_lt (severity paranoid front) (severity paranoid behind) ≡ b → Worst (severity paranoid front) (severity paranoid behind) (standing_severity paranoid (if b then Some behind else Some front))
    by true is = record { front = omega (arith, ltb-true (severity paranoid front) (severity paranoid behind) is); behind = omega arith; most = inr refl }
    by false is = record { front = omega arith; behind = omega (arith, ltb-false (severity paranoid front) (severity paranoid behind) is); most = inl refl }

worst_of : (paranoid : Bool) (front : Failure) (standing : Option Failure) → Worst (severity paranoid front) (standing_severity paranoid standing) (standing_severity paranoid (first_worst paranoid front standing))
worst_of paranoid front None = record { front = omega (arith, one_front paranoid front); behind = omega arith; most = inl (one_front paranoid front) }
worst_of paranoid front (Some behind) = two_front paranoid front behind

-- in front of one that is no less severe stands one that is no less severe
worse : (paranoid : Bool) (front : Failure) (old new : Option Failure) → standing_severity paranoid old ≤ standing_severity paranoid new
    → standing_severity paranoid (first_worst paranoid front old) ≤ standing_severity paranoid (first_worst paranoid front new)
worse paranoid front old new le =
    let before = worst_of paranoid front old in
    let behind = worst_of paranoid front new in
    ⊎_elim (λ same. omega (arith, same, behind.front)) (λ same. omega (arith, same, le, behind.behind)) before.most

grows : (paranoid : Bool) (failures : List Failure) (failure : Failure) → standing_severity paranoid (standing_of paranoid failures) ≤ standing_severity paranoid (standing_of paranoid (failures ++ failure ∷ []))
grows paranoid [] failure = omega arith
grows paranoid (front ∷ failures) failure = worse paranoid front (standing_of paranoid failures) (standing_of paranoid (failures ++ failure ∷ [])) (grows paranoid failures failure)

mild : (paranoid : Bool) (standing : Option Failure) → where_severe paranoid standing ≡ None → standing_severity paranoid standing < 2
mild paranoid None none = omega arith
mild paranoid (Some failure) none = by (nat_le 2 (severity paranoid failure)) refl none
  where
    by : (severe : Bool) → nat_le 2 (severity paranoid failure) ≡ severe → (if severe then Some failure else None) ≡ None → severity paranoid failure < 2
    by true is none = cc
    by false is none = leb-false 2 (severity paranoid failure) is

calm : (paranoid : Bool) (standing : Option Failure) → standing_severity paranoid standing < 2 → where_severe paranoid standing ≡ None
calm paranoid None less = refl
calm paranoid (Some failure) less = by (nat_le 2 (severity paranoid failure)) refl
  where
    by : (severe : Bool) → nat_le 2 (severity paranoid failure) ≡ severe → (if severe then Some failure else None) ≡ None
    by true is = absurd (omega (arith, less, leb-true 2 (severity paranoid failure) is))
    by false is = refl

pub less_stopped : (s : State) (failure : Failure) → stopping (noted failure s) ≡ None → stopping s ≡ None
less_stopped s failure none =
    calm s.options.paranoid (standing_of s.options.paranoid s.failing.failures)
    (omega (arith, mild s.options.paranoid (standing_of s.options.paranoid (s.failing.failures ++ failure ∷ [])) none, grows s.options.paranoid s.failing.failures failure))
