-- What the standing error of a list says of the list.
use Rattle.std.proofs.Common.{◌≡◌, ℕ, ◌<◌, ◌≤◌, ◌⊎◌, ◌↔◌, inl, inr, Bool, true, false, ◌||◌, ◌&&◌, List, ◌∷◌, ◌++◌, Option, Some, None, refl, sym, subst, arith, IsTrue, ⊎_elim}
use Rattle.std.specs.Prelude.{All, Contains, nat_le, is_some}
use Rattle.std.proofs.lemmas.Bool.{leb-true, le-leb, false≢true}
use Rattle.std.proofs.lemmas.List.Elements.{All-same, All-append, All-cons, All-weaker, All-contains, Contains-append_right}
use Rattle.keel_base.specs.declared.failure.Failure.{Failure}
use Rattle.keel_handler.specs.Failures.{severity, standing_severity, IsFirstWorst, IsStanding, HasSevere, Stops, WorkStops}
use Rattle.keel_handler.specs.Recovery.{HandlerState, StandsFor, is_off, stops_writes, stops_work}

-- no failure of the list is more severe
pub none_worse : (paranoid : Bool) (failures : List Failure) (failure : Failure) → IsFirstWorst paranoid failures failure
    → All (λ other. severity paranoid other ≤ severity paranoid failure) failures
none_worse paranoid failures failure worst =
    let Mild : Failure → Type 0 = λ other. severity paranoid other ≤ severity paranoid failure in
    let before : All Mild worst.before =
    All-weaker (λ (other : Failure). severity paranoid other < severity paranoid failure) Mild (λ other less. omega (arith, less)) worst.before worst.less in
    All-same Mild failures (worst.before ++ failure ∷ worst.behind) worst.splits
    (All-append Mild worst.before (failure ∷ worst.behind) before (All-cons Mild failure worst.behind (omega arith) worst.no_more))

pub is_there : (paranoid : Bool) (failures : List Failure) (failure : Failure) → IsFirstWorst paranoid failures failure → Contains failures failure
is_there paranoid failures failure worst =
    subst (λ (list : List Failure). Contains list failure) (sym worst.splits)
    (Contains-append_right worst.before (failure ∷ worst.behind) failure (0, omega arith, refl))

-- the standing error is so severe exactly where some failure is
pub severe_listed : (least : ℕ) (paranoid : Bool) (failures : List Failure) (standing : Option Failure) → 0 < least
    → IsStanding paranoid failures standing → (least ≤ standing_severity paranoid standing) ↔ HasSevere least paranoid failures
severe_listed least paranoid failures None some stands = (
  λ severe. absurd (omega (arith, severe, some)),
  λ severe. absurd (omega (arith, some, severe.severe, All-contains (λ (failure : Failure). severity paranoid failure ≡ 0) failures severe.failure stands severe.is_there)),
)
severe_listed least paranoid failures (Some failure) some stands = (
  λ severe. record { failure = failure; is_there = is_there paranoid failures failure stands; severe = severe },
  λ severe.
      let most : severity paranoid severe.failure ≤ severity paranoid failure =
      All-contains (λ (other : Failure). severity paranoid other ≤ severity paranoid failure) failures severe.failure (none_worse paranoid failures failure stands) severe.is_there in
      omega (arith, most, severe.severe),
)

pub stops_listed : (paranoid : Bool) (failures : List Failure) (standing : Option Failure)
    → IsStanding paranoid failures standing → IsTrue (nat_le 2 (standing_severity paranoid standing)) ↔ Stops paranoid failures
stops_listed paranoid failures standing stands =
    let listed = severe_listed 2 paranoid failures standing (omega arith) stands in (
      λ stops. listed.0 (leb-true 2 (standing_severity paranoid standing) stops),
      λ severe. le-leb 2 (standing_severity paranoid standing) (listed.1 severe),
    )

-- an error stands exactly where some failure is one
some_listed : (paranoid : Bool) (failures : List Failure) (standing : Option Failure)
    → IsStanding paranoid failures standing → IsTrue (is_some standing) ↔ HasSevere 1 paranoid failures
some_listed paranoid failures None stands = (λ some. absurd (false≢true some), λ severe. absurd (omega (arith, (severe_listed 1 paranoid failures None (omega arith) stands).1 severe)))
some_listed paranoid failures (Some failure) stands =
    (λ some. (severe_listed 1 paranoid failures (Some failure) (omega arith) stands).0 (omega (arith, stands.some)), λ severe. refl)

either : (a b off : Bool) (A B : Type 0) → (IsTrue a ↔ A) → (IsTrue b ↔ B) → IsTrue (a || (b && off)) ↔ (A ⊎ (B × IsTrue off))
either true b off A B is_a is_b = (λ _. inl (is_a.0 refl), λ _. refl)
either false true true A B is_a is_b = (λ _. inr (is_b.0 refl, refl), λ _. refl)
either false true false A B is_a is_b = (λ h. absurd (false≢true h), ⊎_elim (λ a. is_a.1 a) (λ both. both.1))
either false false off A B is_a is_b = (λ h. absurd (false≢true h), ⊎_elim (λ a. is_a.1 a) (λ both. is_b.1 both.0))

pub work_listed : (handler : HandlerState) (failures : List Failure)
    → StandsFor handler failures → IsTrue (stops_work handler) ↔ WorkStops handler.paranoid failures (is_off handler)
work_listed handler failures stands =
    either (stops_writes handler) (is_some handler.standing) (is_off handler) (Stops handler.paranoid failures) (HasSevere 1 handler.paranoid failures)
    (stops_listed handler.paranoid failures handler.standing stands) (some_listed handler.paranoid failures handler.standing stands)
