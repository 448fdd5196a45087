-- Every failure of a log or of a manifest stops writes, whatever failed before it.
use Rattle.std.proofs.Common.{◌≡◌, ◌≤◌, Bool, true, false, List, [], ◌∷◌, ◌++◌, Option, Some, None, refl, sym, ap, subst, arith}
use Rattle.std.specs.Prelude.{nat_lt, if◌then◌else◌, is_some}
use Rattle.std.proofs.lemmas.Bool.{ltb-false, le-leb}
use Rattle.keel_base.specs.declared.failure.Failure.{Failure}
use Rattle.keel_base.specs.declared.failure.Fault.{Fault}
use Rattle.keel_base.specs.declared.failure.Fault.TheVariants.{Plain, NoSpace, SpaceLimit, Fenced, Retryable, DataLoss, Corrupt}
use Rattle.keel_handler.specs.Failures.{severity, first_worst, standing_of, where_severe}
use Rattle.keel_base.specs.declared.failure.Reason.TheVariants.{Manifest}
use Rattle.keel_machine.specs.Laws.{LogFailureStops, ManifestFailureStops}
use Rattle.keel_machine.specs.WritingAfter.{failure_of}

-- the error that stands, and that it stops writes
record IsSevere (paranoid : Bool) (standing : Option Failure) : Type 0 where
  failure : Failure
  is : standing ≡ Some failure
  severe : 2 ≤ severity paranoid failure

log_severe : (paranoid : Bool) (fault : Fault) → 2 ≤ severity paranoid (failure_of fault)
log_severe true Plain = omega arith
log_severe true NoSpace = omega arith
log_severe true SpaceLimit = omega arith
log_severe true Fenced = omega arith
log_severe true Retryable = omega arith
log_severe true DataLoss = omega arith
log_severe true Corrupt = omega arith
log_severe false Plain = omega arith
log_severe false NoSpace = omega arith
log_severe false SpaceLimit = omega arith
log_severe false Fenced = omega arith
log_severe false Retryable = omega arith
log_severe false DataLoss = omega arith
log_severe false Corrupt = omega arith

-- a failure of a manifest
abbrev manifest_failure : Fault → Failure
manifest_failure fault = record { reason = Manifest; fault = fault }

manifest_severe : (paranoid : Bool) (fault : Fault) → 2 ≤ severity paranoid (manifest_failure fault)
manifest_severe true Plain = omega arith
manifest_severe true NoSpace = omega arith
manifest_severe true SpaceLimit = omega arith
manifest_severe true Fenced = omega arith
manifest_severe true Retryable = omega arith
manifest_severe true DataLoss = omega arith
manifest_severe true Corrupt = omega arith
manifest_severe false Plain = omega arith
manifest_severe false NoSpace = omega arith
manifest_severe false SpaceLimit = omega arith
manifest_severe false Fenced = omega arith
manifest_severe false Retryable = omega arith
manifest_severe false DataLoss = omega arith
manifest_severe false Corrupt = omega arith

alone : (paranoid : Bool) (failure : Failure) → 2 ≤ severity paranoid failure → IsSevere paranoid (first_worst paranoid failure None)
alone paranoid failure severe =
    elim (nat_lt 0 (severity paranoid failure))
    as (λ some. nat_lt 0 (severity paranoid failure) ≡ some → IsSevere paranoid (if some then Some failure else None)) [
      | true ↦ λ some. record { failure = failure; is = refl; severe = severe }
      | false ↦ λ none. absurd (omega (arith, severe, ltb-false 0 (severity paranoid failure) none))
    ] refl

-- one in front of a severe one leaves a severe one
in_front : (paranoid : Bool) (front : Failure) (standing : Option Failure) → IsSevere paranoid standing → IsSevere paranoid (first_worst paranoid front standing)
in_front paranoid front None severe = absurd (cc severe.is)
in_front paranoid front (Some behind) severe =
    let same : behind ≡ severe.failure = cc (severe.is) in
    let here : 2 ≤ severity paranoid behind = subst (λ (f : Failure). 2 ≤ severity paranoid f) (sym same) severe.severe in
    elim (nat_lt (severity paranoid front) (severity paranoid behind))
    as (λ less. nat_lt (severity paranoid front) (severity paranoid behind) ≡ less → IsSevere paranoid (if less then Some behind else Some front)) [
      | true ↦ λ less. record { failure = behind; is = refl; severe = here }
      | false ↦ λ more. record { failure = front; is = refl; severe = omega (arith, here, ltb-false (severity paranoid front) (severity paranoid behind) more) }
    ] refl

behind : (paranoid : Bool) (failures : List Failure) (failure : Failure) → 2 ≤ severity paranoid failure → IsSevere paranoid (standing_of paranoid (failures ++ failure ∷ []))
behind paranoid [] failure severe = alone paranoid failure severe
behind paranoid (front ∷ failures) failure severe =
    in_front paranoid front (standing_of paranoid (failures ++ failure ∷ [])) (behind paranoid failures failure severe)

stopping : (paranoid : Bool) (standing : Option Failure) → IsSevere paranoid standing → is_some (where_severe paranoid standing) ≡ true
stopping paranoid None severe = absurd (cc severe.is)
stopping paranoid (Some failure) severe =
    let same : failure ≡ severe.failure = cc (severe.is) in
    let here : 2 ≤ severity paranoid failure = subst (λ (f : Failure). 2 ≤ severity paranoid f) (sym same) severe.severe in
    ap (λ (severe : Bool). is_some (if severe then Some failure else None)) (le-leb 2 (severity paranoid failure) here)

pub log_failure_stops : LogFailureStops
log_failure_stops s fault =
    stopping s.options.paranoid (standing_of s.options.paranoid (s.failing.failures ++ failure_of fault ∷ []))
    (behind s.options.paranoid s.failing.failures (failure_of fault) (log_severe s.options.paranoid fault))

pub manifest_failure_stops : ManifestFailureStops
manifest_failure_stops s fault =
    stopping s.options.paranoid (standing_of s.options.paranoid (s.failing.failures ++ manifest_failure fault ∷ []))
    (behind s.options.paranoid s.failing.failures (manifest_failure fault) (manifest_severe s.options.paranoid fault))
