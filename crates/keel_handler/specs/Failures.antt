-- Failures since the last clear, as a list in their order, the one of them that stands, and what it stops.
use Rattle.std.specs.Prelude.{◌≡◌, ℕ, ◌<◌, ◌≤◌, ◌⊎◌, ◌&&◌, nat_le, nat_lt, Bool, true, false, IsTrue, List, [], ◌∷◌, ◌++◌, Option, Some, None, All, Contains, if◌then◌else◌}
use Rattle.keel_base.specs.declared.failure.Failure.{Failure}
use Rattle.keel_base.specs.declared.failure.Fault.{Fault}
use Rattle.keel_base.specs.declared.failure.Fault.TheVariants.{NoSpace, Retryable}
use Rattle.keel_grade.specs.Grades.{grade_of, severity_of}

-- how bad a failure is: 0 is no error, from 2 on writes are stopped, from 3 on no resume helps
abbrev pub severity : Bool → Failure → ℕ
severity paranoid failure = severity_of (grade_of failure.reason failure.fault paranoid)

-- it is an error, those before it are less severe, and those behind it are no more severe
pub record IsFirstWorst (paranoid : Bool) (failures : List Failure) (failure : Failure) : Type 0 where
  pub before : List Failure
  pub behind : List Failure
  pub splits : failures ≡ before ++ failure ∷ behind
  pub some : 0 < severity paranoid failure
  pub less : All (λ other. severity paranoid other < severity paranoid failure) before
  pub no_more : All (λ other. severity paranoid other ≤ severity paranoid failure) behind

-- the standing error of a list: the first of the greatest severity, and none where all severities are 0
abbrev pub IsStanding : Bool → List Failure → Option Failure → Type 0
IsStanding paranoid failures None = All (λ failure. severity paranoid failure ≡ 0) failures
IsStanding paranoid failures (Some failure) = IsFirstWorst paranoid failures failure

-- of a failure and the standing error of those behind it, the one that stands: the first of the greatest severity
abbrev pub first_worst : Bool → Failure → Option Failure → Option Failure
first_worst paranoid failure None = if nat_lt 0 (severity paranoid failure) then Some failure else None
first_worst paranoid failure (Some behind) =
    if nat_lt (severity paranoid failure) (severity paranoid behind) then Some behind else Some failure

-- the same as a function
abbrev pub standing_of : Bool → List Failure → Option Failure
standing_of paranoid [] = None
standing_of paranoid (failure ∷ failures) = first_worst paranoid failure (standing_of paranoid failures)

abbrev pub where_severe : Bool → Option Failure → Option Failure
where_severe paranoid None = None
where_severe paranoid (Some failure) = if nat_le 2 (severity paranoid failure) then Some failure else None

-- the standing error where it stops writes
abbrev pub stopping_of : Bool → List Failure → Option Failure
stopping_of paranoid failures = where_severe paranoid (standing_of paranoid failures)

-- the severity of the standing error, and 0 where none stands
abbrev pub standing_severity : Bool → Option Failure → ℕ
standing_severity paranoid None = 0
standing_severity paranoid (Some failure) = severity paranoid failure

-- some failure of the list is so severe
pub record HasSevere (least : ℕ) (paranoid : Bool) (failures : List Failure) : Type 0 where
  pub failure : Failure
  pub is_there : Contains failures failure
  pub severe : least ≤ severity paranoid failure

-- writes are stopped: a failure of severity 2 or more
abbrev pub Stops : Bool → List Failure → Type 0
Stops paranoid failures = HasSevere 2 paranoid failures

-- background work is stopped: where writes are, and by every error where automatic recovery is off
abbrev pub WorkStops : Bool → List Failure → Bool → Type 0
WorkStops paranoid failures off = Stops paranoid failures ⊎ (HasSevere 1 paranoid failures × IsTrue off)

-- a fault that may pass
abbrev pub may_pass : Fault → Bool
may_pass NoSpace = true
may_pass Retryable = true
may_pass _ = false

-- an error that may pass, and is neither none nor fatal
abbrev pub is_passing : Bool → Option Failure → Bool
is_passing paranoid None = false
is_passing paranoid (Some failure) =
    may_pass failure.fault && (nat_le 1 (severity paranoid failure) && nat_le (severity paranoid failure) 2)
