-- What a handler keeps, and what its calls answer and leave.
use Rattle.std.specs.Prelude.{◌≡◌, ℕ, ◌+◌, ◌-◌, ◌^◌, ◌<◌, ◌≤◌, ◌&&◌, ◌||◌, min, nat_le, not, Bool, true, false, List, Option, Some, None, is_some}
use Rattle.keel_base.specs.declared.failure.Failure.{Failure}
use Rattle.keel_handler.specs.declared.answers.Noted.{Noted}
use Rattle.keel_handler.specs.declared.answers.Noted.TheVariants.{Replaced, Kept}
use Rattle.keel_handler.specs.declared.answers.Due.{Due}
use Rattle.keel_handler.specs.declared.answers.Due.TheVariants.{No, GivenUp, Wait, Now}
use Rattle.keel_handler.specs.Failures.{severity, standing_severity, IsStanding, is_passing}

-- the settings of a handler, the standing error, and how far automatic recovery from it has come
pub record HandlerState : Type 0 where
  pub paranoid : Bool
  pub auto : Bool
  -- attempts at most for one standing error
  pub most : ℕ
  -- ticks between two attempts
  pub interval : ℕ
  pub standing : Option Failure
  -- attempts begun for this standing error
  pub attempts : ℕ
  -- the tick from which on the next attempt is due
  pub due : ℕ
  pub given_up : Bool

-- the failures since the last clear may be these
abbrev pub StandsFor : HandlerState → List Failure → Type 0
StandsFor handler failures = IsStanding handler.paranoid failures handler.standing

-- another error stands, or none, and nothing was tried against it: the first attempt is due at once
abbrev pub renewed : Option Failure → HandlerState → HandlerState
renewed standing handler = record handler { standing = standing; attempts = 0; due = 0; given_up = false }

-- a handler that has met no failure
abbrev pub fresh : Bool → Bool → ℕ → ℕ → HandlerState
fresh paranoid auto most interval = record {
  paranoid = paranoid;
  auto = auto;
  most = most;
  interval = interval;
  standing = None;
  attempts = 0;
  due = 0;
  given_up = false;
}

-- A failure replaces the standing error exactly where it is more severe.
abbrev pub Notes : HandlerState → Failure → Noted → HandlerState → Type 0
Notes old failure Replaced new =
    (standing_severity old.paranoid old.standing < severity old.paranoid failure) × (new ≡ renewed (Some failure) old)
Notes old failure Kept new =
    (severity old.paranoid failure ≤ standing_severity old.paranoid old.standing) × (new ≡ old)

-- automatic recovery is off: it isn't wanted, or has given up on this standing error
abbrev pub is_off : HandlerState → Bool
is_off handler = not handler.auto || handler.given_up

-- writes are stopped
abbrev pub stops_writes : HandlerState → Bool
stops_writes handler = nat_le 2 (standing_severity handler.paranoid handler.standing)

-- background work is stopped
abbrev pub stops_work : HandlerState → Bool
stops_work handler = stops_writes handler || (is_some handler.standing && is_off handler)

-- automatic recovery is on, and the standing error is one for it
abbrev pub recovers : HandlerState → Bool
recovers handler = not (is_off handler) && is_passing handler.paranoid handler.standing

-- When the next attempt is due. Giving up alone changes the handler, and no answer counts an attempt.
abbrev pub Dues : HandlerState → ℕ → Due → HandlerState → Type 0
Dues old now No new = (recovers old ≡ false) × (new ≡ old)
Dues old now (GivenUp attempts) new =
    (recovers old ≡ true) × (old.most ≤ old.attempts) × (attempts ≡ old.attempts) × (new ≡ record old { given_up = true })
Dues old now (Wait until) new =
    (recovers old ≡ true) × (old.attempts < old.most) × (now < old.due) × (until ≡ old.due) × (new ≡ old)
Dues old now Now new = (recovers old ≡ true) × (old.attempts < old.most) × (old.due ≤ now) × (new ≡ old)

-- the next attempt is due an interval later; ticks end at 2^64 - 1
abbrev pub postponed : ℕ → HandlerState → HandlerState
postponed now handler = record handler { due = min (now + handler.interval) (2 ^ 64 - 1) }
