-- Faults over several calls.
use Rattle.std.proofs.Common.{ℕ, ◌≤◌, Option, Some, None, refl, ◌∙◌, arith}
use Rattle.std.specs.Prelude.{IfSome}
use Rattle.keel_base.specs.Counts.{Rose}
use Rattle.keel_base.specs.declared.failure.Fault.{Fault}
use Rattle.keel_disk.specs.Counts.{FaultCounted}
use Rattle.keel_disk.specs.Seen.{Seen, IsQuiet}

risen_since : (before between now : ℕ) (answered : Option Fault) → before ≤ between → IfSome answered (λ _. Rose between now) → IfSome answered (λ _. Rose before now)
risen_since before between now None low h = tt
risen_since before between now (Some fault) low h = omega (arith, low, h)

-- a call that failed behind calls that didn't is the cause of the whole
pub fault_behind : (before between now : ℕ) (first last answered : Option Fault) → FaultCounted before between first None → FaultCounted between now last answered → FaultCounted before now last answered
fault_behind before between now first last answered h k = record {
  never_falls = omega (arith, h.never_falls, k.never_falls);
  risen = risen_since before between now answered h.never_falls k.risen;
  last_is = k.last_is;
  not_space_limit = k.not_space_limit;
}

pub no_fault : (count : ℕ) (last : Option Fault) → FaultCounted count count last None
no_fault count last = record { never_falls = omega arith; risen = tt; last_is = tt; not_space_limit = tt }

-- where nothing was done
pub quiet_itself : (seen : Seen) → IsQuiet seen None seen
quiet_itself seen = record { same = refl; count = refl; cause = no_fault seen.faults seen.last_fault; simulated = refl; arranged = refl }

-- a read behind reads that went well
pub quiet_behind : (before between now : Seen) (answered : Option Fault) → IsQuiet before None between → IsQuiet between answered now → IsQuiet before answered now
quiet_behind before between now answered h k = record {
  same = k.same ∙ h.same;
  count = k.count ∙ h.count;
  cause = fault_behind before.faults between.faults now.faults between.last_fault now.last_fault answered h.cause k.cause;
  simulated = k.simulated ∙ h.simulated;
  arranged = k.arranged ∙ h.arranged;
}
