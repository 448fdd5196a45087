-- Failures that are armed, and what they make of a call.
use Rattle.std.specs.Prelude.{◌≡◌, ◌≢◌, ◌⊎◌, ◌-◌, ◌==◌, ◌<◌, List, ◌∷◌, ◌++◌, All, length, Option, Some, None, if◌then◌else◌}
use Rattle.keel_base.specs.declared.failure.Call.{Call}
use Rattle.keel_base.specs.declared.failure.Fault.TheVariants.{SpaceLimit}
use Rattle.keel_simdisk.specs.declared.rules.Armed.{Armed}
use Rattle.keel_simdisk.specs.declared.rules.Planned.{Planned}
use Rattle.keel_simdisk.specs.declared.rules.Met.{Met}

-- no rule has the fault that devices don't answer
abbrev pub AreAllowed : List Armed → Type 0
AreAllowed rules = All (λ rule. rule.fault ≢ SpaceLimit) rules

-- a call looks at a rule of its kind that has times left
pub record LooksAt (call : Call) (rule : Armed) : Type 0 where
  pub kind : rule.call ≡ call
  pub times_left : 0 < rule.times

-- it looks at none of these
abbrev pub LooksAtNone : Call → List Armed → Type 0
LooksAtNone call rules = All (λ rule. ¬ LooksAt call rule) rules

-- of all rules, this is the first that it looks at, between these
pub record IsFirst (call : Call) (rules front : List Armed) (rule : Armed) (rest : List Armed) : Type 0 where
  pub split : rules ≡ front ++ rule ∷ rest
  pub none_before : LooksAtNone call front
  pub looks : LooksAt call rule

-- by it the call fails, unless the rule is to be skipped
abbrev pub planned_by : Armed → Option Planned
planned_by rule = if rule.skip == 0 then Some (record { fault = rule.fault; keep = rule.keep }) else None

-- the rule behind the call
abbrev pub counted : Armed → Armed
counted rule = if rule.skip == 0 then record rule { times = rule.times - 1 } else record rule { skip = rule.skip - 1 }

-- the first rule of the call's kind that has times left decides, and is counted
pub record FirstDecides (call : Call) (before : List Armed) (planned : Option Planned) (after : List Armed) : Type 0 where
  pub front : List Armed
  pub rule : Armed
  pub rest : List Armed
  pub first : IsFirst call before front rule rest
  pub decides : planned ≡ planned_by rule
  pub counts : after ≡ front ++ counted rule ∷ rest

-- no rule decides, and the call goes on
pub record NoneDecides (call : Call) (before : List Armed) (planned : Option Planned) (after : List Armed) : Type 0 where
  pub none : LooksAtNone call before
  pub goes_on : planned ≡ None
  pub same : after ≡ before

-- how a call is to fail, and the rules behind it
abbrev pub Meets : Call → List Armed → Option Planned → List Armed → Type 0
Meets call before planned after = FirstDecides call before planned after ⊎ NoneDecides call before planned after

-- how a call fails that looks at this
abbrev pub planned_of : Option Met → Option Planned
planned_of None = None
planned_of (Some met) = planned_by met.armed

-- the rule at which a call looks, at its place
abbrev pub IsMet : Call → List Armed → Option Met → Type 0
IsMet call rules None = LooksAtNone call rules
IsMet call rules (Some met) = (front : List Armed) × (rest : List Armed) × (length front ≡ met.place) × IsFirst call rules front met.armed rest
