-- A call that the device takes goes on, or fails.
use Rattle.std.proofs.Common.{◌≡◌, true, List, Option, Some, None, Ok, Err, MatchOption, is_some, unwrap_or, refl, ◌∙◌, ap, subst, inr}
use Rattle.keel_base.specs.Counts.{raised}
use Rattle.keel_base.specs.declared.failure.Call.{Call}
use Rattle.keel_disk.specs.declared.change.Change.{Change}
use Rattle.keel_disk.specs.declared.error.DiskError.TheVariants.{Fault}
use Rattle.keel_disk.specs.State.{State}
use Rattle.keel_disk.specs.Step.{done, failed}
use Rattle.keel_simdisk.specs.declared.rules.Armed.{Armed}
use Rattle.keel_simdisk.specs.declared.rules.Met.{Met}
use Rattle.keel_simdisk.specs.declared.rules.Planned.{Planned}
use Rattle.keel_simdisk.specs.declared.sim_disk.SimDisk.{SimDisk}
use Rattle.keel_simdisk.specs.Rules.{IsMet, Meets, planned_of}
use Rattle.keel_simdisk.specs.Calls.{kind_of, failure_of, Comes, MeetsRules, MakesCall}

taken : (outcome : Option State) (P Q : Type 0) → is_some outcome ≡ true → Q → MatchOption outcome P (λ _. Q)
taken None P Q some q = cc
taken (Some whole) P Q some q = q

-- the rules behind the call that looked at them
counted_from : (call kind : Call) (before after : List Armed) (met : Option Met) → call ≡ kind → IsMet call before met → ((c : Call) → IsMet c before met → Meets c before (planned_of met) after)
    → Meets kind before (planned_of met) after
counted_from call kind before after met same is counts = counts kind (subst (λ c. IsMet c before met) same is)

pub passes : (change : Change) (disk after : SimDisk) (call : Call) (met : Option Met) (rules : List Armed) (state : State)
    → is_some (done change disk.state) ≡ true → call ≡ kind_of change → IsMet call disk.rules met → ((c : Call) → IsMet c disk.rules met → Meets c disk.rules (planned_of met) rules)
    → None ≡ failure_of (planned_of met) change disk → state ≡ unwrap_or (done change disk.state) disk.state
    → after ≡ record disk { state = state; rules = rules; last = Some change; changes = raised disk.changes }
    → MakesCall change disk (Ok tt) after
passes change disk after call met rules state takes kind is counts none state_is after_is =
    inr (taken (done change disk.state) _ (MeetsRules change disk (Ok tt) after) takes (record {
      planned = planned_of met;
      rules = rules;
      met = counted_from call (kind_of change) disk.rules rules met kind is counts;
      comes = subst (λ f. Comes f change rules disk (Ok tt) after) none
          (refl, after_is ∙ ap (λ (s : State). record disk { state = s; rules = rules; last = Some change; changes = raised disk.changes }) state_is);
    }))

pub fails : (change : Change) (disk after : SimDisk) (call : Call) (met : Option Met) (rules : List Armed) (state : State) (planned : Planned)
    → is_some (done change disk.state) ≡ true → call ≡ kind_of change → IsMet call disk.rules met → ((c : Call) → IsMet c disk.rules met → Meets c disk.rules (planned_of met) rules)
    → Some planned ≡ failure_of (planned_of met) change disk → state ≡ failed change planned.keep disk.state
    → after ≡ record disk { state = state; rules = rules; last = Some change; changes = raised disk.changes; faults = raised disk.faults; last_fault = Some planned.fault }
    → MakesCall change disk (Err (Fault planned.fault)) after
fails change disk after call met rules state planned takes kind is counts some state_is after_is =
    inr (taken (done change disk.state) _ (MeetsRules change disk (Err (Fault planned.fault)) after) takes (record {
      planned = planned_of met;
      rules = rules;
      met = counted_from call (kind_of change) disk.rules rules met kind is counts;
      comes = subst (λ f. Comes f change rules disk (Err (Fault planned.fault)) after) some
          (refl, after_is ∙ ap (λ (s : State). record disk { state = s; rules = rules; last = Some change; changes = raised disk.changes; faults = raised disk.faults; last_fault = Some planned.fault }) state_is);
    }))
