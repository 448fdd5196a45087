-- A crash inside the call of any flush step leaves a prefix of the story.
use Rattle.std.proofs.Common.{◌≡◌, ℕ, Option, Some, None, List, [], ◌∷◌, sym, ap, subst, ◌∙◌}
use Rattle.keel_base.specs.declared.failure.Fault.{Fault}
use Rattle.keel_disk.specs.State.{State as Disk}
use Rattle.keel_disk.specs.Step.{DiskStep, done}
use Rattle.keel_disk.specs.Told.{Told}
use Rattle.keel_draft.specs.Drafts.{Draft}
use Rattle.keel_flush.specs.Plans.{Act, Job, change_of}
use Rattle.keel_machine.specs.declared.steps.JobStep.TheVariants as step
use Rattle.keel_machine.specs.Flushing.{MadeCall, Makes, call_done}
use Rattle.keel_machine.specs.States.{State, Footing, Known, Story, is_left}
use Rattle.keel_recovery.specs.Crashing.{InsideCall}
use Rattle.keel_recovery.specs.Machine.{CrashesWithin, FlushesAreSafe, IsCovered, IsKept, KeptBy}
use Rattle.keel_recovery.specs.Standing.{Stands}
use Rattle.keel_recovery.proofs.Covered.{OpenBy, covered_by}
use Rattle.keel_recovery.proofs.FlushKeeping.{change_is, done_kept, done_beside, failed_beside, open_phase, ready_kept, while_open}
use Rattle.keel_recovery.proofs.Inside.{call_leaves_prefix}
use Rattle.keel_recovery.proofs.Kept.{kept_stands}
use Rattle.keel_recovery.proofs.Ordering.{went_well}
use Rattle.keel_recovery.proofs.SafeSteps.{within}

module _ (s : State) (draft : Draft) (held : Option ℕ) (job : Job) (act : Act) (later : List Act) (makes : Makes s draft held job act later) where
  -- the story is the same behind an Ok
  behind_stands : (before after : Disk) → IsKept before s → done (change_of job s.numbers.next_file s.numbers.manifest act) before ≡ Some after → Stands after s.story
  behind_stands before after h step =
      let kept = done_kept s draft held job act later makes before after (ready_kept s draft held job act later makes before h) (subst (λ c. DiskStep before c went_well after) (sym (change_is s draft held job act later makes)) step) in
      subst (Stands after) (done_beside s draft held job act later makes).story (kept_stands after (call_done draft s) kept)

  inside : (behind : Story) → behind ≡ s.story → (before : Disk) → IsKept before s → InsideCall before (change_of job s.numbers.next_file s.numbers.manifest act) s.story behind
  inside behind same before h = subst (λ (story : Story). InsideCall before (change_of job s.numbers.next_file s.numbers.manifest act) s.story story) (sym same)
      (call_leaves_prefix before (change_of job s.numbers.next_file s.numbers.manifest act) s.story s.story (kept_stands before s h) (λ after did. behind_stands before after h did))

made_safe : (s next : State) (draft : Draft) (held : Option ℕ) (job : Job) (act : Act) (later : List Act) (failed : Option Fault)
    → IsCovered s → next.story ≡ s.story → MadeCall s draft held job act later failed next.device → CrashesWithin s.footing s.device.told next.device.told s.story next.story
made_safe s next draft held job act later failed h story made =
    within s.footing failed (change_of job s.numbers.next_file s.numbers.manifest act) s.device.told next.device.told s s.story next.story (covered_by s h) made.calls.step
    (λ told known tells.
    let kept : KeptBy s.mode.phase (is_left s.mode.left) told.state s = subst (λ (t : Option Told). OpenBy Known t s) tells (subst (λ (f : Footing). OpenBy f s.device.told s) known (covered_by s h)) in
    inside s draft held job act later made.makes next.story story told.state
    (while_open s draft held job act later made.makes s.mode.phase (is_left s.mode.left) told.state (open_phase s draft held job act later made.makes) kept))

pub flushes_are_safe : FlushesAreSafe
flushes_are_safe s next draft held (step.Moved number call) turn h =
    let a = turn.0 in
    made_safe s next draft held a.job a.act (a.next ∷ a.later) None h (ap (λ (n : State). n.story) turn.1 ∙ (done_beside s draft held a.job a.act (a.next ∷ a.later) a.made.makes).story) a.made
flushes_are_safe s next draft held (step.Done number) turn h =
    let a = turn.0 in
    made_safe s next draft held a.job a.act [] None h (ap (λ (n : State). n.story) turn.1 ∙ (done_beside s draft held a.job a.act [] a.made.makes).story) a.made
flushes_are_safe s next draft held (step.Failed failure) turn h =
    let a = turn.0 in
    made_safe s next draft held a.job a.act a.later (Some a.fault) h (ap (λ (n : State). n.story) turn.1 ∙ (failed_beside s draft held a.job a.act a.later a.made.makes failure).story) a.made
flushes_are_safe s next draft held made turn h = tt
