-- A crash inside the call of any write step leaves a prefix of the story.
use Rattle.std.proofs.Common.{true, ◌≡◌, ℕ, List, [], ◌∷◌, Option, Some, None, refl, sym, ap, subst, ◌∙◌}
use Rattle.keel_base.specs.declared.failure.Failure.{Failure}
use Rattle.keel_base.specs.declared.failure.Fault.{Fault}
use Rattle.keel_disk.specs.declared.change.Change.{Change}
use Rattle.keel_disk.specs.Told.{Told, Changes}
use Rattle.keel_machine.specs.declared.steps.WriteStep.TheVariants as step
use Rattle.keel_machine.specs.Outside.{as_answer}
use Rattle.keel_machine.specs.States.{State, is_open, Footing, Known, Unknown, Story, Group, Act}
use Rattle.keel_machine.specs.Writing.{ready, change_of}
use Rattle.keel_machine.specs.WritingAfter.{MadeCall, call_failed}
use Rattle.keel_recovery.specs.Crashing.{InsideCall}
use Rattle.keel_recovery.specs.Machine.{IsCovered, CrashesWithin, StepsAreSafe, story_behind}
use Rattle.keel_recovery.proofs.InsideStep.{inside_step}
use Rattle.keel_recovery.proofs.Covered.{OpenBy, covered_by}

pub within : (f : Footing) (failed : Option Fault) (change : Change) (before after : Option Told) (s : State) (story behind : Story)
    → OpenBy f before s → Changes change before (as_answer failed) after
    → ((told : Told) → f ≡ Known → before ≡ Some told → InsideCall told.state change story behind)
    → CrashesWithin f before after story behind
within Unknown failed change before after s story behind opened step inside = tt
within Known failed change None after s story behind opened step inside = absurd opened
within Known failed change (Some told) None s story behind opened step inside = absurd step
within Known None change (Some told) (Some next) s story behind opened step inside = (change, step.1, inside told refl refl)
within Known (Some fault) change (Some told) (Some next) s story behind opened step inside = (change, step.1, inside told refl refl)

made_safe : (s next : State) (held : Option ℕ) (group : Group) (act : Act) (later : List Act) (failed : Option Fault)
    → is_open s.mode.phase ≡ true → IsCovered s → next.story ≡ story_behind s failed → MadeCall s held group act later failed next.device
    → CrashesWithin s.footing s.device.told next.device.told s.story next.story
made_safe s next held group act later failed is h story made =
    within s.footing failed (change_of (ready s) group act) s.device.told next.device.told s s.story next.story (covered_by s h) made.calls.step
    (λ told known tells. subst (λ (behind : Story). InsideCall told.state (change_of (ready s) group act) s.story behind) (sym story)
    (inside_step s told held group act later failed next.device is known h tells made))

pub steps_are_safe : StepsAreSafe
steps_are_safe s next held (step.Moved job call) is turn h =
    made_safe s next held turn.0.group turn.0.act (turn.0.next ∷ turn.0.later) None is h (ap (λ (n : State). n.story) turn.1) turn.0.made
steps_are_safe s next held (step.Done job seq batches) is turn h =
    made_safe s next held turn.0.group turn.0.act [] None is h (ap (λ (n : State). n.story) turn.1) turn.0.made
steps_are_safe s next held (step.Failed failure) is turn h =
    made_safe s next held turn.0.group turn.0.act turn.0.later (Some turn.0.fault) is h
    (ap (λ (n : State). n.story) turn.1 ∙ ap (λ (f : Failure). (call_failed f s).story) turn.0.failure_is) turn.0.made
steps_are_safe s next held made is turn h = tt
