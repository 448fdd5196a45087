-- A crash inside the call of any resume step leaves a prefix of the story.
use Rattle.std.proofs.Common.{◌≡◌, inl, inr, ⊎_elim, ℕ, ◌≤◌, List, [], ◌∷◌, length, Option, Some, None, true, refl, sym, ap, subst, ◌∙◌}
use Rattle.keel_base.specs.declared.failure.Failure.{Failure}
use Rattle.keel_base.specs.declared.failure.Fault.{Fault}
use Rattle.keel_disk.specs.Directory.{Named}
use Rattle.keel_disk.specs.State.{State as Disk}
use Rattle.keel_disk.specs.Sound.{IsOneToOne}
use Rattle.keel_disk.specs.Step.{done}
use Rattle.keel_disk.specs.Told.{Told}
use Rattle.keel_disk.proofs.Staying.{one_stays}
use Rattle.keel_machine.specs.declared.steps.ResumeStep.TheVariants as step
use Rattle.keel_machine.specs.Resuming.{Makes, MadeCall, resume_ready, act_done, call_done, call_failed}
use Rattle.keel_machine.specs.States.{State, Footing, Known, Story, Resumption, is_open, is_left}
use Rattle.keel_draft.specs.Drafts.{Draft}
use Rattle.keel_resume.specs.Plans.{Act, change_of, failure_of}
use Rattle.keel_recovery.specs.BootTurns.{BootCallKeeps, GoesOn}
use Rattle.keel_recovery.specs.Crashing.{InsideCall}
use Rattle.keel_recovery.specs.Machine.{KeptBy, IsCovered, CrashesWithin, ResumesAreSafe}
use Rattle.keel_recovery.specs.Standing.{ReadsIn, Stands}
use Rattle.keel_recovery.proofs.Ordering.{went_well}
use Rattle.keel_recovery.proofs.BootRolls.{reads_story}
use Rattle.keel_recovery.proofs.Covered.{OpenBy, covered_by}
use Rattle.keel_recovery.proofs.Inside.{call_leaves_prefix}
use Rattle.keel_recovery.proofs.Kept.{boot_stands}
use Rattle.keel_recovery.proofs.ResumeCalls.{done_is, failed_is}
use Rattle.keel_recovery.proofs.ResumeTurns.{InJob, in_job, names_given}
use Rattle.keel_recovery.proofs.SafeSteps.{within}
use Rattle.keel_recovery.proofs.Stands.{keeping_stands}

-- what reads as the story behind a call reads as the one before it: behind a clear nothing of it may be lost
reads_before : (act : Act) (running : Resumption) (later : List Act) (at : State) (image : Named (List ℕ)) → at.story.floor ≤ length at.story.log
    → ReadsIn (act_done act running later at).story (act_done act running later at).story.floor image → ReadsIn at.story at.story.floor image
reads_before act running [] at image within reads = reads_story at.story at.story.floor within image reads
reads_before act running (next ∷ later) at image within reads = reads

-- the story behind a step's answer
abbrev story_behind : State → List Draft → Act → Option Fault → Story
story_behind s drafts act None = (call_done drafts s).story
story_behind s drafts act (Some fault) = (call_failed drafts (failure_of act fault) s).story

module _ (boots : BootCallKeeps) (s : State) (drafts : List Draft) (held : Option ℕ) (running : Resumption) (act : Act) (later : List Act) (makes : Makes s drafts held running act later) where
  behind_stands : (before after : Disk) → InJob s drafts before → done (change_of running.job s.numbers.next_file act) before ≡ Some after → Stands after (call_done drafts s).story
  behind_stands before after h step =
      let change = change_of running.job s.numbers.next_file act in
      by later (one_stays change went_well before after (names_given boots s drafts held running act later makes s.device before h) h.one_to_one step)
      (boots s drafts held running act later None before after h.one_to_one h.cuts h.kept makes step)
    where
      by : (calls : List Act) → IsOneToOne after → GoesOn calls (call_done drafts s) after → Stands after (call_done drafts s).story
      by [] one is = keeping_stands (is.way ∷ []) _ _ _ _ _ after one is.keeps
      by (next ∷ calls) one is = boot_stands after (call_done drafts s) one is

  inside : (failed : Option Fault) (before : Disk) → InJob s drafts before → InsideCall before (change_of running.job s.numbers.next_file act) s.story (story_behind s drafts act failed)
  inside failed before h image mid =
      ⊎_elim (λ was. inl was) (λ behind. inr (by failed behind))
      (call_leaves_prefix before (change_of running.job s.numbers.next_file act) s.story (call_done drafts s).story h.stands (λ after did. behind_stands before after h did) image mid)
    where
      by : (failed : Option Fault) → ReadsIn (call_done drafts s).story (call_done drafts s).story.floor image → ReadsIn (story_behind s drafts act failed) (story_behind s drafts act failed).floor image
      by None reads = reads
      by (Some fault) reads =
          let at = resume_ready drafts s in
          let failed_story : (call_failed drafts (failure_of act fault) s).story ≡ at.story = ap (λ (n : State). n.story) (failed_is s drafts held running act later (failure_of act fault) makes) in
          subst (λ (story : Story). ReadsIn story story.floor image) (sym failed_story)
          (reads_before act running later at image h.kept.floor_within (subst (λ (n : State). ReadsIn n.story n.story.floor image) (done_is s drafts held running act later makes) reads))

made_safe : BootCallKeeps → (s next : State) (drafts : List Draft) (held : Option ℕ) (running : Resumption) (act : Act) (later : List Act) (failed : Option Fault)
    → is_open s.mode.phase ≡ true → IsCovered s → next.story ≡ story_behind s drafts act failed → MadeCall s drafts held running act later failed next.device
    → CrashesWithin s.footing s.device.told next.device.told s.story next.story
made_safe boots s next drafts held running act later failed is h story made =
    within s.footing failed (change_of running.job s.numbers.next_file act) s.device.told next.device.told s s.story next.story (covered_by s h) made.calls.step
    (λ told known tells.
    let kept : KeptBy s.mode.phase (is_left s.mode.left) told.state s = subst (λ (t : Option Told). OpenBy Known t s) tells (subst (λ (f : Footing). OpenBy f s.device.told s) known (covered_by s h)) in
    subst (λ (behind : Story). InsideCall told.state (change_of running.job s.numbers.next_file act) s.story behind) (sym story)
    (inside boots s drafts held running act later made.makes failed told.state (in_job s drafts held running act later made.makes s.mode.phase (is_left s.mode.left) told.state refl is kept)))

pub resumes_are_safe : BootCallKeeps → ResumesAreSafe
resumes_are_safe boots s next drafts held (step.Moved job call) is turn h =
    made_safe boots s next drafts held turn.0.running turn.0.act (turn.0.next ∷ turn.0.later) None is h (ap (λ (n : State). n.story) turn.1) turn.0.made
resumes_are_safe boots s next drafts held (step.Cleared job steps) is turn h =
    made_safe boots s next drafts held turn.0.running turn.0.act [] None is h (ap (λ (n : State). n.story) turn.1) turn.0.made
resumes_are_safe boots s next drafts held (step.Failed failure) is turn h =
    made_safe boots s next drafts held turn.0.running turn.0.act turn.0.later (Some turn.0.fault) is h
    (ap (λ (n : State). n.story) turn.1 ∙ ap (λ (f : Failure). (call_failed drafts f s).story) turn.0.failure_is) turn.0.made
resumes_are_safe boots s next drafts held made is turn h = tt
