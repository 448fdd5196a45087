-- Where a boot makes a call.
use Rattle.std.proofs.Common.{◌≡◌, ℕ, Bool, true, false, List, [], ◌∷◌, Option, Some, None, refl, sym, ap, subst, ◌∙◌}
use Rattle.std.specs.Prelude.{◌&&◌, ◌||◌, is_some, not}
use Rattle.std.proofs.lemmas.Bool.{not-false}
use Rattle.keel_base.specs.declared.failure.Failure.{Failure}
use Rattle.keel_machine.specs.declared.steps.ResumeStep.{ResumeStep}
use Rattle.keel_machine.specs.declared.steps.ResumeStep.TheVariants as step
use Rattle.keel_machine.specs.Admission.{stopping}
use Rattle.keel_machine.specs.Resuming.{Makes, resume_rest, resume_ready, rests_of, rests_before_job, boot_is_to_start, is_to_start, started_or, boot_done, boot_failed, first_done, first_failed, act_done, act_failed, call_done, call_failed}
use Rattle.keel_machine.specs.States.{State, is_booting, Resumption}
use Rattle.keel_machine.specs.Tests.{first_some}
use Rattle.keel_machine.proofs.FirstTests.{none_when, none_of}
use Rattle.keel_draft.specs.Drafts.{Draft}
use Rattle.keel_resume.specs.Plans.{Act}

pub phase_ready : (running : Option Resumption) (drafts : List Draft) (s : State) → (started_or running drafts s).mode ≡ s.mode
phase_ready None drafts s = refl
phase_ready (Some running) drafts s = refl

pub footing_ready : (running : Option Resumption) (drafts : List Draft) (s : State) → (started_or running drafts s).footing ≡ s.footing
footing_ready None drafts s = refl
footing_ready (Some running) drafts s = refl

pub files_ready : (running : Option Resumption) (drafts : List Draft) (s : State) → (started_or running drafts s).numbers ≡ s.numbers
files_ready None drafts s = refl
files_ready (Some running) drafts s = refl

either_true : (a b : Bool) → (a || b) ≡ true → b ≡ false → a ≡ true
either_true true b h none = refl
either_true false b h none = absurd (never (sym h ∙ none))
  where
    never : true ≡ false → ⊥
    never e = cc

both_false : (a b : Bool) → a ≡ false → (a && b) ≡ false
both_false a b none = ap (λ x. x && b) none

-- without a job that runs a call is made where a resume was asked for, or the store boots
pub asked_for : (s : State) (drafts : List Draft) (held : Option ℕ) → resume_rest s drafts held ≡ None → s.jobs.resume.running ≡ None → is_booting s.mode.phase ≡ false → s.jobs.started ≡ true
asked_for s drafts held none runs not_boot =
    let here : first_some (rests_of s.jobs.resume.running s) ≡ None = (none_of (_ ∷ _ ∷ _ ∷ []) none).1.0 in
    let rests : first_some (rests_before_job s) ≡ None = subst (λ (running : Option Resumption). first_some (rests_of running s) ≡ None) runs here in
    let idle : ResumeStep = step.Idle in
    let starts : is_to_start s ≡ true = not-false (is_to_start s) (none_when (not (is_to_start s)) idle (none_of (rests_before_job s) rests).0) in
    either_true s.jobs.started (boot_is_to_start s) starts (both_false (is_booting s.mode.phase) (not (is_some (stopping s))) not_boot)

-- the state behind a call
pub done_is : (s : State) (drafts : List Draft) (held : Option ℕ) (running : Resumption) (act : Act) (later : List Act) → Makes s drafts held running act later
    → call_done drafts s ≡ act_done act running later (resume_ready drafts s)
done_is s drafts held running act later makes =
    ap (λ (r : Option Resumption). boot_done r (resume_ready drafts s)) makes.running_is ∙ ap (λ (l : List Act). first_done running l (resume_ready drafts s)) makes.next

pub failed_is : (s : State) (drafts : List Draft) (held : Option ℕ) (running : Resumption) (act : Act) (later : List Act) (failure : Failure) → Makes s drafts held running act later
    → call_failed drafts failure s ≡ act_failed act running.job failure (resume_ready drafts s)
failed_is s drafts held running act later failure makes =
    ap (λ (r : Option Resumption). boot_failed r failure (resume_ready drafts s)) makes.running_is ∙ ap (λ (l : List Act). first_failed running.job l failure (resume_ready drafts s)) makes.next
