-- A resume step that rests, and want of memory.
use Rattle.std.proofs.Common.{◌≡◌, ℕ, ◌^◌, ◌&&◌, not, nat_le, Bool, true, false, List, [], ◌∷◌, Option, Some, None, refl, sym, ap, subst, ◌∙◌, option_map}
use Rattle.keel_base.specs.declared.failure.Counter.TheVariants.{FileNumber, JobNumber}
use Rattle.keel_disk.specs.Seen.{IsQuiet, Seen}
use Rattle.keel_edit.specs.declared.edit.Added.{Added}
use Rattle.keel_machine.specs.declared.steps.ResumeStep.{ResumeStep}
use Rattle.keel_machine.specs.declared.steps.ResumeStep.TheVariants as step
use Rattle.keel_machine.specs.Resuming as machine
use Rattle.keel_machine.specs.Resuming.{resume_rest}
use Rattle.keel_machine.specs.Admission.{last_seq}
use Rattle.keel_machine.specs.States.{State, entries_in}
use Rattle.keel_machine.specs.Tests.{first_some, when, differing}
use Rattle.keel_machine.specs.Turns.{Answers, after}
use Rattle.keel_machine.specs.Turns as turns
use Rattle.keel_draft.specs.Drafts.{Draft}
use Rattle.keel_resume.specs.Jobs as jobs
use Rattle.keel_resume.specs.Plans.{Act, job_of, left_of}
use Rattle.keel_core.specs.Resuming.{IsRest, ResumesTurn, boot_rest_of}
use Rattle.keel_core.specs.Views.{Beyond, BootShown, ToStart, Started, Running, Cleared, Closed, CoreView, Fits, StandsFor, state_of, stopping_in}
use Rattle.keel_core.proofs.Failing.{stopping_same}
use Rattle.keel_core.proofs.Resting.{quiet_in, same_state}
use Rattle.std.specs.Prelude.{is_some}

pub same_draws : (acts : List Act) → machine.draws_next acts ≡ jobs.draws_next acts
same_draws [] = refl
same_draws (act ∷ later) = refl

pub begins_drawing : (live : List Added) (last : ℕ) (drafts : List Draft) → machine.draws_next (left_of (job_of live last drafts)) ≡ true
begins_drawing live last [] = refl
begins_drawing live last (draft ∷ drafts) = refl

nested : (c i j f : Option ResumeStep) → first_some (c ∷ first_some (i ∷ j ∷ []) ∷ f ∷ []) ≡ first_some (c ∷ first_some (i ∷ j ∷ f ∷ []) ∷ [])
nested (Some c) i j f = refl
nested None (Some i) j f = refl
nested None None (Some j) f = refl
nested None None None (Some f) = refl
nested None None None None = refl

alone : (c f : Option ResumeStep) → first_some (c ∷ None ∷ f ∷ []) ≡ first_some (c ∷ first_some (f ∷ []) ∷ [])
alone (Some c) f = refl
alone None (Some f) = refl
alone None None = refl

idle : (c f : Option ResumeStep) → first_some (c ∷ Some step.Idle ∷ f ∷ []) ≡ first_some (c ∷ Some step.Idle ∷ [])
idle (Some c) f = refl
idle None f = refl

twice : (b : Bool) → not (not b) ≡ b
twice true = refl
twice false = refl

abbrev cancels : CoreView → Option ℕ → Option ResumeStep
cancels view held = option_map (λ (job : ℕ). step.Cancelled job view.boot_job) (differing held view.boot_job)

abbrev file_gone : CoreView → Bool → Option ResumeStep
file_gone view draws = when (draws && nat_le (2 ^ 56) view.next_file) (step.Spent FileNumber)

same_rest : (view : CoreView) (boot : BootShown) (beyond : Beyond) (drafts : List Draft) (held : Option ℕ) → Fits (record view { boot = boot }) beyond
    → resume_rest (state_of (record view { boot = boot }) beyond) drafts held ≡ boot_rest_of (record view { boot = boot }) held
same_rest view ToStart beyond drafts held fits =
    let s : State = state_of (record view { boot = ToStart }) beyond in
    let stops = stopping_same view.options beyond.failures view.handler fits.handled in
    let spent = when (nat_le (2 ^ 56) view.boot_job) (step.Spent JobNumber) in
    (λ i. first_some (cancels view held ∷ first_some (when (not (not (is_some (stops i)))) step.Idle ∷ spent ∷ []) ∷ file_gone view (begins_drawing (entries_in beyond.levels) (last_seq s) drafts i) ∷ []))
    ∙ ap (λ (b : Bool). first_some (cancels view held ∷ first_some (when b step.Idle ∷ spent ∷ []) ∷ file_gone view true ∷ [])) (twice (is_some (stopping_in view)))
    ∙ nested (cancels view held) _ spent _
same_rest view (Started booted) beyond drafts held fits =
    let s : State = state_of (record view { boot = Started booted }) beyond in
    ap (λ (b : Bool). first_some (cancels view held ∷ None ∷ file_gone view b ∷ [])) (begins_drawing (entries_in beyond.levels) (last_seq s) drafts)
    ∙ alone (cancels view held) (file_gone view true)
same_rest view (Running booted running) beyond drafts held fits =
    ap (λ (b : Bool). first_some (cancels view held ∷ None ∷ file_gone view b ∷ [])) (same_draws (left_of running.job))
    ∙ alone _ _
same_rest view Cleared beyond drafts held fits = idle _ _
same_rest view (Closed booted) beyond drafts held fits = idle _ _

pub boot_rest_same : (view : CoreView) (s : State) (drafts : List Draft) (held : Option ℕ) → StandsFor view s → resume_rest s drafts held ≡ boot_rest_of view held
boot_rest_same view s drafts held stands = ap (λ (t : State). resume_rest t drafts held) stands.state_is ∙ same_rest view view.boot stands.beyond drafts held stands.fits

rest_turns : (view : CoreView) (made : ResumeStep) (s : State) (held : Option ℕ) → IsRest made → StandsFor view s → resume_rest s [] held ≡ Some made
    → Answers s (turns.Resuming [] held made) view.device × StandsFor view (after s (turns.Resuming [] held made) view.device)
rest_turns view step.Idle s held rests stands is = (record { first = is; quiet = quiet_in view s stands }, subst (StandsFor view) (sym (same_state view s stands)) stands)
rest_turns view (step.Spent counter) s held rests stands is = (record { first = is; quiet = quiet_in view s stands }, subst (StandsFor view) (sym (same_state view s stands)) stands)
rest_turns view (step.Cancelled job current) s held rests stands is = (record { first = is; quiet = quiet_in view s stands }, subst (StandsFor view) (sym (same_state view s stands)) stands)
rest_turns view (step.Moved job call) s held rests stands is = absurd rests
rest_turns view (step.Cleared job steps) s held rests stands is = absurd rests
rest_turns view (step.Failed failure) s held rests stands is = absurd rests
rest_turns view step.OutOfMemory s held rests stands is = absurd rests

pub boot_rests_goes : (view : CoreView) (made : ResumeStep) (held : Option ℕ) → IsRest made → Some made ≡ boot_rest_of view held → ResumesTurn view held made view
boot_rests_goes view made held rests is = record {
  drafts = [];
  turn = record { goes = λ s stands. rest_turns view made s held rests stands (boot_rest_same view s [] held stands ∙ sym is) };
}

pub boot_wants : (view : CoreView) (device : Seen) (held : Option ℕ) → boot_rest_of view held ≡ None → IsQuiet view.device None device
    → ResumesTurn view held step.OutOfMemory (record view { device = device })
boot_wants view device held none quiet = record {
  drafts = [];
  turn = record {
    goes = λ s stands. (
      record { no_rest = boot_rest_same view s [] held stands ∙ none; quiet = subst (λ (t : State). IsQuiet t.device None device) (sym stands.state_is) quiet },
      record {
        beyond = stands.beyond;
        state_is = ap (λ (t : State). record t { device = device }) stands.state_is;
        fits = record { story = stands.fits.story; segments = stands.fits.segments; tables = stands.fits.tables; opened = stands.fits.opened; leads = stands.fits.leads; handled = stands.fits.handled; flushes = stands.fits.flushes };
      },
    );
  };
}
