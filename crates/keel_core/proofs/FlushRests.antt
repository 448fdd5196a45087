-- A flush step that rests, and want of memory.
use Rattle.std.proofs.Common.{◌≡◌, ℕ, ◌<◌, ◌^◌, ◌&&◌, ◌||◌, not, nat_le, Bool, true, false, List, [], ◌∷◌, Option, Some, None, refl, sym, ap, subst, ◌∙◌, option_map}
use Rattle.std.proofs.lemmas.Bool.{leb-false}
use Rattle.std.specs.Prelude.{is_some, if◌then◌else◌}
use Rattle.keel_base.specs.declared.failure.Counter.TheVariants.{FileNumber, JobNumber}
use Rattle.keel_base.specs.declared.failure.Failure.{Failure}
use Rattle.keel_base.specs.declared.options.Options.{Options}
use Rattle.keel_disk.specs.Seen.{IsQuiet, Seen}
use Rattle.keel_draft.specs.Drafts.{Draft}
use Rattle.keel_flush.specs.Plans.{Job, draws_next, left_of}
use Rattle.keel_handler.specs.Failures.{severity, standing_of, standing_severity, stopping_of, where_severe}
use Rattle.keel_handler.specs.Recovery.{HandlerState, stops_work}
use Rattle.keel_machine.specs.declared.steps.JobStep.{JobStep}
use Rattle.keel_machine.specs.declared.steps.JobStep.TheVariants as step
use Rattle.keel_machine.specs.Flushing as machine
use Rattle.keel_machine.specs.Flushing.{flush_rest, is_work_stopped}
use Rattle.keel_machine.specs.States.{State}
use Rattle.keel_machine.specs.Tests.{first_some, when, differing}
use Rattle.keel_machine.specs.Turns.{Answers, after}
use Rattle.keel_machine.specs.Turns as turns
use Rattle.keel_core.specs.Flushes.{FlushesTurn, IsRest, flush_rest_of, may_flush}
use Rattle.keel_core.specs.Views.{Beyond, BootShown, ToStart, Started, Running, Cleared, Closed, CoreView, Fits, IsHandlerOf, StandsFor, has_booted, is_closed, phase_of, state_of}
use Rattle.keel_core.proofs.Resting.{quiet_in, same_state}
use Rattle.keel_core.proofs.Segmenting.{as_many}

-- ---- background work

severe_stops : (paranoid : Bool) (standing : Option Failure) → is_some (where_severe paranoid standing) ≡ nat_le 2 (standing_severity paranoid standing)
severe_stops paranoid None = refl
severe_stops paranoid (Some failure) =
    elim (nat_le 2 (severity paranoid failure)) as (λ b. is_some (if b then Some failure else None) ≡ b) [ true ↦ refl | false ↦ refl ]

off_is : (auto given_up : Bool) → given_up ≡ false → not auto ≡ (not auto || given_up)
off_is true given_up none = sym none
off_is false given_up none = refl

pub stopped_by : (options : Options) (failures : List Failure) (handler : HandlerState) → IsHandlerOf options failures handler
    → (is_some (stopping_of options.paranoid failures) || (is_some (standing_of options.paranoid failures) && not options.auto)) ≡ stops_work handler
stopped_by options failures handler h =
    (λ i. is_some (where_severe (sym h.paranoid i) (sym h.standing i)) || (is_some (sym h.standing i) && not (sym h.auto i)))
    ∙ (λ i. severe_stops handler.paranoid handler.standing i || (is_some handler.standing && off_is handler.auto handler.given_up h.on i))

writes_in : (boot : BootShown) → machine.writes (phase_of boot) ≡ (has_booted boot && not (is_closed boot))
writes_in ToStart = refl
writes_in (Started true) = refl
writes_in (Started false) = refl
writes_in (Running true running) = refl
writes_in (Running false running) = refl
writes_in Cleared = refl
writes_in (Closed true) = refl
writes_in (Closed false) = refl

may_same : (view : CoreView) (beyond : Beyond) → Fits view beyond → machine.may_flush (state_of view beyond) ≡ may_flush view
may_same view beyond fits = λ i.
    writes_in view.boot i
    && (not (stopped_by view.options beyond.failures view.handler fits.handled i)
    && nat_le 1 (as_many beyond.in_tables view.immutable beyond.immutable view.rows beyond.active _ fits.segments i))

-- ---- what it answers

nested : (c i j f : Option JobStep) → first_some (c ∷ i ∷ j ∷ f ∷ []) ≡ first_some (c ∷ i ∷ first_some (j ∷ f ∷ []) ∷ [])
nested (Some c) i j f = refl
nested None (Some i) j f = refl
nested None None (Some j) f = refl
nested None None None (Some f) = refl
nested None None None None = refl

alone : (c i f : Option JobStep) → first_some (c ∷ i ∷ None ∷ f ∷ []) ≡ first_some (c ∷ i ∷ first_some (f ∷ []) ∷ [])
alone (Some c) i f = refl
alone None (Some i) f = refl
alone None None (Some f) = refl
alone None None None = refl

same_rest : (view : CoreView) (flush : Option Job) (beyond : Beyond) (draft : Draft) (held : Option ℕ) → Fits (record view { flush = flush }) beyond
    → flush_rest (state_of (record view { flush = flush }) beyond) draft held ≡ flush_rest_of (record view { flush = flush }) held
same_rest view None beyond draft held fits =
    ap (λ (b : Bool). first_some (
    option_map (λ (job : ℕ). step.Cancelled job view.flush_job) (differing held view.flush_job)
    ∷ when (not b) step.Idle
    ∷ when (nat_le (2 ^ 56) view.flush_job) (step.Spent JobNumber)
    ∷ when (nat_le (2 ^ 56) view.next_file) (step.Spent FileNumber)
    ∷ [])) (may_same (record view { flush = None }) beyond fits)
    ∙ nested (option_map (λ (job : ℕ). step.Cancelled job view.flush_job) (differing held view.flush_job)) (when (not (may_flush (record view { flush = None }))) step.Idle)
    (when (nat_le (2 ^ 56) view.flush_job) (step.Spent JobNumber)) (when (nat_le (2 ^ 56) view.next_file) (step.Spent FileNumber))
same_rest view (Some job) beyond draft held fits =
    ap (λ (b : Bool). first_some (
    option_map (λ (job : ℕ). step.Cancelled job view.flush_job) (differing held view.flush_job)
    ∷ when (not b) step.Idle
    ∷ None
    ∷ when (draws_next (left_of job) && nat_le (2 ^ 56) view.next_file) (step.Spent FileNumber)
    ∷ [])) (may_same (record view { flush = Some job }) beyond fits)
    ∙ alone (option_map (λ (job : ℕ). step.Cancelled job view.flush_job) (differing held view.flush_job)) (when (not (may_flush (record view { flush = Some job }))) step.Idle)
    (when (draws_next (left_of job) && nat_le (2 ^ 56) view.next_file) (step.Spent FileNumber))

pub flush_rest_same : (view : CoreView) (s : State) (draft : Draft) (held : Option ℕ) → StandsFor view s → flush_rest s draft held ≡ flush_rest_of view held
flush_rest_same view s draft held stands = ap (λ (t : State). flush_rest t draft held) stands.state_is ∙ same_rest view view.flush stands.beyond draft held stands.fits

-- where it makes one that draws a number, that is below the end
file_left : (cancelled idle : Option JobStep) (draws spent : Bool) → first_some (cancelled ∷ idle ∷ first_some (when (draws && spent) (step.Spent FileNumber) ∷ []) ∷ []) ≡ None → draws ≡ true → spent ≡ false
file_left (Some c) idle draws spent none is = absurd (cc none)
file_left None (Some i) draws spent none is = absurd (cc none)
file_left None None false spent none is = absurd (cc is)
file_left None None true true none is = absurd (cc none)
file_left None None true false none is = refl

pub draws_below : (view : CoreView) (held : Option ℕ) (flush : Option Job) (job : Job) → flush ≡ Some job → flush_rest_of (record view { flush = flush }) held ≡ None → draws_next (left_of job) ≡ true → view.next_file < 2 ^ 56
draws_below view held None job is none draws = absurd (cc is)
draws_below view held (Some other) job is none draws =
    let same : other ≡ job = cc is in
    leb-false (2 ^ 56) view.next_file
    (file_left (option_map (λ (job : ℕ). step.Cancelled job view.flush_job) (differing held view.flush_job)) (when (not (may_flush (record view { flush = Some other }))) step.Idle)
    (draws_next (left_of other)) (nat_le (2 ^ 56) view.next_file) none (ap (λ (j : Job). draws_next (left_of j)) same ∙ draws))

-- ---- no call is made

-- where none is made there is no table to speak of
abbrev no_table : Draft
no_table = record { first = 0; last = 0; blocks = [] }

rest_turns : (view : CoreView) (made : JobStep) (s : State) (held : Option ℕ) → IsRest made → StandsFor view s → flush_rest s no_table held ≡ Some made
    → Answers s (turns.Flushing no_table held made) view.device × StandsFor view (after s (turns.Flushing no_table held made) view.device)
rest_turns view step.Idle s held rests stands is = (record { first = is; quiet = quiet_in view s stands }, subst (StandsFor view) (sym (same_state view s stands)) stands)
rest_turns view (step.Spent counter) s held rests stands is = (record { first = is; quiet = quiet_in view s stands }, subst (StandsFor view) (sym (same_state view s stands)) stands)
rest_turns view (step.Cancelled job current) s held rests stands is = (record { first = is; quiet = quiet_in view s stands }, subst (StandsFor view) (sym (same_state view s stands)) stands)
rest_turns view (step.Moved job call) s held rests stands is = absurd rests
rest_turns view (step.Done job) s held rests stands is = absurd rests
rest_turns view (step.Failed failure) s held rests stands is = absurd rests
rest_turns view step.OutOfMemory s held rests stands is = absurd rests

pub flush_rests_goes : (view : CoreView) (made : JobStep) (held : Option ℕ) → IsRest made → Some made ≡ flush_rest_of view held → FlushesTurn view held made view
flush_rests_goes view made held rests is = record {
  draft = no_table;
  turn = record { goes = λ s stands. rest_turns view made s held rests stands (flush_rest_same view s no_table held stands ∙ sym is) };
}

pub flush_wants : (view : CoreView) (device : Seen) (held : Option ℕ) → flush_rest_of view held ≡ None → IsQuiet view.device None device
    → FlushesTurn view held step.OutOfMemory (record view { device = device })
flush_wants view device held none quiet = record {
  draft = no_table;
  turn = record {
    goes = λ s stands. (
      record { no_rest = flush_rest_same view s no_table held stands ∙ none; quiet = subst (λ (t : State). IsQuiet t.device None device) (sym stands.state_is) quiet },
      record {
        beyond = stands.beyond;
        state_is = ap (λ (t : State). record t { device = device }) stands.state_is;
        fits = record {
          story = stands.fits.story;
          segments = stands.fits.segments;
          tables = stands.fits.tables;
          opened = stands.fits.opened;
          leads = stands.fits.leads;
          handled = stands.fits.handled;
          flushes = stands.fits.flushes;
        };
      },
    );
  };
}
