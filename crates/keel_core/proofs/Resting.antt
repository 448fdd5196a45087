-- A step that rests.
use Rattle.std.proofs.Common.{◌≡◌, ℕ, ◌<◌, [], ◌∷◌, length, Option, Some, None, refl, sym, ap, subst, ◌∙◌, arith, option_map, ◌==◌, ◌&&◌, ◌^◌, nat_le}
use Rattle.keel_base.specs.declared.failure.Failure.{Failure}
use Rattle.keel_disk.specs.Seen.{IsQuiet}
use Rattle.keel_machine.specs.declared.steps.WriteStep.{WriteStep}
use Rattle.keel_machine.specs.declared.steps.WriteStep.TheVariants as step
use Rattle.keel_machine.specs.States.{State}
use Rattle.keel_machine.specs.Turns.{Answers, after, Writing}
use Rattle.keel_machine.specs.Tests.{first_some, when, differing}
use Rattle.keel_machine.specs.Writing.{write_rest}
use Rattle.keel_base.specs.declared.failure.Counter.TheVariants.{FileNumber, JobNumber}
use Rattle.keel_core.specs.Flights.{FlightShown}
use Rattle.keel_core.specs.Steps.{rested}
use Rattle.keel_core.specs.Views.{Beyond, CoreView, Fits, StandsFor, TakesTurn, ComesNearer, IsRest, state_of, rest_of, Finds, calls_left}
use Rattle.keel_core.proofs.Calling.{quiet_same}
use Rattle.keel_core.proofs.Failing.{stopping_same}
use Rattle.keel_core.proofs.Segmenting.{active_weighs, as_many}

-- ---- what it answers

-- the answer of a step without a group, by the failure that stops writes, the weight of the active segment, and how many
-- others there are
abbrev rest_with : CoreView → Option ℕ → Option Failure → ℕ → ℕ → Option WriteStep
rest_with view held stopping weight others = first_some (
    option_map (λ job. step.Cancelled job view.job) (differing held view.job)
    ∷ first_some (
    when (length view.waiting == 0) step.Idle
    ∷ option_map (λ failure. step.Turned (length view.waiting) failure) stopping
    ∷ when (nat_le view.options.write_buffer weight && nat_le view.options.max_immutables others) (step.Full weight others)
    ∷ when (nat_le (2 ^ 56) view.job) (step.Spent JobNumber)
    ∷ when (nat_le view.options.write_buffer weight && nat_le (2 ^ 56) view.next_file) (step.Spent FileNumber)
    ∷ [])
    ∷ [])

-- what a step answers without a call depends on what the core shows
same_rest : (view : CoreView) (group : Option FlightShown) (beyond : Beyond) (held : Option ℕ) → Fits (record view { group = group }) beyond
    → write_rest (state_of (record view { group = group }) beyond) held ≡ rest_of (record view { group = group }) held
same_rest view None beyond held fits =
    let weight = active_weighs beyond.in_tables view.immutable beyond.immutable view.rows beyond.active _ fits.segments in
    let others = as_many beyond.in_tables view.immutable beyond.immutable view.rows beyond.active _ fits.segments in
    let stopping = stopping_same view.options beyond.failures view.handler fits.handled in
    λ i. rest_with (record view { group = None }) held (stopping i) (weight i) (others i)
same_rest view (Some flight) beyond held fits = refl

pub rest_same : (view : CoreView) (s : State) (held : Option ℕ) → StandsFor view s → write_rest s held ≡ rest_of view held
rest_same view s held stands = ap (λ (t : State). write_rest t held) stands.state_is ∙ same_rest view view.group stands.beyond held stands.fits

turned_stands : (view : CoreView) (batches : ℕ) (failure : Failure) (s : State) → StandsFor view s
    → StandsFor (rested (step.Turned batches failure) view) (after s (Writing None (step.Turned batches failure)) view.device)
turned_stands view batches failure s stands = record {
  beyond = stands.beyond;
  state_is = ap (λ (t : State). after t (Writing None (step.Turned batches failure)) view.device) stands.state_is;
  fits = record { story = stands.fits.story; segments = stands.fits.segments; tables = stands.fits.tables; opened = stands.fits.opened; leads = stands.fits.leads; handled = stands.fits.handled; flushes = stands.fits.flushes };
}

pub same_state : (view : CoreView) (s : State) → StandsFor view s → (record s { device = view.device }) ≡ s
same_state view s stands = subst (λ (t : State). (record t { device = view.device }) ≡ t) (sym stands.state_is) refl

pub quiet_in : (view : CoreView) (s : State) → StandsFor view s → IsQuiet s.device None view.device
quiet_in view s stands = subst (λ (t : State). IsQuiet t.device None view.device) (sym stands.state_is) (quiet_same view.device)

rest_turns : (view : CoreView) (made : WriteStep) (s : State) (held : Option ℕ) → IsRest made → StandsFor view s → write_rest s held ≡ Some made
    → Answers s (Writing held made) (rested made view).device × StandsFor (rested made view) (after s (Writing held made) (rested made view).device)
rest_turns view step.Idle s held rests stands is = (record { first = is; quiet = quiet_in view s stands }, subst (StandsFor view) (sym (same_state view s stands)) stands)
rest_turns view (step.Turned batches failure) s held rests stands is = (record { first = is; quiet = quiet_in view s stands }, turned_stands view batches failure s stands)
rest_turns view (step.Full active immutables) s held rests stands is = (record { first = is; quiet = quiet_in view s stands }, subst (StandsFor view) (sym (same_state view s stands)) stands)
rest_turns view (step.Spent counter) s held rests stands is = (record { first = is; quiet = quiet_in view s stands }, subst (StandsFor view) (sym (same_state view s stands)) stands)
rest_turns view (step.Cancelled job current) s held rests stands is = (record { first = is; quiet = quiet_in view s stands }, subst (StandsFor view) (sym (same_state view s stands)) stands)
rest_turns view (step.Moved job call) s held rests stands is = absurd rests
rest_turns view (step.Done job seq batches) s held rests stands is = absurd rests
rest_turns view (step.Failed failure) s held rests stands is = absurd rests
rest_turns view step.OutOfMemory s held rests stands is = absurd rests

pub rest_goes : (view : CoreView) (made : WriteStep) (held : Option ℕ) → IsRest made → Some made ≡ rest_of view held
    → TakesTurn view (Writing held made) (rested made view)
rest_goes view made held rests is = record { goes = λ s stands. rest_turns view made s held rests stands (rest_same view s held stands ∙ sym is) }

turned_nearer : (view : CoreView) (batches : ℕ) (failure : Failure) → 0 < length view.waiting → calls_left (rested (step.Turned batches failure) view) < calls_left view
turned_nearer view batches failure some = omega (arith, some)

pub rest_nearer : (view : CoreView) (made : WriteStep) → IsRest made → Finds view made → ComesNearer view made (rested made view)
rest_nearer view step.Idle rests finds = finds
rest_nearer view (step.Turned batches failure) rests finds = turned_nearer view batches failure finds
rest_nearer view (step.Full active immutables) rests finds = tt
rest_nearer view (step.Spent counter) rests finds = tt
rest_nearer view (step.Cancelled job current) rests finds = tt
rest_nearer view (step.Moved job call) rests finds = absurd rests
rest_nearer view (step.Done job seq batches) rests finds = absurd rests
rest_nearer view (step.Failed failure) rests finds = absurd rests
rest_nearer view step.OutOfMemory rests finds = absurd rests
