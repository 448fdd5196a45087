-- A group that is formed with its first call: the step is that of the group in flight.
use Rattle.std.proofs.Common.{◌≡◌, ◌≢◌, ℕ, ◌≤◌, ◌&&◌, nat_le, max, Bool, true, false, List, [], ◌∷◌, Option, Some, None, Ok, Err, refl, sym, ap, subst, ◌∙◌, arith}
use Rattle.keel_base.specs.declared.failure.Counter.TheVariants.{FileNumber}
use Rattle.keel_base.specs.declared.failure.Fault.{Fault}
use Rattle.keel_base.specs.declared.op.Batch.{Batch}
use Rattle.keel_group.specs.Queue.{Ticketed}
use Rattle.keel_group.specs.Forming.{next_size, next_batches, wants_sync}
use Rattle.keel_disk.specs.declared.change.Change.{Change}
use Rattle.keel_disk.specs.declared.error.DiskError.TheVariants as error
use Rattle.keel_disk.specs.Seen.{Calls, Seen}
use Rattle.keel_machine.specs.declared.steps.WriteStep.{WriteStep}
use Rattle.keel_machine.specs.declared.steps.WriteStep.TheVariants as step
use Rattle.keel_machine.specs.Admission.{last_seq}
use Rattle.keel_machine.specs.Admission.{is_full as full_machine}
use Rattle.keel_machine.specs.Outside.{as_answer}
use Rattle.keel_machine.specs.States.{State, Group, Progress, left_of, with_device}
use Rattle.keel_machine.specs.Tests.{first_some, when}
use Rattle.keel_machine.specs.Turns.{Answers, after, Writing}
use Rattle.keel_machine.specs.Writing as machine
use Rattle.keel_machine.specs.Writing.{draws, group_plan, nothing_made, ready, write_rest}
use Rattle.keel_machine.specs.WritingAfter.{WriteAnswers, group_done, group_failed, with_group, write_after}
use Rattle.keel_core.specs.declared.flight.Act.{Act}
use Rattle.keel_core.specs.declared.flight.Act.TheVariants.{CloseLog, MakeLog, SyncDirectory, AddRecords, SyncLog}
use Rattle.keel_core.specs.Flights.{FlightShown, group_of, made_before, made_log}
use Rattle.keel_core.specs.Queues.{batches_next, first_act, next_flight}
use Rattle.keel_core.specs.Steps.{IsMade, IsRefused, change_for, formed, log_for}
use Rattle.keel_core.specs.Views.{Beyond, CoreView, Fits, StandsFor, MakesCall, is_full, state_of}
use Rattle.keel_core.proofs.Segmenting.{active_weighs}

-- ---- it is enough to show it of the state of what is beyond the core

pub by_story : (old new : CoreView) (made : WriteStep)
    → ((beyond : Beyond) (held : Option ℕ) → Fits old beyond → write_rest (state_of old beyond) held ≡ None
    → Answers (state_of old beyond) (Writing held made) new.device × StandsFor new (after (state_of old beyond) (Writing held made) new.device))
    → MakesCall old made new
by_story old new made shown = record {
  goes = λ s held stands.
      subst (λ (t : State). write_rest t held ≡ None → Answers t (Writing held made) new.device × StandsFor new (after t (Writing held made) new.device)) (sym stands.state_is)
      (shown stands.beyond held stands.fits);
}

-- ---- a group takes some batch

at_least_one : (n : ℕ) → 1 ≤ max 1 n
at_least_one n = omega arith

pub next_some : (first : Ticketed) (rest : List Ticketed) → 1 ≤ next_size (first ∷ rest)
next_some first rest = at_least_one _

-- ---- the step is that of the group in flight

-- a call was made
abbrev pub IsCall : WriteStep → Type 0
IsCall (step.Moved job call) = Unit {0}
IsCall (step.Done job seq batches) = Unit {0}
IsCall (step.Failed failure) = Unit {0}
IsCall _ = ⊥

module _ (s r : State) (p : ready s ≡ ready r) (same : r.device ≡ s.device) (held : Option ℕ) (none : write_rest s held ≡ None) where
  answers_so : (made : WriteStep) (device : Seen) → IsCall made → WriteAnswers r None made device → WriteAnswers s held made device
  answers_so (step.Moved job call) device is m = record {
    group = m.group;
    act = m.act;
    next = m.next;
    later = m.later;
    made = record {
      makes = record { no_rest = none; group_is = ap (λ (t : State). t.jobs.write.running) p ∙ m.made.makes.group_is; next = m.made.makes.next };
      calls = subst (λ (t : State). Calls s.device (machine.change_of t m.group m.act) (as_answer None) device) (sym p)
          (subst (λ (d : Seen). Calls d (machine.change_of (ready r) m.group m.act) (as_answer None) device) same m.made.calls);
    };
    job_is = m.job_is ∙ ap (λ (t : State). t.jobs.write.number) (sym p);
    call_is = m.call_is;
  }
  answers_so (step.Done job seq batches) device is m = record {
    group = m.group;
    act = m.act;
    made = record {
      makes = record { no_rest = none; group_is = ap (λ (t : State). t.jobs.write.running) p ∙ m.made.makes.group_is; next = m.made.makes.next };
      calls = subst (λ (t : State). Calls s.device (machine.change_of t m.group m.act) (as_answer None) device) (sym p)
          (subst (λ (d : Seen). Calls d (machine.change_of (ready r) m.group m.act) (as_answer None) device) same m.made.calls);
    };
    job_is = m.job_is ∙ ap (λ (t : State). t.jobs.write.number) (sym p);
    seq_is = m.seq_is ∙ ap (λ (t : State). last_seq (group_done t.jobs.write.running t)) (sym p);
    batches_is = m.batches_is;
  }
  answers_so (step.Failed failure) device is m = record {
    group = m.group;
    act = m.act;
    later = m.later;
    fault = m.fault;
    made = record {
      makes = record { no_rest = none; group_is = ap (λ (t : State). t.jobs.write.running) p ∙ m.made.makes.group_is; next = m.made.makes.next };
      calls = subst (λ (t : State). Calls s.device (machine.change_of t m.group m.act) (as_answer (Some m.fault)) device) (sym p)
          (subst (λ (d : Seen). Calls d (machine.change_of (ready r) m.group m.act) (as_answer (Some m.fault)) device) same m.made.calls);
    };
    failure_is = m.failure_is;
  }
  answers_so step.Idle device is m = absurd is
  answers_so (step.Turned batches failure) device is m = absurd is
  answers_so (step.Full active immutables) device is m = absurd is
  answers_so (step.Spent counter) device is m = absurd is
  answers_so (step.Cancelled job current) device is m = absurd is
  answers_so step.OutOfMemory device is m = absurd is

  behind_so : (made : WriteStep) → IsCall made → write_after r made ≡ write_after s made
  behind_so (step.Moved job call) is = ap (λ (t : State). group_done t.jobs.write.running t) (sym p)
  behind_so (step.Done job seq batches) is = ap (λ (t : State). group_done t.jobs.write.running t) (sym p)
  behind_so (step.Failed failure) is = ap (λ (t : State). group_failed t.jobs.write.running failure t) (sym p)
  behind_so step.Idle is = absurd is
  behind_so (step.Turned batches failure) is = absurd is
  behind_so (step.Full active immutables) is = absurd is
  behind_so (step.Spent counter) is = absurd is
  behind_so (step.Cancelled job current) is = absurd is
  behind_so step.OutOfMemory is = absurd is

-- a group begins with its plan
begins : (switches : Bool) → nothing_made ≡ record { made = made_before (first_act switches) switches; log = made_log (first_act switches) }
begins true = refl
begins false = refl

undrawn : (tickets : List ℕ) (batches : List Batch) (switches sync spent : Bool)
    → (draws (left_of (group_of (record { tickets = tickets; batches = batches; switches = switches; sync = sync; next = first_act switches }))) && spent) ≡ false
undrawn tickets batches true sync spent = refl
undrawn tickets batches false sync spent = refl

module _ (view : CoreView) (first : Ticketed) (rest : List Ticketed) where
  abbrev queue : List Ticketed
  queue = first ∷ rest

  abbrev pub before_group : CoreView
  before_group = record view { waiting = queue; group = None }

  abbrev pub in_group : CoreView
  in_group = formed before_group

  same_full : (beyond : Beyond) → Fits before_group beyond → full_machine (state_of before_group beyond) ≡ is_full view
  same_full beyond fits =
      ap (λ n. nat_le view.options.write_buffer n) (active_weighs beyond.in_tables view.immutable beyond.immutable view.rows beyond.active _ fits.segments)

  group_same : (beyond : Beyond) → Fits before_group beyond → machine.formed queue (state_of before_group beyond) ≡ group_of (next_flight queue (is_full view))
  group_same beyond fits =
      let full = same_full beyond fits in
      let at : Progress → Bool → Group = λ (progress : Progress) (switches : Bool). record {
        tickets = (next_flight queue switches).tickets;
        batches = next_batches queue;
        plan = group_plan switches (wants_sync (next_batches queue));
        progress = progress;
      } in
      ap (at nothing_made) full ∙ ap (λ (p : Progress). at p (is_full view)) (begins (is_full view))

  ready_same : (beyond : Beyond) → Fits before_group beyond → ready (state_of before_group beyond) ≡ ready (state_of in_group beyond)
  ready_same beyond fits = ap (λ (g : Group). with_group (Some g) (state_of in_group beyond)) (group_same beyond fits)

  from_formed : (made : WriteStep) (new : CoreView) → IsCall made → MakesCall in_group made new
      → (beyond : Beyond) (held : Option ℕ) → Fits before_group beyond → write_rest (state_of before_group beyond) held ≡ None
      → Answers (state_of before_group beyond) (Writing held made) new.device × StandsFor new (after (state_of before_group beyond) (Writing held made) new.device)
  from_formed made new is step_goes beyond held fits none =
      let s : State = state_of before_group beyond in
      let r : State = state_of in_group beyond in
      let stood : StandsFor in_group r = record { beyond = beyond; state_is = refl; fits = record { story = fits.story; segments = fits.segments; tables = fits.tables; opened = fits.opened; leads = fits.leads; handled = fits.handled; flushes = fits.flushes } } in
      let flight = next_flight queue (is_full view) in
      let rests : write_rest r None ≡ None =
      ap (λ (b : Bool). first_some (None ∷ first_some (when b (step.Spent FileNumber) ∷ []) ∷ []))
      (undrawn flight.tickets flight.batches (is_full view) flight.sync (machine.is_file_spent r)) in
      let inner = step_goes.goes r None stood rests in
      let same = ready_same beyond fits in (
        answers_so s r same refl held none made new.device is inner.0,
        subst (λ (t : State). StandsFor new (with_device new.device t)) (behind_so s r same refl held none made is) inner.1,
      )

  pub in_order : (made : WriteStep) (new : CoreView) → IsCall made → MakesCall in_group made new → MakesCall before_group made new
  in_order made new is step_goes = by_story before_group new made (from_formed made new is step_goes)

-- What the step does of the group in flight it does where the group is formed by it.
pub formed_goes : (view : CoreView) (waiting : List Ticketed) (group : Option FlightShown) (made : WriteStep) (new : CoreView) → waiting ≢ [] → group ≡ None → IsCall made
    → MakesCall (formed (record view { waiting = waiting; group = group })) made new → MakesCall (record view { waiting = waiting; group = group }) made new
formed_goes view [] group made new some none is step_goes = absurd (some refl)
formed_goes view (first ∷ rest) (Some group) made new some none is step_goes = absurd (cc none)
formed_goes view (first ∷ rest) None made new some none is step_goes = in_order view first rest made new is step_goes

-- ---- the call is that of the group that is formed behind it

same_change : (act : Act) (view : CoreView) (batches : List Batch) → change_for act view batches ≡ change_for act (formed view) batches
same_change CloseLog view batches = refl
same_change MakeLog view batches = refl
same_change (SyncDirectory log) view batches = refl
same_change AddRecords view batches = refl
same_change SyncLog view batches = refl

same_longer : (act : Act) (view : CoreView) (batches : List Batch) (device : Seen)
    → formed (record view { device = device; log = log_for act view batches }) ≡ record (formed view) { device = device; log = log_for act (formed view) batches }
same_longer CloseLog view batches device = refl
same_longer MakeLog view batches device = refl
same_longer (SyncDirectory log) view batches device = refl
same_longer AddRecords view batches device = refl
same_longer SyncLog view batches device = refl

next_same : (waiting : List Ticketed) (group : Option FlightShown) → group ≡ None → batches_next waiting group ≡ next_batches waiting
next_same waiting group none = ap (batches_next waiting) none

-- the call was made for the group that is formed behind it
pub made_formed : (act : Act) (old now : CoreView) → old.group ≡ None → IsMade act old now → IsMade act (formed old) (formed now)
made_formed act old now none made =
    let batches = next_same old.waiting old.group none in
    record {
      calls = subst (λ (c : Change). Calls old.device c (Ok tt) now.device) (ap (change_for act old) batches ∙ same_change act old (next_batches old.waiting)) made.calls;
      view_is =
          ap formed made.view_is
          ∙ ap (λ (l : List Batch). formed (record old { device = now.device; log = log_for act old l })) batches
          ∙ same_longer act old (next_batches old.waiting) now.device;
    }

pub refused_formed : (act : Act) (fault : Fault) (old now : CoreView) → old.group ≡ None → IsRefused act fault old now → IsRefused act fault (formed old) (formed now)
refused_formed act fault old now none made = record {
  calls = subst (λ (c : Change). Calls old.device c (Err (error.Fault fault)) now.device)
      (ap (change_for act old) (next_same old.waiting old.group none) ∙ same_change act old (next_batches old.waiting)) made.calls;
  view_is = ap formed made.view_is;
}
