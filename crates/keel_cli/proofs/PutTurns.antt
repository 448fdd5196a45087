-- The calls of a put, from one core to the next.
use Rattle.std.specs.Prelude.{nat_lt}
use Rattle.std.proofs.Common.{◌≡◌, ◌≢◌, ℕ, suc, ◌+◌, ◌*◌, ◌<◌, ◌≤◌, ◌==◌, not, Bool, true, false, List, [], ◌∷◌, Option, Some, None, option_map, length, refl, sym, ap, subst, ◌∙◌, inl, inr, arith, ltb-false}
use Rattle.std.proofs.lemmas.Bool.{leb-true}
use Rattle.keel_base.specs.declared.failure.Counter.TheVariants.{JobNumber, FileNumber}
use Rattle.keel_base.specs.declared.failure.Failure.{Failure}
use Rattle.keel_base.specs.declared.op.Batch.{Batch}
use Rattle.keel_machine.specs.declared.answers.Admit.{Admit}
use Rattle.keel_machine.specs.declared.answers.Admit.TheVariants as admit
use Rattle.keel_machine.specs.declared.answers.Part.TheVariants as part
use Rattle.keel_machine.specs.declared.answers.Outcome.{Outcome}
use Rattle.keel_machine.specs.declared.answers.Outcome.TheVariants as outcome
use Rattle.keel_machine.specs.declared.steps.WriteStep.{WriteStep}
use Rattle.keel_machine.specs.declared.steps.WriteStep.TheVariants as step
use Rattle.keel_machine.specs.Admission.{admit_after, stopping, queued}
use Rattle.keel_machine.specs.States.{State, Group, left_of}
use Rattle.keel_machine.specs.Tests.{first_some, when}
use Rattle.keel_machine.specs.Turns.{after, Admitting, Writing, TakingOutcome}
use Rattle.keel_machine.specs.Writing.{rests_of}
use Rattle.keel_core.specs.Flights.{FlightShown, running_of}
use Rattle.keel_core.specs.Views.{CoreView, StandsFor, TakesTurn, ComesNearer, calls_in, calls_left}
use Rattle.keel_script.specs.declared.reply.Reply.{Reply}
use Rattle.keel_script.specs.declared.reply.Reply.TheVariants as reply
use Rattle.std.proofs.Math.Logic.{∥∥₁_elim, ∥∥₁_map}
use mathlib.Core.HLevel.{⊥_prop}
use Rattle.keel_cli.specs.declared.holding.HeldJobs.{HeldJobs}
use Rattle.keel_cli.specs.Jobs.{driven, write_held}
use Rattle.keel_cli.specs.Stores.{AreTold, CoreLeads, StandsForSome}
use Rattle.keel_cli.specs.Puts.{IsStuck, Queues, PutRun, PutCut, QueueRun, QueueCut, refusal_replies, outcome_replies}
use Rattle.keel_cli.proofs.Sizes.{one_op_fits}
use Rattle.keel_cli.proofs.Tickets.{KnownIn, Known, Fine, stays_told, told_by, told_filter, queued_fine, write_fine, told_known, waits_known, told_open}

-- the calls so far: the batch was queued, and write steps were made while it waited
abbrev pub Gone : CoreView → HeldJobs → Batch → ℕ → CoreView → HeldJobs → Type 0
Gone first held batch ticket core jobs =
    (s : State) → StandsFor first s → CoreLeads core (λ now. (steps : List WriteStep) × Queues (driven s held) batch ticket steps (driven now jobs))

-- an admission that gives no ticket leaves the numbers that are held
module _ (old new : CoreView) (jobs : HeldJobs) (batch : Batch) where
  pub refused_run : (answer : Admit) (replies : List Reply) → TakesTurn old (Admitting batch answer) new → refusal_replies answer ≡ Some replies
      → (s : State) → StandsFor old s → CoreLeads new (λ next. PutRun (driven s jobs) batch replies (driven next jobs))
  refused_run answer replies turns prints s stands =
      let gone = turns.goes s stands in
      (after s (Admitting batch answer) new.device, gone.1, inl (record { answer = answer; turn = record { turn = (gone.0, refl); jobs = refl }; prints = prints }))

  pub refused_cut : TakesTurn old (Admitting batch admit.OutOfMemory) new → (s : State) → StandsFor old s
      → CoreLeads new (λ next. PutCut (driven s jobs) batch (driven next jobs))
  refused_cut turns s stands =
      let gone = turns.goes s stands in
      (after s (Admitting batch admit.OutOfMemory) new.device, gone.1, inl (record { turn = (gone.0, refl); jobs = refl }))

  -- of a batch that is to be queued alone
  pub queue_refused : (answer : Admit) (replies : List Reply) → TakesTurn old (Admitting batch answer) new → refusal_replies answer ≡ Some replies
      → (s : State) → StandsFor old s → CoreLeads new (λ next. QueueRun (driven s jobs) batch replies (driven next jobs))
  queue_refused answer replies turns prints s stands =
      let gone = turns.goes s stands in
      (after s (Admitting batch answer) new.device, gone.1, inl (record { answer = answer; turn = record { turn = (gone.0, refl); jobs = refl }; prints = prints }))

  pub queue_run : (ticket : ℕ) → TakesTurn old (Admitting batch (admit.Queued ticket)) new
      → (s : State) → StandsFor old s → CoreLeads new (λ next. QueueRun (driven s jobs) batch (reply.Queued ticket ∷ []) (driven next jobs))
  queue_run ticket turns s stands =
      let gone = turns.goes s stands in
      (after s (Admitting batch (admit.Queued ticket)) new.device, gone.1, inr (record { ticket = ticket; turn = record { turn = (gone.0, refl); jobs = refl }; prints = refl }))

  pub queue_cut : TakesTurn old (Admitting batch admit.OutOfMemory) new → (s : State) → StandsFor old s
      → CoreLeads new (λ next. QueueCut (driven s jobs) batch (driven next jobs))
  queue_cut turns s stands =
      let gone = turns.goes s stands in
      (after s (Admitting batch admit.OutOfMemory) new.device, gone.1, record { turn = (gone.0, refl); jobs = refl })

  pub queued_gone : (ticket : ℕ) → TakesTurn old (Admitting batch (admit.Queued ticket)) new → Gone old jobs batch ticket new jobs
  queued_gone ticket turns s stands =
      let gone = turns.goes s stands in
      let next = after s (Admitting batch (admit.Queued ticket)) new.device in
      (next, gone.1, ([], record { mid = next; queued = (gone.0, refl); waits = refl }))

admit_told : (s : State) (batch : Batch) (answer : Admit) → AreTold s.writing.outcomes → AreTold (admit_after s batch answer).writing.outcomes
admit_told s batch (admit.Queued ticket) told = told
admit_told s batch (admit.BadSize part size) told = told
admit_told s batch admit.Closing told = told
admit_told s batch admit.Booting told = told
admit_told s batch (admit.Stopped failure) told = told
admit_told s batch (admit.Spent counter) told = told
admit_told s batch (admit.Full active immutables) told = told
admit_told s batch (admit.QueueFull waiting) told = told
admit_told s batch admit.OutOfMemory told = told

pub refused_told : (old new : CoreView) (batch : Batch) (answer : Admit) → TakesTurn old (Admitting batch answer) new → StandsForSome old → StandsForSome new
refused_told old new batch answer turns told = stays_told old new (Admitting batch answer) turns (λ s. admit_told s batch answer) told

pub queued_known : (old new : CoreView) (batch : Batch) (ticket : ℕ) → TakesTurn old (Admitting batch (admit.Queued ticket)) new → StandsForSome old → KnownIn ticket new
queued_known old new batch ticket turns told =
    ∥∥₁_map told (λ (is : (s : State) × StandsFor old s × AreTold old.outcomes).
    let s = is.0 in
    let gone = turns.goes s is.1 in
    let fine = queued_fine batch s (told_by old s is.1 is.2) in
    let at = subst (λ (n : ℕ). Known n (queued batch s)) (sym gone.0.0.1) fine.known in
    (after s (Admitting batch (admit.Queued ticket)) new.device, gone.1, record { told = fine.told; known = at }))

pub settled_run : (first core new : CoreView) (held jobs : HeldJobs) (batch : Batch) (ticket : ℕ) (told : Outcome) (replies : List Reply)
    → Gone first held batch ticket core jobs → TakesTurn core (TakingOutcome ticket told) new → outcome_replies told ≡ Some replies
    → (s : State) → StandsFor first s → CoreLeads new (λ next. PutRun (driven s held) batch replies (driven next jobs))
settled_run first core new held jobs batch ticket told replies so_far turns prints s stands =
    let before = so_far s stands in
    let gone = turns.goes before.0 before.1 in (
      after before.0 (TakingOutcome ticket told) new.device,
      gone.1,
      inr (inl (record {
        ticket = ticket;
        steps = before.2.0;
        last = driven before.0 jobs;
        queues = before.2.1;
        outcome = told;
        taken = record { turn = (gone.0, refl); jobs = refl };
        prints = prints;
      })),
    )

pub taken_told : (core new : CoreView) (ticket : ℕ) (told : Outcome) → TakesTurn core (TakingOutcome ticket told) new → StandsForSome core → StandsForSome new
taken_told core new ticket told turns are_told =
    stays_told core new (TakingOutcome ticket told) turns (λ s. told_filter (λ entry. not (entry.0 == ticket)) s.writing.outcomes) are_told

pub never_unknown : (core new : CoreView) (ticket : ℕ) → TakesTurn core (TakingOutcome ticket outcome.Unknown) new → KnownIn ticket core → ⊥
never_unknown core new ticket turns known =
    ∥∥₁_elim known ⊥_prop (λ (is : CoreLeads core (Fine ticket)). told_known ticket is.0 is.2 (sym (turns.goes is.0 is.1).0.0))

pub never_closed : (core new : CoreView) (ticket : ℕ) → TakesTurn core (TakingOutcome ticket outcome.Closed) new → KnownIn ticket core → ⊥
never_closed core new ticket turns known =
    ∥∥₁_elim known ⊥_prop (λ (is : CoreLeads core (Fine ticket)). told_open ticket is.0 is.2 (sym (turns.goes is.0 is.1).0.0))

-- one more write step, behind which the ticket may still wait
abbrev pub Made : CoreView → HeldJobs → Batch → ℕ → WriteStep → CoreView → HeldJobs → Type 0
Made first held batch ticket made core jobs =
    (s : State) → StandsFor first s → CoreLeads core (λ now. (steps : List WriteStep) × Queues (driven s held) batch ticket (made ∷ steps) (driven now jobs))

pub step_gone : (first core mid new : CoreView) (held jobs behind : HeldJobs) (batch : Batch) (ticket : ℕ) (made : WriteStep)
    → Gone first held batch ticket core jobs → TakesTurn core (TakingOutcome ticket outcome.Waiting) mid → TakesTurn mid (Writing jobs.write made) new
    → behind ≡ record jobs { write = write_held made jobs.write } → Made first held batch ticket made new behind
step_gone first core mid new held jobs behind batch ticket made so_far takes writes is s stands =
    let before = so_far s stands in
    let taken = takes.goes before.0 before.1 in
    let same = after before.0 (TakingOutcome ticket outcome.Waiting) mid.device in
    let written = writes.goes same taken.1 in
    let next = after same (Writing jobs.write made) new.device in (
      next,
      written.1,
      (
        before.2.0,
        record {
          mid = before.2.1.mid;
          queued = before.2.1.queued;
          waits = (driven before.0 jobs, same, before.2.1.waits, (taken.0, refl), record { turn = (written.0, refl); jobs = is });
        },
      ),
    )

pub step_known : (core mid new : CoreView) (held : Option ℕ) (ticket : ℕ) (made : WriteStep)
    → KnownIn ticket core → TakesTurn core (TakingOutcome ticket outcome.Waiting) mid → TakesTurn mid (Writing held made) new → KnownIn ticket new
step_known core mid new held ticket made known takes writes =
    ∥∥₁_map known (λ (is : CoreLeads core (Fine ticket)).
    let s = is.0 in
    let told = is.2.told in
    let taken = takes.goes s is.1 in
    let same = after s (TakingOutcome ticket outcome.Waiting) mid.device in
    let written = writes.goes same taken.1 in
    let are_told = told_filter (λ entry. not (entry.0 == ticket)) s.writing.outcomes told in
    let on_way = waits_known ticket s told (sym taken.0.0) in
    let fine = write_fine ticket made same are_told on_way in
    (after same (Writing held made) new.device, written.1, record { told = fine.told; known = fine.known }))

pub stuck_run : (first new : CoreView) (held jobs : HeldJobs) (batch : Batch) (ticket : ℕ) (stuck : WriteStep) → IsStuck stuck → Made first held batch ticket stuck new jobs
    → (s : State) → StandsFor first s → CoreLeads new (λ next. PutRun (driven s held) batch (reply.Waiting ticket ∷ []) (driven next jobs))
stuck_run first new held jobs batch ticket stuck is so_far s stands =
    let before = so_far s stands in
    (before.0, before.1, inr (inr (record { ticket = ticket; steps = before.2.0; step = stuck; stuck = is; queues = before.2.1; prints = refl })))

pub want_cut : (first new : CoreView) (held jobs : HeldJobs) (batch : Batch) (ticket : ℕ) → Made first held batch ticket step.OutOfMemory new jobs
    → (s : State) → StandsFor first s → CoreLeads new (λ next. PutCut (driven s held) batch (driven next jobs))
want_cut first new held jobs batch ticket so_far s stands =
    let before = so_far s stands in
    (before.0, before.1, inr (ticket, before.2.0, before.2.1))

-- ---- a caller that holds no number isn't cancelled

no_cancel : (waits weight others : ℕ) (none : Bool) (failure : Option Failure) (full jobs files : Bool) (job current : ℕ)
    → first_some (when none step.Idle ∷ option_map (λ f. step.Turned waits f) failure ∷ when full (step.Full weight others) ∷ when jobs (step.Spent JobNumber)
    ∷ when files (step.Spent FileNumber) ∷ []) ≡ Some (step.Cancelled job current) → ⊥
no_cancel waits weight others true failure full jobs files job current is = absurd cc
no_cancel waits weight others false (Some failure) full jobs files job current is = absurd cc
no_cancel waits weight others false None true jobs files job current is = absurd cc
no_cancel waits weight others false None false true files job current is = absurd cc
no_cancel waits weight others false None false false true job current is = absurd cc
no_cancel waits weight others false None false false false job current is = absurd cc

no_cancel_in : (none : Bool) (job current : ℕ) → first_some (when none (step.Spent FileNumber) ∷ []) ≡ Some (step.Cancelled job current) → ⊥
no_cancel_in true job current is = absurd cc
no_cancel_in false job current is = absurd cc

only : {A : Type 0} (first : Option A) (x : A) → first_some (first ∷ []) ≡ Some x → first ≡ Some x
only None x is = absurd cc
only (Some y) x is = is

no_rest : (s : State) (running : Option Group) (job current : ℕ) → first_some (first_some (rests_of s running) ∷ []) ≡ Some (step.Cancelled job current) → ⊥
no_rest s None job current is = no_cancel _ _ _ _ (stopping s) _ _ _ job current (only (first_some (rests_of s None)) (step.Cancelled job current) is)
no_rest s (Some group) job current is = no_cancel_in _ job current (only (first_some (rests_of s (Some group))) (step.Cancelled job current) is)

pub never_cancelled : (core new : CoreView) (job current : ℕ) → StandsForSome core → TakesTurn core (Writing None (step.Cancelled job current)) new → ⊥
never_cancelled core new job current told turns =
    ∥∥₁_elim told ⊥_prop (λ (is : (s : State) × StandsFor core s × AreTold core.outcomes).
    no_rest is.0 is.0.jobs.write.running job current (turns.goes is.0 is.1).0.first)

-- ---- a write step brings a put nearer to its end

-- a number that is held may be cancelled once
abbrev pub count_held : Option ℕ → ℕ
count_held None = 0
count_held (Some held) = 1

one_held : (held : Option ℕ) → count_held held ≤ 1
one_held None = omega arith
one_held (Some held) = omega arith

abbrev pub steps_left : CoreView → HeldJobs → ℕ
steps_left core jobs = 2 * calls_left core + count_held jobs.write

-- the calls that are left, as a state has them
abbrev calls_of : Option Group → ℕ
calls_of None = 0
calls_of (Some group) = length (left_of group)

abbrev calls_of_state : State → ℕ
calls_of_state s = calls_of s.jobs.write.running + 6 * length s.writing.waiting

calls_of_flight : (flight : Option FlightShown) → calls_in flight ≡ calls_of (running_of flight)
calls_of_flight None = refl
calls_of_flight (Some flight) = refl

calls_by : (core : CoreView) (s : State) → StandsFor core s → calls_left core ≡ calls_of_state s
calls_by core s stands = ap (λ n. n + 6 * length core.waiting) (calls_of_flight core.group) ∙ sym (ap (λ (t : State). calls_of_state t) stands.state_is)

at_most : (a b : ℕ) → (a < b → ⊥) → b ≤ a
at_most a b not_more =
    elim (nat_lt a b) as (λ v. nat_lt a b ≡ v → b ≤ a) [ true ↦ λ is. absurd (not_more (omega (arith, leb-true (suc a) b is))) | false ↦ λ is. ltb-false a b is ] refl

-- a step that is cancelled leaves the calls as they are
cancelled_calls : (core new : CoreView) (held : Option ℕ) (job current : ℕ) → StandsForSome core → TakesTurn core (Writing held (step.Cancelled job current)) new
    → calls_left new ≤ calls_left core
cancelled_calls core new held job current told turns =
    at_most (calls_left core) (calls_left new) (λ more.
    ∥∥₁_elim told ⊥_prop (λ (is : (s : State) × StandsFor core s × AreTold core.outcomes).
    let next = after is.0 (Writing held (step.Cancelled job current)) new.device in
    omega (arith, more, calls_by core is.0 is.1, calls_by new next (turns.goes is.0 is.1).1)))

-- and a number was held for it
cancelled_held : (core new : CoreView) (held : Option ℕ) (job current : ℕ) → StandsForSome core → TakesTurn core (Writing held (step.Cancelled job current)) new
    → count_held held ≡ 1
cancelled_held core new None job current told turns = absurd (never_cancelled core new job current told turns)
cancelled_held core new (Some number) job current told turns = refl

-- behind such a step a put makes another one
abbrev pub GoesOn : WriteStep → Type 0
GoesOn (step.Full active immutables) = ⊥
GoesOn (step.Spent counter) = ⊥
GoesOn step.OutOfMemory = ⊥
GoesOn made = Unit {0}

module _ (core mid new : CoreView) (jobs behind : HeldJobs) (some : 0 < calls_left core) (same : calls_left mid ≡ calls_left core) (told : StandsForSome mid) where
  called_nearer : calls_left new < calls_left mid → steps_left new behind < steps_left core jobs
  called_nearer nearer = omega (arith, nearer, same, one_held behind.write)

  pub put_nearer : (made : WriteStep) → TakesTurn mid (Writing jobs.write made) new → behind ≡ record jobs { write = write_held made jobs.write } → ComesNearer mid made new
      → GoesOn made → steps_left new behind < steps_left core jobs
  put_nearer step.Idle turns is nearer goes_on = absurd (omega (arith, nearer, same, some))
  put_nearer (step.Moved job call) turns is nearer goes_on = called_nearer nearer
  put_nearer (step.Done job seq batches) turns is nearer goes_on = called_nearer nearer
  put_nearer (step.Failed failure) turns is nearer goes_on = called_nearer nearer
  put_nearer (step.Turned batches failure) turns is nearer goes_on = called_nearer nearer
  put_nearer (step.Full active immutables) turns is nearer goes_on = absurd goes_on
  put_nearer (step.Spent counter) turns is nearer goes_on = absurd goes_on
  put_nearer (step.Cancelled job current) turns is nearer goes_on =
      let none : count_held behind.write ≡ 0 = ap (λ (j : HeldJobs). count_held j.write) is in
      omega (arith, none, same, cancelled_held mid new jobs.write job current told turns, cancelled_calls mid new jobs.write job current told turns)
  put_nearer step.OutOfMemory turns is nearer goes_on = absurd goes_on

-- of a batch of one op, no count or weight is refused
pub never_wide : (core new : CoreView) (batch : Batch) (answer : Admit) → StandsForSome core → TakesTurn core (Admitting batch answer) new → length batch.ops ≡ 1
    → (size : ℕ) → answer ≢ admit.BadSize part.Batch size
never_wide core new batch answer told turns one size same =
    let wide = subst (λ (a : Admit). TakesTurn core (Admitting batch a) new) same turns in
    ∥∥₁_elim told ⊥_prop (λ (is : (s : State) × StandsFor core s × AreTold core.outcomes).
    one_op_fits is.0 batch size one (wide.goes is.0 is.1).0.0)
