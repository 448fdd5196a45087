-- A ticket above the last one is nobody's.
use Rattle.std.proofs.Common.{◌≡◌, ◌∙◌, ℕ, zero, suc, ◌+◌, ◌<◌, ◌==◌, not, true, false, Option, None, Some, List, [], ◌∷◌, ◌++◌, take, drop, Ok, Err, refl, sym, ap, subst, arith, eqb-true}
use Rattle.keel_base.specs.declared.failure.Failure.{Failure}
use Rattle.keel_base.specs.declared.op.Batch.{Batch}
use Rattle.keel_disk.specs.Seen.{Seen}
use Rattle.keel_group.specs.Forming.{next_size}
use Rattle.keel_group.specs.Queue.{Ticketed, tickets_of}
use Rattle.keel_machine.specs.Admission.{outcome_kept, tickets_of_group}
use Rattle.keel_machine.specs.States.{State, Group, Slot, Act, CloseLog, MakeLog, SyncDirectory, AddRecords, SyncLog, Writing, left_of, is_open}
use Rattle.keel_machine.specs.Turns.{Event, Opening, Admitting, Writing as Makes, Resuming, Flushing, TakingOutcome, Getting, Scanning, Listing, TellingError, TellingLevels, Arranging, Crashing, Starting, Finishing, Turn, after, ShuttingDown}
use Rattle.keel_machine.specs.Writing.{ready, started, started_or}
use Rattle.keel_machine.specs.WritingAfter.{with_made, switched, goes_on, first_done, first_failed, group_done, group_failed, call_done, write_after}
use Rattle.keel_machine.specs.declared.answers.Admit.{Admit}
use Rattle.keel_machine.specs.declared.answers.Admit.TheVariants as admit
use Rattle.keel_machine.specs.declared.answers.Outcome.TheVariants as outcome
use Rattle.keel_machine.specs.declared.steps.WriteStep.{WriteStep}
use Rattle.keel_machine.specs.declared.steps.WriteStep.TheVariants as step
use Rattle.keel_machine.specs.declared.answers.Start.{Start}
use Rattle.keel_machine.specs.Starting.{start_after}
use Rattle.keel_recovery.specs.Machine.{MayCall}
use Rattle.keel_cli.proofs.Starts.{each_start, still_there}
use Rattle.keel_cli.proofs.Beside.{beside}
use Rattle.keel_cli.proofs.Flooring.{firm_resumed}
use Rattle.keel_cli.proofs.Owning.{kept_skip, none_filter, Lacks, given_none}
use Rattle.keel_cli.proofs.OwnSteps.{IsApart, apart_group, apart_group_failed}
use Rattle.keel_cli.proofs.Tickets.{given}
use Rattle.keel_machine.specs.Closing.{close_after, open_tickets}

-- ---- the last ticket

last_switched : (log : Option ℕ) (group : Group) (later : List Act) (s : State) → (goes_on false (with_made None group) later (switched log s)).writing.last_ticket ≡ s.writing.last_ticket
last_switched None group [] s = refl
last_switched None group (act ∷ later) s = refl
last_switched (Some number) group [] s = refl
last_switched (Some number) group (act ∷ later) s = refl

last_first : (group : Group) (left : List Act) (s : State) → (first_done group left s).writing.last_ticket ≡ s.writing.last_ticket
last_first group [] s = refl
last_first group (CloseLog ∷ []) s = refl
last_first group (CloseLog ∷ next ∷ later) s = refl
last_first group (MakeLog ∷ []) s = refl
last_first group (MakeLog ∷ next ∷ later) s = refl
last_first group (SyncDirectory ∷ later) s = last_switched group.progress.log group later s
last_first group (AddRecords ∷ []) s = refl
last_first group (AddRecords ∷ next ∷ later) s = refl
last_first group (SyncLog ∷ []) s = refl
last_first group (SyncLog ∷ next ∷ later) s = refl

last_group : (running : Option Group) (s : State) → (group_done running s).writing.last_ticket ≡ s.writing.last_ticket
last_group None s = refl
last_group (Some group) s = last_first group (left_of group) s

last_first_failed : (group : Group) (left : List Act) (failure : Failure) (s : State) → (first_failed group left failure s).writing.last_ticket ≡ s.writing.last_ticket
last_first_failed group [] failure s = refl
last_first_failed group (CloseLog ∷ later) failure s = refl
last_first_failed group (MakeLog ∷ later) failure s = refl
last_first_failed group (SyncDirectory ∷ later) failure s = refl
last_first_failed group (AddRecords ∷ later) failure s = refl
last_first_failed group (SyncLog ∷ later) failure s = refl

last_group_failed : (running : Option Group) (failure : Failure) (s : State) → (group_failed running failure s).writing.last_ticket ≡ s.writing.last_ticket
last_group_failed None failure s = refl
last_group_failed (Some group) failure s = last_first_failed group (left_of group) failure s

last_ready : (running : Option Group) (s : State) → (started_or running s).writing.last_ticket ≡ s.writing.last_ticket
last_ready None s = by s.writing.waiting
  where
    by : (waiting : List Ticketed) → (started waiting s).writing.last_ticket ≡ s.writing.last_ticket
    by [] = refl
    by (first ∷ rest) = refl
last_ready (Some group) s = refl

last_done : (s : State) → (call_done s).writing.last_ticket ≡ s.writing.last_ticket
last_done s = last_group (ready s).jobs.write.running (ready s) ∙ last_ready s.jobs.write.running s

last_written : (s : State) (made : WriteStep) → (write_after s made).writing.last_ticket ≡ s.writing.last_ticket
last_written s (step.Moved job call) = last_done s
last_written s (step.Done job seq batches) = last_done s
last_written s (step.Failed failure) = last_group_failed (ready s).jobs.write.running failure (ready s) ∙ last_ready s.jobs.write.running s
last_written s (step.Turned batches failure) = refl
last_written s step.Idle = refl
last_written s (step.Full active immutables) = refl
last_written s (step.Spent counter) = refl
last_written s (step.Cancelled job current) = refl
last_written s step.OutOfMemory = refl

-- ---- a ticket that is nobody's

abbrev pub Elsewhere : ℕ → List Ticketed → Type 0
Elsewhere ticket waiting = Lacks ticket (tickets_of waiting)

abbrev pub IsUnused : ℕ → State → Type 0
IsUnused ticket s = IsApart ticket (Elsewhere ticket) s

module _ (ticket : ℕ) where
  lacks_taken : (count : ℕ) (tickets : List ℕ) → Lacks ticket tickets → Lacks ticket (take count tickets)
  lacks_taken zero tickets lacks = tt
  lacks_taken (suc count) [] lacks = tt
  lacks_taken (suc count) (other ∷ tickets) lacks = (lacks.0, lacks_taken count tickets lacks.1)

  lacks_dropped : (count : ℕ) (waiting : List Ticketed) → Elsewhere ticket waiting → Elsewhere ticket (drop count waiting)
  lacks_dropped zero waiting lacks = lacks
  lacks_dropped (suc count) [] lacks = tt
  lacks_dropped (suc count) (member ∷ waiting) lacks = lacks_dropped count waiting lacks.1

  lacks_joined : (batch : Batch) (other : ℕ) (waiting : List Ticketed) → Elsewhere ticket waiting → (other == ticket) ≡ false
      → Elsewhere ticket (waiting ++ (record { ticket = other; batch = batch }) ∷ [])
  lacks_joined batch other [] lacks is = (is, tt)
  lacks_joined batch other (member ∷ waiting) lacks is = (lacks.0, lacks_joined batch other waiting lacks.1 is)

  unused_started : (waiting : List Ticketed) (s : State) → Elsewhere ticket waiting → IsUnused ticket s → IsUnused ticket (started waiting s)
  unused_started [] s lacks unused = unused
  unused_started (first ∷ rest) s lacks unused =
      let all : List Ticketed = first ∷ rest in
      record { none = unused.none; owned = lacks_dropped (next_size all) all lacks; lacks = lacks_taken (next_size all) (tickets_of all) lacks }

  unused_ready : (running : Option Group) (s : State) → IsUnused ticket s → IsUnused ticket (started_or running s)
  unused_ready None s unused = unused_started s.writing.waiting s unused.owned unused
  unused_ready (Some group) s unused = unused

  unused_done : (s : State) → IsUnused ticket s → IsUnused ticket (call_done s)
  unused_done s unused = apart_group ticket (Elsewhere ticket) (ready s).jobs.write.running (ready s) refl (unused_ready s.jobs.write.running s unused)

  unused_written : (s : State) (made : WriteStep) → IsUnused ticket s → IsUnused ticket (write_after s made)
  unused_written s (step.Moved job call) unused = unused_done s unused
  unused_written s (step.Done job seq batches) unused = unused_done s unused
  unused_written s (step.Failed failure) unused =
      apart_group_failed ticket (Elsewhere ticket) (ready s).jobs.write.running failure (ready s) refl (unused_ready s.jobs.write.running s unused)
  unused_written s (step.Turned batches failure) unused = record {
    none =
        kept_skip ticket s.writing.outcomes (given (outcome.Turned failure) (tickets_of s.writing.waiting)) unused.none
        ∙ given_none ticket (outcome.Turned failure) (tickets_of s.writing.waiting) unused.owned;
    owned = tt;
    lacks = unused.lacks;
  }
  unused_written s step.Idle unused = unused
  unused_written s (step.Full active immutables) unused = unused
  unused_written s (step.Spent counter) unused = unused
  unused_written s (step.Cancelled job current) unused = unused
  unused_written s step.OutOfMemory unused = unused

  -- a resume is asked for, and the tickets of a group that is over get an outcome
  unused_begun : (s : State) (answer : Start) → IsUnused ticket s → IsUnused ticket (start_after s answer)
  unused_begun s answer unused =
      each_start (IsUnused ticket) s answer unused
      (record { none = unused.none; owned = unused.owned; lacks = unused.lacks })
      (record { none = unused.none; owned = unused.owned; lacks = tt })
      (λ failure. record {
        none =
            kept_skip ticket s.writing.outcomes (given (outcome.Failed failure) (tickets_of_group s.jobs.write.running)) unused.none
            ∙ given_none ticket (outcome.Failed failure) (tickets_of_group s.jobs.write.running) unused.lacks;
        owned = unused.owned;
        lacks = tt;
      })

  lacks_both : (first second : List ℕ) → Lacks ticket first → Lacks ticket second → Lacks ticket (first ++ second)
  lacks_both [] second one two = two
  lacks_both (other ∷ first) second one two = (one.0, lacks_both first second one.1 two)

  -- the store is closed, and each ticket without an outcome gets one
  unused_closed : (s : State) → IsUnused ticket s → IsUnused ticket (close_after s)
  unused_closed s unused = record {
    none =
        kept_skip ticket s.writing.outcomes (given outcome.Closed (open_tickets s)) unused.none
        ∙ given_none ticket outcome.Closed (open_tickets s) (lacks_both (tickets_of_group s.jobs.write.running) (tickets_of s.writing.waiting) unused.lacks unused.owned);
    owned = tt;
    lacks = tt;
  }

  pub unused_seen : (s : State) (device : Seen) → IsUnused ticket s → IsUnused ticket (record s { device = device })
  unused_seen s device unused = record { none = unused.none; owned = unused.owned; lacks = unused.lacks }

other_ticket : (a b : ℕ) → a < b → (a == b) ≡ false
other_ticket a b less =
    elim (a == b) as (λ v. (a == b) ≡ v → v ≡ false) [ true ↦ λ same. absurd (omega (arith, less, eqb-true a b same)) | false ↦ λ same. refl ] refl

-- each ticket above the last one of an open store
abbrev pub AreUnused : State → Type 0
AreUnused s = is_open s.mode.phase ≡ true → (ticket : ℕ) → s.writing.last_ticket < ticket → IsUnused ticket s

seen_unused : (s : State) (device : Seen) → AreUnused s → AreUnused (record s { device = device })
seen_unused s device unused = λ opens ticket above. unused_seen ticket s device (unused opens ticket above)

admitted_unused : (s : State) (batch : Batch) (answer : Admit) (device : Seen) → is_open s.mode.phase ≡ true → AreUnused s → AreUnused (after s (Admitting batch answer) device)
admitted_unused s batch (admit.Queued given_as) device opened unused = λ opens ticket above.
    let before = unused opened ticket (omega (arith, above)) in
    record {
      none = before.none;
      owned = lacks_joined ticket batch (s.writing.last_ticket + 1) s.writing.waiting before.owned (other_ticket (s.writing.last_ticket + 1) ticket (omega (arith, above)));
      lacks = before.lacks;
    }
admitted_unused s batch (admit.BadSize part size) device opened unused = seen_unused s device unused
admitted_unused s batch admit.Closing device opened unused = seen_unused s device unused
admitted_unused s batch admit.Booting device opened unused = seen_unused s device unused
admitted_unused s batch (admit.Stopped failure) device opened unused = seen_unused s device unused
admitted_unused s batch (admit.Spent counter) device opened unused = seen_unused s device unused
admitted_unused s batch (admit.Full active immutables) device opened unused = seen_unused s device unused
admitted_unused s batch (admit.QueueFull waiting) device opened unused = seen_unused s device unused
admitted_unused s batch admit.OutOfMemory device opened unused = seen_unused s device unused

answer_unused : (s : State) (event : Event) (device : Seen) → MayCall s event → AreUnused s → AreUnused (after s event device)
answer_unused s (Opening options (Ok found)) device may unused = λ opens ticket above. record { none = refl; owned = tt; lacks = tt }
answer_unused s (Opening options (Err refused)) device may unused = seen_unused s device unused
answer_unused s (Admitting batch answer) device may unused = admitted_unused s batch answer device may unused
answer_unused s (Makes held made) device may unused = λ opens ticket above.
    unused_seen ticket (write_after s made) device (unused_written ticket s made (unused may ticket (omega (arith, above, last_written s made))))
answer_unused s (Resuming drafts held made) device may unused = λ opens ticket above.
    let more = firm_resumed s drafts made in
    let before = unused may ticket (omega (arith, above, ap (λ (w : Writing). w.last_ticket) more.writing)) in
    record {
      none = ap (λ (w : Writing). outcome_kept ticket w.outcomes) more.writing ∙ before.none;
      owned = subst (λ (w : Writing). Elsewhere ticket w.waiting) (sym more.writing) before.owned;
      lacks = subst (λ (slot : Slot Group). Lacks ticket (tickets_of_group slot.running)) (sym more.group) before.lacks;
    }
answer_unused s (Flushing draft held made) device may unused = λ opens ticket above.
    let same = beside s draft made in
    let before = unused may ticket (omega (arith, above, ap (λ (w : Writing). w.last_ticket) same.writing)) in
    record {
      none = ap (λ (w : Writing). outcome_kept ticket w.outcomes) same.writing ∙ before.none;
      owned = subst (λ (w : Writing). Elsewhere ticket w.waiting) (sym same.writing) before.owned;
      lacks = subst (λ (slot : Slot Group). Lacks ticket (tickets_of_group slot.running)) (sym same.group) before.lacks;
    }
answer_unused s (TakingOutcome taken out) device may unused = λ opens ticket above.
    let before = unused may ticket above in
    record { none = none_filter ticket (λ entry. not (entry.0 == taken)) s.writing.outcomes before.none; owned = before.owned; lacks = before.lacks }
answer_unused s (Getting key got) device may unused = seen_unused s device unused
answer_unused s (Scanning from to scanned) device may unused = seen_unused s device unused
answer_unused s (Listing answer) device may unused = seen_unused s device unused
answer_unused s (TellingError standing) device may unused = seen_unused s device unused
answer_unused s (TellingLevels view) device may unused = seen_unused s device unused
answer_unused s (Arranging rule answer) device may unused = seen_unused s device unused
answer_unused s (Crashing pick (Some count)) device may unused = λ opens. cc
answer_unused s (Crashing pick None) device may unused = λ opens. cc
answer_unused s (Starting answer) device may unused = λ opens ticket above.
    unused_seen ticket (start_after s answer) device (unused_begun ticket s answer (unused may ticket (omega (arith, above, (still_there s answer).last))))
answer_unused s (ShuttingDown tickets) device may unused = λ opens ticket above.
    unused_seen ticket (close_after s) device (unused_closed ticket s (unused may ticket above))
answer_unused s Finishing device may unused = λ opens. cc

pub keep_unused : (old new : State) (event : Event) → MayCall old event → Turn old event new → AreUnused old → AreUnused new
keep_unused old new event may turn unused = subst AreUnused (sym turn.1) (answer_unused old event new.device may unused)
