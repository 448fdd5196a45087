-- What becomes of a ticket in the turns of the machine.
use Rattle.std.proofs.Common.{◌≡◌, ◌≢◌, ◌⊎◌, ℕ, ◌+◌, ◌==◌, ◌||◌, Bool, true, false, cond, List, [], ◌∷◌, ◌++◌, map, find, filter, length, drop, ap, Option, Some, None, IsSome, IfSome, option_map, unwrap_or, if◌then◌else◌, refl, sym, ◌∙◌, subst, inl, inr, append-nil, eq-eqb}
use Rattle.std.proofs.lemmas.List.{map-append}
use Rattle.std.specs.List.{list_any}
use Rattle.std.proofs.lemmas.List.Folds.{list_any-append}
use Rattle.keel_base.specs.declared.failure.Failure.{Failure}
use Rattle.keel_base.specs.declared.op.Batch.{Batch}
use Rattle.keel_machine.specs.declared.answers.Outcome.{Outcome}
use Rattle.keel_machine.specs.declared.answers.Outcome.TheVariants as outcome
use Rattle.keel_machine.specs.declared.steps.WriteStep.{WriteStep}
use Rattle.keel_machine.specs.declared.steps.WriteStep.TheVariants as step
use Rattle.keel_group.proofs.Dividing.{all_of}
use Rattle.keel_base.specs.declared.op.Op.{Op}
use Rattle.keel_machine.specs.Admission.{last_seq, tickets_of_group, outcome_kept, is_on_its_way, outcome_of, queued}
use Rattle.keel_group.specs.Queue.{Ticketed}
use Rattle.keel_machine.specs.States.{State, Group, Act, CloseLog, MakeLog, SyncDirectory, AddRecords, SyncLog, left_of}
use Rattle.keel_machine.specs.Writing.{ready, started_or, group_bytes}
use Rattle.keel_machine.specs.WritingAfter.{done_each, seq_behind, file_drawn, with_made, with_log, switched, log_longer, batches_handed, goes_on, act_done, act_failed, first_done, first_failed, group_done, group_failed, call_done, call_failed, queue_turned, write_after}
use Rattle.keel_core.specs.Views.{CoreView, StandsFor, TakesTurn}
use Rattle.keel_machine.specs.Turns.{Event, after, behind}
use Rattle.keel_cli.specs.Stores.{CoreLeads, IsTold, AreTold, StandsForSome}
use Rattle.std.proofs.Math.Logic.{∥∥₁_map}

-- ---- lists of tickets and of outcomes

abbrev pub any : ℕ → List ℕ → Bool
any ticket tickets = list_any (λ other. other == ticket) tickets

abbrev pub given : Outcome → List ℕ → List (ℕ × Outcome)
given out tickets = map (λ ticket. (ticket, out)) tickets

abbrev pub waiting_tickets : State → List ℕ
waiting_tickets s = map (λ member. member.ticket) s.writing.waiting

or_cases : (a b : Bool) → (a || b) ≡ true → (a ≡ true) ⊎ (b ≡ true)
or_cases true b holds = inl refl
or_cases false b holds = inr holds

or_right : (a b : Bool) → b ≡ true → (a || b) ≡ true
or_right true b holds = refl
or_right false b holds = holds

or_left : (a b : Bool) → a ≡ true → (a || b) ≡ true
or_left true b holds = refl
or_left false b holds = absurd cc

any_cases : (ticket : ℕ) (a b : List ℕ) → any ticket (a ++ b) ≡ true → (any ticket a ≡ true) ⊎ (any ticket b ≡ true)
any_cases ticket a b holds = or_cases (any ticket a) (any ticket b) (sym (list_any-append (λ other. other == ticket) a b) ∙ holds)

any_right : (ticket : ℕ) (a b : List ℕ) → any ticket b ≡ true → any ticket (a ++ b) ≡ true
any_right ticket a b holds = list_any-append (λ other. other == ticket) a b ∙ or_right (any ticket a) (any ticket b) holds

any_one : (ticket : ℕ) → any ticket (ticket ∷ []) ≡ true
any_one ticket = rw (eq-eqb ticket ticket refl) refl

pub told_append : (a b : List (ℕ × Outcome)) → AreTold a → AreTold b → AreTold (a ++ b)
told_append [] b first second = second
told_append (entry ∷ a) b first second = (first.0, told_append a b first.1 second)

pub told_given : (out : Outcome) (tickets : List ℕ) → IsTold out → AreTold (given out tickets)
told_given out [] is = tt
told_given out (ticket ∷ tickets) is = (is, told_given out tickets is)

pub told_filter : (test : ℕ × Outcome → Bool) (a : List (ℕ × Outcome)) → AreTold a → AreTold (filter test a)
told_filter test [] told = tt
told_filter test (entry ∷ a) told =
    let rest = told_filter test a told.1 in
    elim (test entry) as (λ v. AreTold (cond v (entry ∷ filter test a) (filter test a))) [ true ↦ (told.0, rest) | false ↦ rest ]

kept_left : (ticket : ℕ) (a b : List (ℕ × Outcome)) → IsSome (outcome_kept ticket a) → IsSome (outcome_kept ticket (a ++ b))
kept_left ticket [] b some = absurd cc
kept_left ticket (entry ∷ a) b some =
    let rest = kept_left ticket a b in
    (elim (entry.0 == ticket) as (λ v. IsSome (option_map (λ (e : ℕ × Outcome). e.1) (cond v (Some entry) (find (λ (e : ℕ × Outcome). e.0 == ticket) a)))
    → IsSome (option_map (λ (e : ℕ × Outcome). e.1) (cond v (Some entry) (find (λ (e : ℕ × Outcome). e.0 == ticket) (a ++ b)))))
    [ true ↦ (λ is. is) | false ↦ rest ]) some

kept_right : (ticket : ℕ) (a b : List (ℕ × Outcome)) → IsSome (outcome_kept ticket b) → IsSome (outcome_kept ticket (a ++ b))
kept_right ticket [] b some = some
kept_right ticket (entry ∷ a) b some =
    let rest = kept_right ticket a b some in
    elim (entry.0 == ticket) as (λ v. IsSome (option_map (λ (e : ℕ × Outcome). e.1) (cond v (Some entry) (find (λ (e : ℕ × Outcome). e.0 == ticket) (a ++ b)))))
    [ true ↦ refl | false ↦ rest ]

kept_given : (ticket : ℕ) (out : Outcome) (tickets : List ℕ) → any ticket tickets ≡ true → IsSome (outcome_kept ticket (given out tickets))
kept_given ticket out [] holds = absurd cc
kept_given ticket out (first ∷ tickets) holds =
    let rest = kept_given ticket out tickets in
    (elim (first == ticket) as (λ v. (v || any ticket tickets) ≡ true
    → IsSome (option_map (λ (e : ℕ × Outcome). e.1) (cond v (Some (first, out)) (find (λ (e : ℕ × Outcome). e.0 == ticket) (given out tickets)))))
    [ true ↦ (λ is. refl) | false ↦ rest ]) holds

told_done : (seq : ℕ) (tickets : List ℕ) (batches : List (List Op)) → AreTold (done_each seq tickets batches)
told_done seq [] batches = tt
told_done seq (ticket ∷ tickets) batches = (tt, told_done (seq_behind seq batches) tickets (drop 1 batches))

kept_done : (ticket seq : ℕ) (tickets : List ℕ) (batches : List (List Op)) → any ticket tickets ≡ true → IsSome (outcome_kept ticket (done_each seq tickets batches))
kept_done ticket seq [] batches holds = absurd cc
kept_done ticket seq (first ∷ tickets) batches holds =
    let last = seq_behind seq batches in
    let rest = kept_done ticket last tickets (drop 1 batches) in
    (elim (first == ticket) as (λ v. (v || any ticket tickets) ≡ true
    → IsSome (option_map (λ (e : ℕ × Outcome). e.1) (cond v (Some (first, outcome.Done last)) (find (λ (e : ℕ × Outcome). e.0 == ticket) (done_each last tickets (drop 1 batches))))))
    [ true ↦ (λ is. refl) | false ↦ rest ]) holds

-- ---- a ticket in a state

-- it is on its way, or its outcome is kept
abbrev pub Known : ℕ → State → Type 0
Known ticket s = (is_on_its_way ticket s ≡ true) ⊎ IsSome (outcome_kept ticket s.writing.outcomes)

-- no outcome of the state is Waiting or Unknown, and the ticket is known
pub record Fine (ticket : ℕ) (s : State) : Type 0 where
  pub told : AreTold s.writing.outcomes
  pub known : Known ticket s

-- tickets of which one may be this one get an outcome, and the others wait
settled_known : (ticket : ℕ) (out : Outcome) (tickets waiting : List ℕ) (outcomes : List (ℕ × Outcome))
    → any ticket (tickets ++ waiting) ≡ true → (any ticket waiting ≡ true) ⊎ IsSome (outcome_kept ticket (outcomes ++ given out tickets))
settled_known ticket out tickets waiting outcomes holds =
    elim (any_cases ticket tickets waiting holds) [
      | inl is ↦ inr (kept_right ticket outcomes (given out tickets) (kept_given ticket out tickets is))
      | inr is ↦ inl is
    ]

-- tickets of which one may be this one are done, and the others wait
done_known : (ticket seq : ℕ) (tickets waiting : List ℕ) (outcomes : List (ℕ × Outcome)) (batches : List (List Op))
    → any ticket (tickets ++ waiting) ≡ true → (any ticket waiting ≡ true) ⊎ IsSome (outcome_kept ticket (outcomes ++ done_each seq tickets batches))
done_known ticket seq tickets waiting outcomes batches holds =
    elim (any_cases ticket tickets waiting holds) [
      | inl is ↦ inr (kept_right ticket outcomes (done_each seq tickets batches) (kept_done ticket seq tickets batches is))
      | inr is ↦ inl is
    ]

goes_on_fine : (ticket : ℕ) (sync : Bool) (group : Group) (later : List Act) (s : State)
    → AreTold s.writing.outcomes → any ticket (group.tickets ++ waiting_tickets s) ≡ true → Fine ticket (goes_on sync group later s)
goes_on_fine ticket sync group [] s told holds = record {
  told = told_append s.writing.outcomes _ told (told_done (last_seq s) group.tickets s.story.limbo);
  known = done_known ticket (last_seq s) group.tickets (waiting_tickets s) s.writing.outcomes s.story.limbo holds;
}
goes_on_fine ticket sync group (act ∷ later) s told holds = record { told = told; known = inl holds }

switched_fine : (ticket : ℕ) (log : Option ℕ) (group : Group) (later : List Act) (s : State)
    → AreTold s.writing.outcomes → any ticket (group.tickets ++ waiting_tickets s) ≡ true → Fine ticket (goes_on false (with_made None group) later (switched log s))
switched_fine ticket None group later s told holds = goes_on_fine ticket false (with_made None group) later s told holds
switched_fine ticket (Some number) group later s told holds = goes_on_fine ticket false (with_made None group) later (switched (Some number) s) told holds

act_done_fine : (ticket : ℕ) (act : Act) (group : Group) (later : List Act) (s : State)
    → AreTold s.writing.outcomes → any ticket (group.tickets ++ waiting_tickets s) ≡ true → Fine ticket (act_done act group later s)
act_done_fine ticket CloseLog group later s told holds = goes_on_fine ticket false group later s told holds
act_done_fine ticket MakeLog group later s told holds = goes_on_fine ticket false (with_made (Some s.numbers.next_file) group) later (file_drawn s) told holds
act_done_fine ticket SyncDirectory group later s told holds = switched_fine ticket group.progress.log group later s told holds
act_done_fine ticket AddRecords group later s told holds =
    goes_on_fine ticket false (record group { batches = [] }) later
    (batches_handed group (with_log (log_longer (length (group_bytes s group)) s.segments.active.log) s)) told holds
act_done_fine ticket SyncLog group later s told holds = goes_on_fine ticket true group later s told holds

act_failed_fine : (ticket : ℕ) (act : Act) (group : Group) (failure : Failure) (s : State)
    → AreTold s.writing.outcomes → any ticket (group.tickets ++ waiting_tickets s) ≡ true → Fine ticket (act_failed act group failure s)
act_failed_fine ticket CloseLog group failure s told holds = record {
  told = told_append s.writing.outcomes _ told (told_given (outcome.Failed failure) group.tickets tt);
  known = settled_known ticket (outcome.Failed failure) group.tickets (waiting_tickets s) s.writing.outcomes holds;
}
act_failed_fine ticket MakeLog group failure s told holds = record {
  told = told_append s.writing.outcomes _ told (told_given (outcome.Failed failure) group.tickets tt);
  known = settled_known ticket (outcome.Failed failure) group.tickets (waiting_tickets s) s.writing.outcomes holds;
}
act_failed_fine ticket SyncDirectory group failure s told holds = record {
  told = told_append s.writing.outcomes _ told (told_given (outcome.Failed failure) group.tickets tt);
  known = settled_known ticket (outcome.Failed failure) group.tickets (waiting_tickets s) s.writing.outcomes holds;
}
act_failed_fine ticket AddRecords group failure s told holds = record {
  told = told_append s.writing.outcomes _ told (told_given (outcome.Failed failure) group.tickets tt);
  known = settled_known ticket (outcome.Failed failure) group.tickets (waiting_tickets s) s.writing.outcomes holds;
}
act_failed_fine ticket SyncLog group failure s told holds = record {
  told = told_append s.writing.outcomes _ told (told_given (outcome.Failed failure) group.tickets tt);
  known = settled_known ticket (outcome.Failed failure) group.tickets (waiting_tickets s) s.writing.outcomes holds;
}

-- it is on its way while this group runs
abbrev pub on_way : ℕ → Option Group → State → Type 0
on_way ticket running s = any ticket (tickets_of_group running ++ waiting_tickets s) ≡ true

same_fine : (ticket : ℕ) (running : Option Group) (s : State) → s.jobs.write.running ≡ running → AreTold s.writing.outcomes → on_way ticket running s → Fine ticket s
same_fine ticket running s is told holds = record { told = told; known = inl (subst (λ r. on_way ticket r s) (sym is) holds) }

first_fine : (ticket : ℕ) (group : Group) (left : List Act) (s : State)
    → Fine ticket s → AreTold s.writing.outcomes → any ticket (group.tickets ++ waiting_tickets s) ≡ true → Fine ticket (first_done group left s)
first_fine ticket group [] s same told holds = same
first_fine ticket group (act ∷ later) s same told holds = act_done_fine ticket act group later s told holds

group_done_fine : (ticket : ℕ) (running : Option Group) (s : State) → s.jobs.write.running ≡ running
    → AreTold s.writing.outcomes → on_way ticket running s → Fine ticket (group_done running s)
group_done_fine ticket None s is told holds = same_fine ticket None s is told holds
group_done_fine ticket (Some group) s is told holds =
    let same = same_fine ticket (Some group) s is told holds in
    first_fine ticket group (left_of group) s same told holds

first_failed_fine : (ticket : ℕ) (group : Group) (left : List Act) (failure : Failure) (s : State)
    → Fine ticket s → AreTold s.writing.outcomes → any ticket (group.tickets ++ waiting_tickets s) ≡ true → Fine ticket (first_failed group left failure s)
first_failed_fine ticket group [] failure s same told holds = same
first_failed_fine ticket group (act ∷ later) failure s same told holds = act_failed_fine ticket act group failure s told holds

group_failed_fine : (ticket : ℕ) (running : Option Group) (failure : Failure) (s : State) → s.jobs.write.running ≡ running
    → AreTold s.writing.outcomes → on_way ticket running s → Fine ticket (group_failed running failure s)
group_failed_fine ticket None failure s is told holds = same_fine ticket None s is told holds
group_failed_fine ticket (Some group) failure s is told holds =
    first_failed_fine ticket group (left_of group) failure s (same_fine ticket (Some group) s is told holds) told holds

-- forming a group keeps every ticket on its way
ready_keeps : (ticket : ℕ) (running : Option Group) (waiting : List Ticketed) (s : State) → s.jobs.write.running ≡ running → s.writing.waiting ≡ waiting
    → is_on_its_way ticket s ≡ true → is_on_its_way ticket (started_or running s) ≡ true
ready_keeps ticket (Some group) waiting s is waits holds = holds
ready_keeps ticket None [] s is waits holds = rw waits (rw waits at holds)
ready_keeps ticket None (first ∷ rest) s is waits holds = rw waits (ap (any ticket) (all_of (first ∷ rest)).tickets ∙ (rw (is, waits) at holds))

ready_told : (running : Option Group) (waiting : List Ticketed) (s : State) → s.writing.waiting ≡ waiting → AreTold s.writing.outcomes → AreTold (started_or running s).writing.outcomes
ready_told (Some group) waiting s waits told = told
ready_told None [] s waits told = rw waits told
ready_told None (first ∷ rest) s waits told = rw waits told

turned_fine : (ticket : ℕ) (failure : Failure) (s : State) → AreTold s.writing.outcomes → is_on_its_way ticket s ≡ true → Fine ticket (queue_turned failure s)
turned_fine ticket failure s told holds = record {
  told = told_append s.writing.outcomes _ told (told_given (outcome.Turned failure) (waiting_tickets s) tt);
  known =
      elim (any_cases ticket (tickets_of_group s.jobs.write.running) (waiting_tickets s) holds) [
        | inl is ↦ inl (rw (append-nil (tickets_of_group s.jobs.write.running)) is)
        | inr is ↦ inr (kept_right ticket s.writing.outcomes _ (kept_given ticket (outcome.Turned failure) (waiting_tickets s) is))
      ];
}

done_fine : (ticket : ℕ) (s : State) → AreTold s.writing.outcomes → is_on_its_way ticket s ≡ true → Fine ticket (call_done s)
done_fine ticket s told holds =
    group_done_fine ticket (ready s).jobs.write.running (ready s) refl
    (ready_told s.jobs.write.running s.writing.waiting s refl told)
    (ready_keeps ticket s.jobs.write.running s.writing.waiting s refl refl holds)

failed_fine : (ticket : ℕ) (failure : Failure) (s : State) → AreTold s.writing.outcomes → is_on_its_way ticket s ≡ true → Fine ticket (call_failed failure s)
failed_fine ticket failure s told holds =
    group_failed_fine ticket (ready s).jobs.write.running failure (ready s) refl
    (ready_told s.jobs.write.running s.writing.waiting s refl told)
    (ready_keeps ticket s.jobs.write.running s.writing.waiting s refl refl holds)

-- a write step keeps a ticket that is on its way, or keeps its outcome
pub write_fine : (ticket : ℕ) (made : WriteStep) (s : State) → AreTold s.writing.outcomes → is_on_its_way ticket s ≡ true → Fine ticket (write_after s made)
write_fine ticket (step.Moved job call) s told holds = done_fine ticket s told holds
write_fine ticket (step.Done job seq batches) s told holds = done_fine ticket s told holds
write_fine ticket (step.Failed failure) s told holds = failed_fine ticket failure s told holds
write_fine ticket (step.Turned batches failure) s told holds = turned_fine ticket failure s told holds
write_fine ticket step.Idle s told holds = record { told = told; known = inl holds }
write_fine ticket (step.Full active immutables) s told holds = record { told = told; known = inl holds }
write_fine ticket (step.Spent counter) s told holds = record { told = told; known = inl holds }
write_fine ticket (step.Cancelled job current) s told holds = record { told = told; known = inl holds }
write_fine ticket step.OutOfMemory s told holds = record { told = told; known = inl holds }

-- ---- outcomes stay told, whatever the tickets

goes_on_told : (sync : Bool) (group : Group) (later : List Act) (s : State) → AreTold s.writing.outcomes → AreTold (goes_on sync group later s).writing.outcomes
goes_on_told sync group [] s told = told_append s.writing.outcomes _ told (told_done (last_seq s) group.tickets s.story.limbo)
goes_on_told sync group (act ∷ later) s told = told

switched_told : (log : Option ℕ) (group : Group) (later : List Act) (s : State) → AreTold s.writing.outcomes
    → AreTold (goes_on false (with_made None group) later (switched log s)).writing.outcomes
switched_told None group later s told = goes_on_told false (with_made None group) later s told
switched_told (Some number) group later s told = goes_on_told false (with_made None group) later (switched (Some number) s) told

act_done_told : (act : Act) (group : Group) (later : List Act) (s : State) → AreTold s.writing.outcomes → AreTold (act_done act group later s).writing.outcomes
act_done_told CloseLog group later s told = goes_on_told false group later s told
act_done_told MakeLog group later s told = goes_on_told false (with_made (Some s.numbers.next_file) group) later (file_drawn s) told
act_done_told SyncDirectory group later s told = switched_told group.progress.log group later s told
act_done_told AddRecords group later s told =
    goes_on_told false (record group { batches = [] }) later
    (batches_handed group (with_log (log_longer (length (group_bytes s group)) s.segments.active.log) s)) told
act_done_told SyncLog group later s told = goes_on_told true group later s told

act_failed_told : (act : Act) (group : Group) (failure : Failure) (s : State) → AreTold s.writing.outcomes → AreTold (act_failed act group failure s).writing.outcomes
act_failed_told CloseLog group failure s told = told_append s.writing.outcomes _ told (told_given (outcome.Failed failure) group.tickets tt)
act_failed_told MakeLog group failure s told = told_append s.writing.outcomes _ told (told_given (outcome.Failed failure) group.tickets tt)
act_failed_told SyncDirectory group failure s told = told_append s.writing.outcomes _ told (told_given (outcome.Failed failure) group.tickets tt)
act_failed_told AddRecords group failure s told = told_append s.writing.outcomes _ told (told_given (outcome.Failed failure) group.tickets tt)
act_failed_told SyncLog group failure s told = told_append s.writing.outcomes _ told (told_given (outcome.Failed failure) group.tickets tt)

first_done_told : (group : Group) (left : List Act) (s : State) → AreTold s.writing.outcomes → AreTold (first_done group left s).writing.outcomes
first_done_told group [] s told = told
first_done_told group (act ∷ later) s told = act_done_told act group later s told

group_done_told : (running : Option Group) (s : State) → AreTold s.writing.outcomes → AreTold (group_done running s).writing.outcomes
group_done_told None s told = told
group_done_told (Some group) s told = first_done_told group (left_of group) s told

first_failed_told : (group : Group) (left : List Act) (failure : Failure) (s : State) → AreTold s.writing.outcomes → AreTold (first_failed group left failure s).writing.outcomes
first_failed_told group [] failure s told = told
first_failed_told group (act ∷ later) failure s told = act_failed_told act group failure s told

group_failed_told : (running : Option Group) (failure : Failure) (s : State) → AreTold s.writing.outcomes → AreTold (group_failed running failure s).writing.outcomes
group_failed_told None failure s told = told
group_failed_told (Some group) failure s told = first_failed_told group (left_of group) failure s told

pub write_told : (made : WriteStep) (s : State) → AreTold s.writing.outcomes → AreTold (write_after s made).writing.outcomes
write_told (step.Moved job call) s told = group_done_told (ready s).jobs.write.running (ready s) (ready_told s.jobs.write.running s.writing.waiting s refl told)
write_told (step.Done job seq batches) s told = group_done_told (ready s).jobs.write.running (ready s) (ready_told s.jobs.write.running s.writing.waiting s refl told)
write_told (step.Failed failure) s told = group_failed_told (ready s).jobs.write.running failure (ready s) (ready_told s.jobs.write.running s.writing.waiting s refl told)
write_told (step.Turned batches failure) s told = told_append s.writing.outcomes _ told (told_given (outcome.Turned failure) (waiting_tickets s) tt)
write_told step.Idle s told = told
write_told (step.Full active immutables) s told = told
write_told (step.Spent counter) s told = told
write_told (step.Cancelled job current) s told = told
write_told step.OutOfMemory s told = told

-- a ticket that was just given is on its way
pub queued_fine : (batch : Batch) (s : State) → AreTold s.writing.outcomes → Fine (s.writing.last_ticket + 1) (queued batch s)
queued_fine batch s told = record {
  told = told;
  known =
      let ticket = s.writing.last_ticket + 1 in
      inl (
      any_right ticket (tickets_of_group s.jobs.write.running) (map (λ member. member.ticket) (queued batch s).writing.waiting)
      (rw (map-append (λ (member : Ticketed). member.ticket) s.writing.waiting (record { ticket = ticket; batch = batch } ∷ []))
      (any_right ticket (waiting_tickets s) (ticket ∷ []) (any_one ticket)))
      );
}

kept_told : (ticket : ℕ) (outcomes : List (ℕ × Outcome)) → AreTold outcomes → IfSome (outcome_kept ticket outcomes) IsTold
kept_told ticket [] told = tt
kept_told ticket (entry ∷ outcomes) told =
    let rest = kept_told ticket outcomes told.1 in
    elim (entry.0 == ticket) as (λ v. IfSome (option_map (λ (e : ℕ × Outcome). e.1) (cond v (Some entry) (find (λ (e : ℕ × Outcome). e.0 == ticket) outcomes))) IsTold)
    [ true ↦ told.0 | false ↦ rest ]

not_unknown : (kept : Option Outcome) (on_way : Bool) → IfSome kept IsTold → (on_way ≡ true) ⊎ IsSome kept
    → unwrap_or kept (if on_way then outcome.Waiting else outcome.Unknown) ≢ outcome.Unknown
not_unknown None true told known same = absurd cc
not_unknown None false told (inl is) same = absurd cc
not_unknown None false told (inr is) same = absurd cc
not_unknown (Some outcome.Waiting) on_way told known same = absurd told
not_unknown (Some outcome.Closed) on_way told known same = absurd told
not_unknown (Some outcome.Unknown) on_way told known same = absurd told
not_unknown (Some (outcome.Done seq)) on_way told known same = absurd cc
not_unknown (Some (outcome.Failed failure)) on_way told known same = absurd cc
not_unknown (Some (outcome.Turned failure)) on_way told known same = absurd cc

-- nor was it given by closing the store
not_closed : (kept : Option Outcome) (on_way : Bool) → IfSome kept IsTold → unwrap_or kept (if on_way then outcome.Waiting else outcome.Unknown) ≢ outcome.Closed
not_closed None true told same = absurd cc
not_closed None false told same = absurd cc
not_closed (Some outcome.Closed) on_way told same = absurd told
not_closed (Some outcome.Waiting) on_way told same = absurd told
not_closed (Some outcome.Unknown) on_way told same = absurd told
not_closed (Some (outcome.Done seq)) on_way told same = absurd cc
not_closed (Some (outcome.Failed failure)) on_way told same = absurd cc
not_closed (Some (outcome.Turned failure)) on_way told same = absurd cc

waits_on_way : (kept : Option Outcome) (on_way : Bool) → IfSome kept IsTold
    → unwrap_or kept (if on_way then outcome.Waiting else outcome.Unknown) ≡ outcome.Waiting → on_way ≡ true
waits_on_way None true told same = refl
waits_on_way None false told same = absurd cc
waits_on_way (Some outcome.Waiting) on_way told same = absurd told
waits_on_way (Some outcome.Closed) on_way told same = absurd told
waits_on_way (Some outcome.Unknown) on_way told same = absurd told
waits_on_way (Some (outcome.Done seq)) on_way told same = absurd cc
waits_on_way (Some (outcome.Failed failure)) on_way told same = absurd cc
waits_on_way (Some (outcome.Turned failure)) on_way told same = absurd cc

-- a known ticket is never unknown
pub told_known : (ticket : ℕ) (s : State) → Fine ticket s → outcome_of s ticket ≢ outcome.Unknown
told_known ticket s fine =
    not_unknown (outcome_kept ticket s.writing.outcomes) (is_on_its_way ticket s) (kept_told ticket s.writing.outcomes fine.told) fine.known

pub told_open : (ticket : ℕ) (s : State) → Fine ticket s → outcome_of s ticket ≢ outcome.Closed
told_open ticket s fine = not_closed (outcome_kept ticket s.writing.outcomes) (is_on_its_way ticket s) (kept_told ticket s.writing.outcomes fine.told)

-- what waits is on its way
pub waits_known : (ticket : ℕ) (s : State) → AreTold s.writing.outcomes → outcome_of s ticket ≡ outcome.Waiting → is_on_its_way ticket s ≡ true
waits_known ticket s told same =
    waits_on_way (outcome_kept ticket s.writing.outcomes) (is_on_its_way ticket s) (kept_told ticket s.writing.outcomes told) same

-- ---- from states to cores

outcomes_in : (view : CoreView) (s : State) → StandsFor view s → s.writing.outcomes ≡ view.outcomes
outcomes_in view s stands = ap (λ (t : State). t.writing.outcomes) stands.state_is

pub told_in : (view : CoreView) (s : State) → StandsFor view s → AreTold s.writing.outcomes → AreTold view.outcomes
told_in view s stands told = subst AreTold (outcomes_in view s stands) told

pub told_by : (view : CoreView) (s : State) → StandsFor view s → AreTold view.outcomes → AreTold s.writing.outcomes
told_by view s stands told = subst AreTold (sym (outcomes_in view s stands)) told

-- a turn that leaves outcomes told leaves a core that stands for some state
pub stays_told : (old new : CoreView) (event : Event) → TakesTurn old event new
    → ((s : State) → AreTold s.writing.outcomes → AreTold (behind s event).writing.outcomes) → StandsForSome old → StandsForSome new
stays_told old new event turns keeps some =
    ∥∥₁_map some (λ (is : (s : State) × StandsFor old s × AreTold old.outcomes).
    let went = turns.goes is.0 is.1 in
    let next = after is.0 event new.device in
    (next, went.1, told_in new next went.1 (keeps is.0 (told_by old is.0 is.1 is.2))))

-- the core stands for a state in which the ticket is fine
abbrev pub KnownIn : ℕ → CoreView → Type 0
KnownIn ticket view = ∥ CoreLeads view (Fine ticket) ∥₁

pub known_told : (ticket : ℕ) (view : CoreView) → KnownIn ticket view → StandsForSome view
known_told ticket view known =
    ∥∥₁_map known (λ (is : CoreLeads view (Fine ticket)). (is.0, is.1, told_in view is.0 is.1 is.2.told))
