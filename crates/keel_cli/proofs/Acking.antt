-- A synced write that is done must not be lost: its number is at most the firm number of the story.
use Rattle.std.proofs.Common.{◌≡◌, ◌∙◌, ℕ, zero, suc, ◌+◌, ◌≤◌, ◌<◌, ◌==◌, ◌||◌, not, Bool, true, false, cond, if◌then◌else◌, Option, None, Some, List, [], ◌∷◌, ◌++◌, map, find, filter, take, drop, option_map, unwrap_or, IfSome, Ok, Err, refl, ap, sym, subst, arith, eqb-true, eq-eqb}
use Rattle.keel_base.specs.declared.failure.Failure.{Failure}
use Rattle.keel_base.specs.declared.op.Batch.{Batch}
use Rattle.keel_base.specs.declared.op.Op.{Op}
use Rattle.keel_disk.specs.Seen.{Seen}
use Rattle.keel_group.specs.Forming.{next_size, next_batches, wants_sync}
use Rattle.keel_group.specs.Queue.{Ticketed, tickets_of, batches_of}
use Rattle.keel_machine.specs.declared.answers.Admit.{Admit}
use Rattle.keel_machine.specs.declared.answers.Admit.TheVariants as admit
use Rattle.keel_machine.specs.declared.answers.Outcome.{Outcome}
use Rattle.keel_machine.specs.declared.answers.Outcome.TheVariants as outcome
use Rattle.keel_machine.specs.declared.steps.WriteStep.{WriteStep}
use Rattle.keel_machine.specs.declared.steps.WriteStep.TheVariants as step
use Rattle.keel_machine.specs.Admission.{last_seq, outcome_kept, is_on_its_way, outcome_of, queued, is_full, tickets_of_group}
use Rattle.keel_machine.specs.States.{State, Story, Group, Slot, Act, CloseLog, MakeLog, SyncDirectory, AddRecords, SyncLog, Writing, left_of, point_of, published, is_open}
use Rattle.keel_machine.specs.Turns.{Event, Opening, Admitting, Writing as Makes, Resuming, Flushing, TakingOutcome, Getting, Scanning, Listing, TellingError, TellingLevels, Arranging, Crashing, Starting, Finishing, Turn, after, ShuttingDown}
use Rattle.keel_machine.specs.Writing.{ready, started, started_or, group_plan}
use Rattle.keel_machine.specs.WritingAfter.{seq_behind, done_each, file_drawn, with_made, with_log, switched, log_longer, batches_handed, goes_on, act_done, act_failed, first_done, first_failed, group_done, group_failed, call_done, call_failed, queue_turned, write_after}
use Rattle.keel_machine.specs.declared.answers.Start.{Start}
use Rattle.keel_machine.specs.Starting.{start_after}
use Rattle.keel_recovery.specs.Machine.{MayCall}
use Rattle.keel_cli.proofs.Starts.{each_start}
use Rattle.keel_draft.specs.Drafts.{count_ops}
use Rattle.keel_cli.proofs.Beside.{beside}
use Rattle.keel_cli.proofs.Flooring.{firm_seq, firm_published, published_firm, firm_resumed}
use Rattle.keel_cli.proofs.Tickets.{any, given}
use Rattle.keel_machine.specs.Closing.{close_after, open_tickets}

either : (a b : Bool) (P : Type 0) → (a ≡ true → P) → (b ≡ true → P) → (a || b) ≡ true → P
either true b P first second is = first refl
either false b P first second is = second is

first_or : (a b : Bool) → a ≡ true → (a || b) ≡ true
first_or true b is = refl
first_or false b is = cc

second_or : (a b : Bool) → b ≡ true → (a || b) ≡ true
second_or true b is = refl
second_or false b is = is

-- ---- the outcomes that are kept of a ticket

-- done with this number at most, where it is done
abbrev pub IsWithin : ℕ → Outcome → Type 0
IsWithin firm (outcome.Done seq) = seq ≤ firm
IsWithin firm other = Unit {0}

abbrev pub KeptWithin : ℕ → ℕ → List (ℕ × Outcome) → Type 0
KeptWithin ticket firm [] = Unit {0}
KeptWithin ticket firm (entry ∷ outcomes) = (entry.0 ≡ ticket → IsWithin firm entry.1) × KeptWithin ticket firm outcomes

within_more : (firm more : ℕ) (out : Outcome) → firm ≤ more → IsWithin firm out → IsWithin more out
within_more firm more outcome.Waiting least is = tt
within_more firm more (outcome.Done seq) least is = omega (arith, least, is)
within_more firm more (outcome.Failed failure) least is = tt
within_more firm more outcome.Closed least is = tt
within_more firm more (outcome.Turned failure) least is = tt
within_more firm more outcome.Unknown least is = tt

kept_more : (ticket firm more : ℕ) (outcomes : List (ℕ × Outcome)) → firm ≤ more → KeptWithin ticket firm outcomes → KeptWithin ticket more outcomes
kept_more ticket firm more [] least kept = tt
kept_more ticket firm more (entry ∷ outcomes) least kept =
    (λ same. within_more firm more entry.1 least (kept.0 same), kept_more ticket firm more outcomes least kept.1)

kept_append : (ticket firm : ℕ) (a b : List (ℕ × Outcome)) → KeptWithin ticket firm a → KeptWithin ticket firm b → KeptWithin ticket firm (a ++ b)
kept_append ticket firm [] b first second = second
kept_append ticket firm (entry ∷ a) b first second = (first.0, kept_append ticket firm a b first.1 second)

kept_filter : (ticket firm : ℕ) (test : ℕ × Outcome → Bool) (outcomes : List (ℕ × Outcome)) → KeptWithin ticket firm outcomes → KeptWithin ticket firm (filter test outcomes)
kept_filter ticket firm test [] kept = tt
kept_filter ticket firm test (entry ∷ outcomes) kept =
    let rest = kept_filter ticket firm test outcomes kept.1 in
    elim (test entry) as (λ v. KeptWithin ticket firm (cond v (entry ∷ filter test outcomes) (filter test outcomes))) [ true ↦ (kept.0, rest) | false ↦ rest ]

kept_given : (ticket firm : ℕ) (out : Outcome) (tickets : List ℕ) → IsWithin firm out → KeptWithin ticket firm (given out tickets)
kept_given ticket firm out [] is = tt
kept_given ticket firm out (first ∷ tickets) is = (λ same. is, kept_given ticket firm out tickets is)

-- of batches in limbo each is done with a number behind them at most
kept_done : (ticket firm seq : ℕ) (tickets : List ℕ) (batches : List (List Op)) → seq + count_ops batches ≤ firm → KeptWithin ticket firm (done_each seq tickets batches)
kept_done ticket firm seq [] batches least = tt
kept_done ticket firm seq (first ∷ tickets) [] least =
    let here : seq ≤ firm = omega (arith, least) in
    (λ same. here, kept_done ticket firm seq tickets [] least)
kept_done ticket firm seq (first ∷ tickets) (ops ∷ batches) least =
    let here : seq_behind seq (ops ∷ batches) ≤ firm = omega (arith, least) in
    (λ same. here, kept_done ticket firm (seq_behind seq (ops ∷ batches)) tickets batches (omega (arith, least)))

-- and of a ticket that is none of those nothing is said
kept_others : (ticket firm seq : ℕ) (tickets : List ℕ) (batches : List (List Op)) → (any ticket tickets ≡ true → ⊥) → KeptWithin ticket firm (done_each seq tickets batches)
kept_others ticket firm seq [] batches none = tt
kept_others ticket firm seq (first ∷ tickets) batches none = (
  λ same. absurd (none (first_or (first == ticket) (any ticket tickets) (eq-eqb first ticket same))),
  kept_others ticket firm (seq_behind seq batches) tickets (drop 1 batches) (λ is. none (second_or (first == ticket) (any ticket tickets) is)),
)

found_within : (ticket firm : ℕ) (entry : ℕ × Outcome) (rest : Option (ℕ × Outcome)) (b : Bool) → (entry.0 == ticket) ≡ b → (entry.0 ≡ ticket → IsWithin firm entry.1)
    → IfSome (option_map (λ (e : ℕ × Outcome). e.1) rest) (IsWithin firm) → IfSome (option_map (λ (e : ℕ × Outcome). e.1) (cond b (Some entry) rest)) (IsWithin firm)
found_within ticket firm entry rest true is here behind = here (eqb-true entry.0 ticket is)
found_within ticket firm entry rest false is here behind = behind

kept_within : (ticket firm : ℕ) (outcomes : List (ℕ × Outcome)) → KeptWithin ticket firm outcomes → IfSome (outcome_kept ticket outcomes) (IsWithin firm)
kept_within ticket firm [] kept = tt
kept_within ticket firm (entry ∷ outcomes) kept =
    found_within ticket firm entry (find (λ (e : ℕ × Outcome). e.0 == ticket) outcomes) (entry.0 == ticket) refl kept.0 (kept_within ticket firm outcomes kept.1)

told_within : (firm seq : ℕ) (kept : Option Outcome) (on_way : Bool) → IfSome kept (IsWithin firm)
    → unwrap_or kept (if on_way then outcome.Waiting else outcome.Unknown) ≡ outcome.Done seq → seq ≤ firm
told_within firm seq None true within same = cc
told_within firm seq None false within same = cc
told_within firm seq (Some outcome.Waiting) on_way within same = cc
told_within firm seq (Some outcome.Unknown) on_way within same = cc
told_within firm seq (Some (outcome.Done other)) on_way within same = let is : other ≡ seq = cc in omega (arith, is, within)
told_within firm seq (Some (outcome.Failed failure)) on_way within same = cc
told_within firm seq (Some outcome.Closed) on_way within same = cc
told_within firm seq (Some (outcome.Turned failure)) on_way within same = cc

-- ---- a ticket of a synced batch, on its way

-- each batch that waits under it is to be synced
abbrev pub WaitSynced : ℕ → List Ticketed → Type 0
WaitSynced ticket [] = Unit {0}
WaitSynced ticket (member ∷ waiting) = (member.ticket ≡ ticket → member.batch.sync ≡ true) × WaitSynced ticket waiting

abbrev pub IsSync : Act → Type 0
IsSync SyncLog = Unit {0}
IsSync other = ⊥

-- the last of these calls is the sync
abbrev pub EndsSynced : List Act → Type 0
EndsSynced [] = ⊥
EndsSynced (act ∷ []) = IsSync act
EndsSynced (act ∷ next ∷ later) = EndsSynced (next ∷ later)

-- the group in flight ends with a sync, where the ticket is one of its
abbrev pub RunsSynced : ℕ → Option Group → Type 0
RunsSynced ticket None = Unit {0}
RunsSynced ticket (Some group) = any ticket group.tickets ≡ true → EndsSynced (left_of group)

-- So it is of a ticket, where that many tickets were given.
pub record IsSynced (ticket last : ℕ) (s : State) : Type 0 where
  pub last_is : s.writing.last_ticket ≡ last
  pub kept : KeptWithin ticket (firm_seq s.story) s.writing.outcomes
  pub waits : WaitSynced ticket s.writing.waiting
  pub runs : RunsSynced ticket s.jobs.write.running

-- what is told to be done is firm
pub done_firm : (ticket last seq : ℕ) (s : State) → IsSynced ticket last s → outcome_of s ticket ≡ outcome.Done seq → seq ≤ firm_seq s.story
done_firm ticket last seq s synced same =
    told_within (firm_seq s.story) seq (outcome_kept ticket s.writing.outcomes) (is_on_its_way ticket s) (kept_within ticket (firm_seq s.story) s.writing.outcomes synced.kept) same

-- ---- write steps

-- behind a call with or without a sync, the calls left end with one, or there are none and it was that
abbrev pub SyncsLast : Bool → List Act → Type 0
SyncsLast sync [] = sync ≡ true
SyncsLast sync (act ∷ later) = EndsSynced (act ∷ later)

behind_sync : (later : List Act) → EndsSynced (SyncLog ∷ later) → SyncsLast true later
behind_sync [] ends = refl
behind_sync (act ∷ later) ends = ends

behind_other : (act : Act) (later : List Act) → (IsSync act → ⊥) → EndsSynced (act ∷ later) → SyncsLast false later
behind_other act [] other ends = absurd (other ends)
behind_other act (next ∷ later) other ends = ends

drop_more : (count : ℕ) (xs : List Act) (x : Act) (rest : List Act) → drop count xs ≡ x ∷ rest → drop (suc count) xs ≡ rest
drop_more zero [] x rest is = cc
drop_more zero (y ∷ xs) x rest is = cc
drop_more (suc count) [] x rest is = cc
drop_more (suc count) (y ∷ xs) x rest is = drop_more count xs x rest is

one_dropped : (count : ℕ) (xs : List Act) (x : Act) (rest : List Act) → drop count xs ≡ x ∷ rest → drop (count + 1) xs ≡ rest
one_dropped count xs x rest is = let e : count + 1 ≡ suc count = omega arith in subst (λ n. drop n xs ≡ rest) (sym e) (drop_more count xs x rest is)

module _ (ticket last : ℕ) where
  published_kept : (sync : Bool) (tickets : List ℕ) (story : Story) → (any ticket tickets ≡ true → sync ≡ true)
      → KeptWithin ticket (firm_seq (published sync story)) (done_each (point_of story).seq tickets story.limbo)
  published_kept true tickets story ends = kept_done ticket (firm_seq (published true story)) (point_of story).seq tickets story.limbo (omega (arith, published_firm story))
  published_kept false tickets story ends = kept_others ticket (firm_seq (published false story)) (point_of story).seq tickets story.limbo (λ is. let no : false ≡ true = ends is in cc)

  synced_goes_on : (sync : Bool) (group : Group) (later : List Act) (s : State) → s.writing.last_ticket ≡ last → KeptWithin ticket (firm_seq s.story) s.writing.outcomes → WaitSynced ticket s.writing.waiting
      → (any ticket group.tickets ≡ true → SyncsLast sync later) → drop (group.progress.made + 1) group.plan ≡ later → IsSynced ticket last (goes_on sync group later s)
  synced_goes_on sync group [] s last_is kept waits ends left = record {
    last_is = last_is;
    kept =
        let firm = firm_seq (published sync s.story) in
        kept_append ticket firm s.writing.outcomes (done_each (last_seq s) group.tickets s.story.limbo)
        (kept_more ticket (firm_seq s.story) firm s.writing.outcomes (firm_published sync s.story) kept)
        (published_kept sync group.tickets s.story ends);
    waits = waits;
    runs = tt;
  }
  synced_goes_on sync group (act ∷ later) s last_is kept waits ends left = record {
    last_is = last_is;
    kept = kept;
    waits = waits;
    runs = λ mine. subst EndsSynced (sym left) (ends mine);
  }

  module _ (group : Group) (later : List Act) (s : State) (last_is : s.writing.last_ticket ≡ last) (kept : KeptWithin ticket (firm_seq s.story) s.writing.outcomes) (waits : WaitSynced ticket s.writing.waiting) where
    synced_switched : (log : Option ℕ) → (any ticket group.tickets ≡ true → SyncsLast false later) → drop (group.progress.made + 1) group.plan ≡ later
        → IsSynced ticket last (goes_on false (with_made None group) later (switched log s))
    synced_switched None ends left = synced_goes_on false (with_made None group) later s last_is kept waits ends left
    synced_switched (Some number) ends left = synced_goes_on false (with_made None group) later (switched (Some number) s) last_is kept waits ends left

    synced_act : (act : Act) → (any ticket group.tickets ≡ true → EndsSynced (act ∷ later)) → drop (group.progress.made + 1) group.plan ≡ later
        → IsSynced ticket last (act_done act group later s)
    synced_act CloseLog ends left = synced_goes_on false group later s last_is kept waits (λ mine. behind_other CloseLog later (λ is. is) (ends mine)) left
    synced_act MakeLog ends left =
        synced_goes_on false (with_made (Some s.numbers.next_file) group) later (file_drawn s) last_is kept waits (λ mine. behind_other MakeLog later (λ is. is) (ends mine)) left
    synced_act SyncDirectory ends left = synced_switched group.progress.log (λ mine. behind_other SyncDirectory later (λ is. is) (ends mine)) left
    synced_act AddRecords ends left =
        synced_goes_on false (record group { batches = [] }) later
        (batches_handed group (with_log (log_longer _ s.segments.active.log) s)) last_is kept waits
        (λ mine. behind_other AddRecords later (λ is. is) (ends mine)) left
    synced_act SyncLog ends left = synced_goes_on true group later s last_is kept waits (λ mine. behind_sync later (ends mine)) left

    failed_kept : (failure : Failure) → KeptWithin ticket (firm_seq s.story) (s.writing.outcomes ++ given (outcome.Failed failure) group.tickets)
    failed_kept failure =
        kept_append ticket (firm_seq s.story) s.writing.outcomes (given (outcome.Failed failure) group.tickets) kept
        (kept_given ticket (firm_seq s.story) (outcome.Failed failure) group.tickets tt)

    synced_act_failed : (act : Act) (failure : Failure) → IsSynced ticket last (act_failed act group failure s)
    synced_act_failed CloseLog failure = record { last_is = last_is; kept = failed_kept failure; waits = waits; runs = tt }
    synced_act_failed MakeLog failure = record { last_is = last_is; kept = failed_kept failure; waits = waits; runs = tt }
    synced_act_failed SyncDirectory failure = record { last_is = last_is; kept = failed_kept failure; waits = waits; runs = tt }
    synced_act_failed AddRecords failure = record { last_is = last_is; kept = failed_kept failure; waits = waits; runs = tt }
    synced_act_failed SyncLog failure = record { last_is = last_is; kept = failed_kept failure; waits = waits; runs = tt }

  synced_first : (group : Group) (left : List Act) (s : State) → left_of group ≡ left → RunsSynced ticket (Some group) → IsSynced ticket last s → IsSynced ticket last (first_done group left s)
  synced_first group [] s is runs synced = synced
  synced_first group (act ∷ later) s is runs synced =
      synced_act group later s synced.last_is synced.kept synced.waits act (λ mine. subst EndsSynced is (runs mine)) (one_dropped group.progress.made group.plan act later is)

  synced_group : (running : Option Group) (s : State) → s.jobs.write.running ≡ running → IsSynced ticket last s → IsSynced ticket last (group_done running s)
  synced_group None s is synced = synced
  synced_group (Some group) s is synced = synced_first group (left_of group) s refl (subst (RunsSynced ticket) is synced.runs) synced

  synced_first_failed : (group : Group) (left : List Act) (failure : Failure) (s : State) → IsSynced ticket last s → IsSynced ticket last (first_failed group left failure s)
  synced_first_failed group [] failure s synced = synced
  synced_first_failed group (act ∷ later) failure s synced = synced_act_failed group later s synced.last_is synced.kept synced.waits act failure

  synced_group_failed : (running : Option Group) (failure : Failure) (s : State) → IsSynced ticket last s → IsSynced ticket last (group_failed running failure s)
  synced_group_failed None failure s synced = synced
  synced_group_failed (Some group) failure s synced = synced_first_failed group (left_of group) failure s synced

  -- ---- forming a group

  waits_drop : (count : ℕ) (waiting : List Ticketed) → WaitSynced ticket waiting → WaitSynced ticket (drop count waiting)
  waits_drop zero waiting waits = waits
  waits_drop (suc count) [] waits = tt
  waits_drop (suc count) (member ∷ waiting) waits = waits_drop count waiting waits.1

  wants : (count : ℕ) (waiting : List Ticketed) → WaitSynced ticket waiting → any ticket (take count (tickets_of waiting)) ≡ true → wants_sync (take count (batches_of waiting)) ≡ true
  wants zero waiting waits mine = cc
  wants (suc count) [] waits mine = cc
  wants (suc count) (member ∷ waiting) waits mine =
      either (member.ticket == ticket) (any ticket (take count (tickets_of waiting))) (wants_sync (take (suc count) (batches_of (member ∷ waiting))) ≡ true)
      (λ is. first_or member.batch.sync (wants_sync (take count (batches_of waiting))) (waits.0 (eqb-true member.ticket ticket is)))
      (λ is. second_or member.batch.sync (wants_sync (take count (batches_of waiting))) (wants count waiting waits.1 is))
      mine

  plan_synced : (switches sync : Bool) → sync ≡ true → EndsSynced (group_plan switches sync)
  plan_synced true true is = tt
  plan_synced false true is = tt
  plan_synced switches false is = cc

  synced_started : (waiting : List Ticketed) (s : State) → WaitSynced ticket waiting → IsSynced ticket last s → IsSynced ticket last (started waiting s)
  synced_started [] s waits synced = synced
  synced_started (first ∷ rest) s waits synced =
      let all : List Ticketed = first ∷ rest in
      record {
        last_is = synced.last_is;
        kept = synced.kept;
        waits = waits_drop (next_size all) all waits;
        runs = λ mine. plan_synced (is_full s) (wants_sync (next_batches all)) (wants (next_size all) all waits mine);
      }

  synced_ready : (running : Option Group) (s : State) → IsSynced ticket last s → IsSynced ticket last (started_or running s)
  synced_ready None s synced = synced_started s.writing.waiting s synced.waits synced
  synced_ready (Some group) s synced = synced

  synced_done : (s : State) → IsSynced ticket last s → IsSynced ticket last (call_done s)
  synced_done s synced = synced_group (ready s).jobs.write.running (ready s) refl (synced_ready s.jobs.write.running s synced)

  synced_failed : (failure : Failure) (s : State) → IsSynced ticket last s → IsSynced ticket last (call_failed failure s)
  synced_failed failure s synced = synced_group_failed (ready s).jobs.write.running failure (ready s) (synced_ready s.jobs.write.running s synced)

  synced_turned : (failure : Failure) (s : State) → IsSynced ticket last s → IsSynced ticket last (queue_turned failure s)
  synced_turned failure s synced = record {
    last_is = synced.last_is;
    kept =
        let tickets = map (λ (member : Ticketed). member.ticket) s.writing.waiting in
        kept_append ticket (firm_seq s.story) s.writing.outcomes (given (outcome.Turned failure) tickets) synced.kept
        (kept_given ticket (firm_seq s.story) (outcome.Turned failure) tickets tt);
    waits = tt;
    runs = synced.runs;
  }

  pub synced_written : (s : State) (made : WriteStep) → IsSynced ticket last s → IsSynced ticket last (write_after s made)
  synced_written s (step.Moved job call) synced = synced_done s synced
  synced_written s (step.Done job seq batches) synced = synced_done s synced
  synced_written s (step.Failed failure) synced = synced_failed failure s synced
  synced_written s (step.Turned batches failure) synced = synced_turned failure s synced
  synced_written s step.Idle synced = synced
  synced_written s (step.Full active immutables) synced = synced
  synced_written s (step.Spent counter) synced = synced
  synced_written s (step.Cancelled job current) synced = synced
  synced_written s step.OutOfMemory synced = synced

  -- ---- other turns

  -- the device alone differs
  pub synced_seen : (s : State) (device : Seen) → IsSynced ticket last s → IsSynced ticket last (record s { device = device })
  synced_seen s device synced = record { last_is = synced.last_is; kept = synced.kept; waits = synced.waits; runs = synced.runs }

  pub synced_taken : (s : State) (taken : ℕ) (out : Outcome) (device : Seen) → IsSynced ticket last s → IsSynced ticket last (after s (TakingOutcome taken out) device)
  synced_taken s taken out device synced = record {
    last_is = synced.last_is;
    kept = kept_filter ticket (firm_seq s.story) (λ entry. not (entry.0 == taken)) s.writing.outcomes synced.kept;
    waits = synced.waits;
    runs = synced.runs;
  }

  -- the same queue, on a story with more that is firm
  synced_same : (s next : State) → next.writing ≡ s.writing → next.jobs.write ≡ s.jobs.write → firm_seq s.story ≤ firm_seq next.story → IsSynced ticket last s → IsSynced ticket last next
  synced_same s next writing group firm synced = record {
    last_is = ap (λ (w : Writing). w.last_ticket) writing ∙ synced.last_is;
    kept = kept_more ticket (firm_seq s.story) (firm_seq next.story) next.writing.outcomes firm (subst (λ (w : Writing). KeptWithin ticket (firm_seq s.story) w.outcomes) (sym writing) synced.kept);
    waits = subst (λ (w : Writing). WaitSynced ticket w.waiting) (sym writing) synced.waits;
    runs = subst (λ (slot : Slot Group). RunsSynced ticket slot.running) (sym group) synced.runs;
  }

  -- a resume is asked for, and a group may be over, whose tickets aren't done
  pub synced_begun : (s : State) (answer : Start) → IsSynced ticket last s → IsSynced ticket last (start_after s answer)
  synced_begun s answer synced =
      each_start (IsSynced ticket last) s answer synced
      (record { last_is = synced.last_is; kept = synced.kept; waits = synced.waits; runs = synced.runs })
      (record { last_is = synced.last_is; kept = synced.kept; waits = synced.waits; runs = tt })
      (λ failure. record {
        last_is = synced.last_is;
        kept =
            let tickets = tickets_of_group s.jobs.write.running in
            kept_append ticket (firm_seq s.story) s.writing.outcomes (given (outcome.Failed failure) tickets) synced.kept
            (kept_given ticket (firm_seq s.story) (outcome.Failed failure) tickets tt);
        waits = synced.waits;
        runs = tt;
      })

  -- the store is closed, and tickets without an outcome get one that is no Done
  pub synced_closed : (s : State) → IsSynced ticket last s → IsSynced ticket last (close_after s)
  synced_closed s synced = record {
    last_is = synced.last_is;
    kept =
        kept_append ticket (firm_seq s.story) s.writing.outcomes (given outcome.Closed (open_tickets s)) synced.kept
        (kept_given ticket (firm_seq s.story) outcome.Closed (open_tickets s) tt);
    waits = tt;
    runs = tt;
  }

waits_queued : (ticket : ℕ) (batch : Batch) (given_as : ℕ) (waiting : List Ticketed) → WaitSynced ticket waiting → (given_as ≡ ticket → batch.sync ≡ true)
    → WaitSynced ticket (waiting ++ (record { ticket = given_as; batch = batch }) ∷ [])
waits_queued ticket batch given_as [] waits is = (is, tt)
waits_queued ticket batch given_as (member ∷ waiting) waits is = (waits.0, waits_queued ticket batch given_as waiting waits.1 is)

pub synced_queued : (ticket last : ℕ) (s : State) (batch : Batch) → IsSynced ticket last s → (last + 1 ≡ ticket → batch.sync ≡ true) → IsSynced ticket (last + 1) (queued batch s)
synced_queued ticket last s batch synced is = record {
  last_is = ap (λ (n : ℕ). n + 1) synced.last_is;
  kept = synced.kept;
  waits = waits_queued ticket batch (s.writing.last_ticket + 1) s.writing.waiting synced.waits (λ same. is (sym (ap (λ (n : ℕ). n + 1) synced.last_is) ∙ same));
  runs = synced.runs;
}

-- ---- tickets that weren't given yet

-- in a store that is open each of them is so
abbrev pub Fresh : State → Type 0
Fresh s = is_open s.mode.phase ≡ true → (ticket : ℕ) → s.writing.last_ticket < ticket → IsSynced ticket s.writing.last_ticket s

fresh_on : (s next : State) → is_open s.mode.phase ≡ true → ((ticket : ℕ) → IsSynced ticket s.writing.last_ticket s → IsSynced ticket s.writing.last_ticket next) → Fresh s → Fresh next
fresh_on s next opened keeps fresh = λ opens ticket above.
    let same : next.writing.last_ticket ≡ s.writing.last_ticket = (keeps (s.writing.last_ticket + 1) (fresh opened (s.writing.last_ticket + 1) (omega arith))).last_is in
    subst (λ n. IsSynced ticket n next) (sym same) (keeps ticket (fresh opened ticket (omega (arith, above, same))))

fresh_admitted : (s : State) (batch : Batch) (answer : Admit) (device : Seen) → is_open s.mode.phase ≡ true → Fresh s → Fresh (after s (Admitting batch answer) device)
fresh_admitted s batch (admit.Queued given_as) device opened fresh = λ opens ticket above.
    synced_seen ticket (s.writing.last_ticket + 1) (queued batch s) device
    (synced_queued ticket s.writing.last_ticket s batch (fresh opened ticket (omega (arith, above))) (λ same. absurd (omega (arith, above, same))))
fresh_admitted s batch (admit.BadSize part size) device opened fresh = fresh_on s _ opened (λ ticket. synced_seen ticket s.writing.last_ticket s device) fresh
fresh_admitted s batch admit.Closing device opened fresh = fresh_on s _ opened (λ ticket. synced_seen ticket s.writing.last_ticket s device) fresh
fresh_admitted s batch admit.Booting device opened fresh = fresh_on s _ opened (λ ticket. synced_seen ticket s.writing.last_ticket s device) fresh
fresh_admitted s batch (admit.Stopped failure) device opened fresh = fresh_on s _ opened (λ ticket. synced_seen ticket s.writing.last_ticket s device) fresh
fresh_admitted s batch (admit.Spent counter) device opened fresh = fresh_on s _ opened (λ ticket. synced_seen ticket s.writing.last_ticket s device) fresh
fresh_admitted s batch (admit.Full active immutables) device opened fresh = fresh_on s _ opened (λ ticket. synced_seen ticket s.writing.last_ticket s device) fresh
fresh_admitted s batch (admit.QueueFull waiting) device opened fresh = fresh_on s _ opened (λ ticket. synced_seen ticket s.writing.last_ticket s device) fresh
fresh_admitted s batch admit.OutOfMemory device opened fresh = fresh_on s _ opened (λ ticket. synced_seen ticket s.writing.last_ticket s device) fresh

seen_fresh : (s : State) (device : Seen) → Fresh s → Fresh (record s { device = device })
seen_fresh s device fresh = λ opens ticket above. synced_seen ticket s.writing.last_ticket s device (fresh opens ticket above)

answer_fresh : (s : State) (event : Event) (device : Seen) → MayCall s event → Fresh s → Fresh (after s event device)
answer_fresh s (Opening options (Ok found)) device may fresh = λ opens ticket above. record { last_is = refl; kept = tt; waits = tt; runs = tt }
answer_fresh s (Opening options (Err refused)) device may fresh = seen_fresh s device fresh
answer_fresh s (Admitting batch answer) device may fresh = fresh_admitted s batch answer device may fresh
answer_fresh s (Makes held made) device may fresh =
    fresh_on s (after s (Makes held made) device) may
    (λ ticket synced. synced_seen ticket s.writing.last_ticket (write_after s made) device (synced_written ticket s.writing.last_ticket s made synced)) fresh
answer_fresh s (Resuming drafts held made) device may fresh =
    let more = firm_resumed s drafts made in
    fresh_on s (after s (Resuming drafts held made) device) may
    (λ ticket. synced_same ticket s.writing.last_ticket s (after s (Resuming drafts held made) device) more.writing more.group more.firm) fresh
answer_fresh s (Flushing draft held made) device may fresh =
    let same = beside s draft made in
    fresh_on s (after s (Flushing draft held made) device) may
    (λ ticket. synced_same ticket s.writing.last_ticket s (after s (Flushing draft held made) device) same.writing same.group (omega (arith, ap firm_seq same.story))) fresh
answer_fresh s (TakingOutcome taken out) device may fresh =
    fresh_on s (after s (TakingOutcome taken out) device) may (λ ticket. synced_taken ticket s.writing.last_ticket s taken out device) fresh
answer_fresh s (Getting key got) device may fresh = seen_fresh s device fresh
answer_fresh s (Scanning from to scanned) device may fresh = seen_fresh s device fresh
answer_fresh s (Listing answer) device may fresh = seen_fresh s device fresh
answer_fresh s (TellingError standing) device may fresh = seen_fresh s device fresh
answer_fresh s (TellingLevels view) device may fresh = seen_fresh s device fresh
answer_fresh s (Arranging rule answer) device may fresh = seen_fresh s device fresh
answer_fresh s (Crashing pick (Some count)) device may fresh = λ opens. cc
answer_fresh s (Crashing pick None) device may fresh = λ opens. cc
answer_fresh s (Starting answer) device may fresh =
    fresh_on s (after s (Starting answer) device) may
    (λ ticket synced. synced_seen ticket s.writing.last_ticket (start_after s answer) device (synced_begun ticket s.writing.last_ticket s answer synced)) fresh
answer_fresh s (ShuttingDown tickets) device may fresh =
    fresh_on s (after s (ShuttingDown tickets) device) may
    (λ ticket synced. synced_seen ticket s.writing.last_ticket (close_after s) device (synced_closed ticket s.writing.last_ticket s synced)) fresh
answer_fresh s Finishing device may fresh = λ opens. cc

pub keep_fresh : (old new : State) (event : Event) → MayCall old event → Turn old event new → Fresh old → Fresh new
keep_fresh old new event may turn fresh = subst Fresh (sym turn.1) (answer_fresh old event new.device may fresh)
