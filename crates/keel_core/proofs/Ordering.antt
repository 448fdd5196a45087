-- What is true of every core stays true.
use Rattle.std.proofs.Common.{◌≡◌, ℕ, ◌+◌, ◌<◌, ◌≤◌, ◌^◌, List, [], ◌∷◌, ◌++◌, length, drop, filter, not, ◌==◌, Option, Some, None, refl, sym, ap, subst, ◌∙◌, arith, add-zero, vec_len, vec_capacity, cond, Bool, true, false}
use Rattle.std.proofs.lemmas.List.{length-append}
use Rattle.std.proofs.lemmas.List.Elements.{All-nil, All-append}
use Rattle.std.specs.List.{AllByRecursion}
use Rattle.std.specs.Prelude.{All}
use Rattle.keel_base.specs.declared.op.Batch.{Batch}
use Rattle.keel_base.specs.declared.op.Op.{Op}
use Rattle.keel_base.specs.declared.row.Row.{Row}
use Rattle.keel_base.specs.Weight.{AreAdmissible}
use Rattle.keel_group.specs.Forming.{EachIsAdmissible}
use Rattle.keel_group.specs.Queue.{Ticketed, ticketed, batches_of}
use Rattle.keel_machine.specs.declared.answers.Outcome.{Outcome}
use Rattle.keel_machine.specs.Admission.{ops_of}
use Rattle.keel_draft.specs.Drafts.{batch_rows, count_ops}
use Rattle.keel_machine.specs.WritingAfter.{done_each, seq_behind}
use Rattle.keel_core.specs.declared.queue.Queue.{Queue}
use Rattle.keel_core.specs.declared.trail.Trail.{Trail}
use Rattle.keel_core.specs.declared.flight.Act.{Act}
use Rattle.keel_core.specs.declared.flight.Act.TheVariants.{AddRecords}
use Rattle.keel_core.specs.Flights.{FlightShown, batches_flying, flying, gone_to, tickets_flying, without_batches}
use Rattle.keel_core.specs.Orders.{IsInOrder, IsSettled}
use Rattle.keel_core.specs.Queues.{given}
use Rattle.keel_core.specs.Steps.{all_published}
use Rattle.keel_core.specs.Trails.{TrailShown, handed, limbo_in, published, seq_in, shown}
use Rattle.keel_core.specs.Views.{CoreView, IsOnPlan, last_in}
use Rattle.keel_mem.specs.Shown.{MemShown}
use Rattle.keel_core.specs.Placing.{bytes_needed}
use Rattle.keel_core.proofs.Lists.{count_ops-append}
use Rattle.keel_core.proofs.Rooms.{HasRoomMore, handed_held, joined_held, joined_ops, over_held, published_held, turned_held}
use Rattle.keel_core.proofs.Stories as stories

-- ---- outcomes

abbrev pub AllSettled : List (ℕ × Outcome) → Type 0
AllSettled outcomes = AllByRecursion (λ (entry : ℕ × Outcome). IsSettled entry.1) outcomes

pub all_settled-append : (front back : List (ℕ × Outcome)) → AllSettled front → AllSettled back → AllSettled (front ++ back)
all_settled-append [] back a b = b
all_settled-append (entry ∷ front) back a b = (a.0, all_settled-append front back a.1 b)

pub all_settled-filter : (test : ℕ × Outcome → Bool) (outcomes : List (ℕ × Outcome)) → AllSettled outcomes → AllSettled (filter test outcomes)
all_settled-filter test [] h = tt
all_settled-filter test (entry ∷ outcomes) h =
    let rest = all_settled-filter test outcomes h.1 in
    elim (test entry) as (λ b. AllSettled (cond b (entry ∷ filter test outcomes) (filter test outcomes))) [ true ↦ (h.0, rest) | false ↦ rest ]

pub given_settled : (outcome : Outcome) (tickets : List ℕ) → IsSettled outcome → AllSettled (given outcome tickets)
given_settled outcome [] h = tt
given_settled outcome (ticket ∷ tickets) h = (h, given_settled outcome tickets h)

pub done_settled : (seq : ℕ) (tickets : List ℕ) (batches : List (List Op)) → AllSettled (done_each seq tickets batches)
done_settled seq [] batches = tt
done_settled seq (ticket ∷ tickets) batches = (tt, done_settled (seq_behind seq batches) tickets (drop 1 batches))

staged_without : (group : Option FlightShown) → IsOnPlan group → IsOnPlan (without_batches group)
staged_without None staged = tt
staged_without (Some flight) staged = staged

-- ---- the group is over

-- what a queue is behind a group that is over, with these outcomes
pub record IsOver (old new : Queue) (outcomes : List (ℕ × Outcome)) : Type 0 where
  pub waiting : new.waiting.items ≡ old.waiting.items
  pub group : new.group ≡ None
  pub added : new.outcomes.items ≡ old.outcomes.items ++ outcomes
  pub len : vec_len new.outcomes ≡ vec_len old.outcomes + length (tickets_flying (flying old.group))
  pub room : vec_capacity new.outcomes ≡ vec_capacity old.outcomes
  pub ticket : new.last_ticket ≡ old.last_ticket
  pub job : new.job ≡ old.job

pub cancelled_in_order : (mem : MemShown) (trail : Trail) (old new : Queue) (segments : ℕ) (last_seq handed_seq next_file : ℕ) (outcomes : List (ℕ × Outcome))
    → IsInOrder mem trail old segments last_seq handed_seq next_file
    → new.waiting.items ≡ old.waiting.items → new.group ≡ None → new.outcomes.items ≡ old.outcomes.items ++ outcomes
    → vec_len new.outcomes ≡ vec_len old.outcomes + length (tickets_flying (flying old.group)) → vec_capacity new.outcomes ≡ vec_capacity old.outcomes
    → new.last_ticket ≡ old.last_ticket → new.job ≤ 2 ^ 56 → AllSettled outcomes
    → IsInOrder mem trail new segments last_seq handed_seq next_file
cancelled_in_order mem trail old new segments last_seq handed_seq next_file outcomes order waiting group added len room ticket job settled =
    record {
      seq = order.seq;
      handed = order.handed;
      enough = rw (group, waiting) (omega (arith, order.enough));
      limbo = order.limbo;
      group = rw group (All-nil _);
      few = rw group (omega arith);
      staged = rw group tt;
      settled = rw added (all_settled-append old.outcomes.items outcomes order.settled settled);
      held = rw (group, waiting) (over_held mem (shown trail) (flying old.group) old.waiting.items order.held);
      trail_room = rw (group, waiting) (omega (arith, order.trail_room));
      outcome_room = rw (group, waiting) (omega (arith, order.outcome_room, len, room));
      job = job;
      ticket = omega (arith, order.ticket, ticket);
      few_segments = order.few_segments;
      file = order.file;
    }

pub over_in_order : (mem : MemShown) (trail : Trail) (old new : Queue) (segments : ℕ) (last_seq handed_seq next_file : ℕ) (outcomes : List (ℕ × Outcome))
    → IsInOrder mem trail old segments last_seq handed_seq next_file → IsOver old new outcomes → AllSettled outcomes
    → IsInOrder mem trail new segments last_seq handed_seq next_file
over_in_order mem trail old new segments last_seq handed_seq next_file outcomes order q settled =
    cancelled_in_order mem trail old new segments last_seq handed_seq next_file outcomes order q.waiting q.group q.added q.len q.room q.ticket (omega (arith, order.job, q.job)) settled

-- ---- batches are handed over

-- what a queue is behind batches that were handed out
pub record IsTakenFrom (old new : Queue) : Type 0 where
  pub waiting : new.waiting.items ≡ old.waiting.items
  pub group : flying new.group ≡ without_batches (flying old.group)
  pub outcomes : new.outcomes ≡ old.outcomes
  pub ticket : new.last_ticket ≡ old.last_ticket
  pub job : new.job ≡ old.job

-- what a trail is behind batches that were handed to the log
pub record IsHanded (trail behind : Trail) (batches : List Batch) : Type 0 where
  pub shows : shown behind ≡ handed (ops_of batches) (shown trail)
  pub limbo : limbo_in behind ≡ limbo_in trail ++ batches
  pub len : vec_len behind.batches ≡ vec_len trail.batches + length batches
  pub room : vec_capacity trail.batches ≤ vec_capacity behind.batches

none_left : (group : Option FlightShown) → batches_flying (without_batches group) ≡ []
none_left None = refl
none_left (Some group) = refl

same_tickets : (group : Option FlightShown) → tickets_flying (without_batches group) ≡ tickets_flying group
same_tickets None = refl
same_tickets (Some group) = refl

pub handed_in_order : (mem : MemShown) (trail behind : Trail) (old new : Queue) (segments : ℕ) (last_seq handed_seq next_file more : ℕ) (batches : List Batch)
    → IsInOrder mem trail old segments last_seq handed_seq next_file → IsTakenFrom old new → batches ≡ batches_flying (flying old.group) → more ≡ count_ops (ops_of batches)
    → IsHanded trail behind batches
    → IsInOrder mem behind new segments last_seq (handed_seq + more) next_file
handed_in_order mem trail behind old new segments last_seq handed_seq next_file more batches order q taken more_is h =
    let waiting = q.waiting in
    let group = q.group in
    let none = none_left (flying old.group) in
    let tickets = same_tickets (flying old.group) in
    let ops = ap (λ (l : List Batch). count_ops (ops_of l)) taken in
    let size = ap length taken in
    let now = ap (λ (t : TrailShown). count_ops t.limbo) h.shows ∙ count_ops-append (shown trail).limbo (ops_of batches) in
    record {
      seq = order.seq ∙ ap (λ (t : TrailShown). seq_in t) (sym h.shows);
      handed = omega (arith, order.handed, more_is, now);
      enough = rw (group, none, waiting) (omega (arith, order.enough, more_is, ops));
      limbo = subst EachIsAdmissible (sym h.limbo) (All-append (λ (batch : Batch). AreAdmissible batch.ops) (limbo_in trail) batches order.limbo (subst EachIsAdmissible (sym taken) order.group));
      group = rw (group, none) (All-nil _);
      few = rw (group, tickets) order.few;
      staged = rw group (staged_without (flying old.group) order.staged);
      settled = rw q.outcomes order.settled;
      held = rw (h.shows, group, waiting) (handed_held mem (shown trail) (flying old.group) old.waiting.items batches taken none order.held);
      trail_room = rw (group, none, waiting) (omega (arith, order.trail_room, h.len, size, h.room));
      outcome_room = rw (group, tickets, waiting, q.outcomes) order.outcome_room;
      job = omega (arith, order.job, q.job);
      ticket = omega (arith, order.ticket, q.ticket);
      few_segments = order.few_segments;
      file = order.file;
    }

-- ---- batches are published

pub seq_published : (trail : TrailShown) (sync : Bool) (last_seq handed_seq : ℕ) → last_seq ≡ seq_in trail → handed_seq ≡ last_seq + count_ops trail.limbo
    → handed_seq ≡ seq_in (published sync trail)
seq_published trail sync last_seq handed_seq last handed_is = omega (arith, last, handed_is, stories.seq_published trail sync)

-- the rows of what was in limbo are in the memtable
pub record ArePlaced (mem behind : MemShown) (trail : TrailShown) : Type 0 where
  pub rows : behind.rows ≡ mem.rows ++ batch_rows (seq_in trail + 1) trail.limbo
  pub bytes : behind.bytes + bytes_needed trail.limbo ≡ mem.bytes
  pub entries : behind.entries + count_ops trail.limbo ≡ mem.entries

-- what a trail is behind a publication
pub record IsPublished (sync : Bool) (trail behind : Trail) : Type 0 where
  pub shows : shown behind ≡ published sync (shown trail)
  pub limbo : limbo_in behind ≡ []
  pub len : vec_len behind.batches ≡ vec_len trail.batches
  pub room : vec_capacity behind.batches ≡ vec_capacity trail.batches

-- what was in limbo was published, and the group is over
pub published_in_order : (mem more_mem : MemShown) (trail behind : Trail) (old new : Queue) (segments : ℕ) (last_seq handed_seq next_file : ℕ) (sync : Bool) (outcomes : List (ℕ × Outcome))
    → IsInOrder mem trail old segments last_seq handed_seq next_file → IsOver old new outcomes → AllSettled outcomes → IsPublished sync trail behind
    → ArePlaced mem more_mem (shown trail)
    → IsInOrder more_mem behind new segments handed_seq handed_seq next_file
published_in_order mem more_mem trail behind old new segments last_seq handed_seq next_file sync outcomes order q settled t placed =
    let over = over_in_order mem trail old new segments last_seq handed_seq next_file outcomes order q settled in
    record {
      seq = seq_published (shown trail) sync last_seq handed_seq order.seq order.handed ∙ ap (λ (s : TrailShown). seq_in s) (sym t.shows);
      handed = subst (λ (s : TrailShown). handed_seq ≡ handed_seq + count_ops s.limbo) (sym t.shows) (sym (add-zero handed_seq));
      enough = over.enough;
      limbo = subst EachIsAdmissible (sym t.limbo) (All-nil _);
      group = over.group;
      few = over.few;
      staged = over.staged;
      settled = over.settled;
      held = rw (t.shows, q.group, q.waiting) (published_held mem more_mem (shown trail) (flying old.group) old.waiting.items sync order.held placed.rows placed.bytes placed.entries);
      trail_room = omega (arith, over.trail_room, t.len, t.room);
      outcome_room = over.outcome_room;
      job = over.job;
      ticket = over.ticket;
      few_segments = over.few_segments;
      file = over.file;
    }

-- what is shown behind a publication
pub published_view : (sync : Bool) (view : CoreView) (trail : TrailShown) (rows : List Row) (waiting : List Ticketed) (group : Option FlightShown) (outcomes : List (ℕ × Outcome)) (last_ticket job last : ℕ) (limbo : List (List Op))
    → trail ≡ published sync view.trail → rows ≡ view.rows ++ batch_rows (last + 1) limbo → waiting ≡ view.waiting → group ≡ None
    → outcomes ≡ view.outcomes ++ done_each last (tickets_flying view.group) limbo
    → last_ticket ≡ view.last_ticket → job ≡ view.job → last ≡ last_in view → limbo ≡ view.trail.limbo
    → (record view { trail = trail; rows = rows; waiting = waiting; group = group; outcomes = outcomes; last_ticket = last_ticket; job = job }) ≡ all_published sync view
published_view sync view trail rows waiting group outcomes last_ticket job last limbo t r w g o l j n m = λ i. record view {
  trail = t i;
  rows = (r ∙ (λ k. view.rows ++ batch_rows (n k + 1) (m k))) i;
  waiting = w i;
  group = g i;
  outcomes = (o ∙ (λ k. view.outcomes ++ done_each (n k) (tickets_flying view.group) (m k))) i;
  last_ticket = l i;
  job = j i;
}

-- ---- an outcome was taken

pub taken_in_order : (mem : MemShown) (trail : Trail) (old new : Queue) (segments : ℕ) (last_seq handed_seq next_file ticket : ℕ)
    → IsInOrder mem trail old segments last_seq handed_seq next_file → new.waiting.items ≡ old.waiting.items → new.group ≡ old.group
    → new.outcomes.items ≡ filter (λ entry. not (entry.0 == ticket)) old.outcomes.items → vec_len new.outcomes ≤ vec_len old.outcomes
    → vec_capacity new.outcomes ≡ vec_capacity old.outcomes → new.last_ticket ≡ old.last_ticket → new.job ≡ old.job
    → IsInOrder mem trail new segments last_seq handed_seq next_file
taken_in_order mem trail old new segments last_seq handed_seq next_file ticket order waiting group outcomes len room last job = record {
  seq = order.seq;
  handed = order.handed;
  limbo = order.limbo;
  enough = rw (group, waiting) order.enough;
  group = rw group order.group;
  few = rw group order.few;
  staged = rw group order.staged;
  settled = rw outcomes (all_settled-filter (λ entry. not (entry.0 == ticket)) old.outcomes.items order.settled);
  held = rw (group, waiting) order.held;
  trail_room = rw (group, waiting) order.trail_room;
  outcome_room = rw (group, waiting) (omega (arith, order.outcome_room, len, room));
  job = omega (arith, order.job, job);
  ticket = omega (arith, order.ticket, last);
  few_segments = order.few_segments;
  file = order.file;
}

-- ---- those that wait were turned away

pub turned_in_order : (mem : MemShown) (trail : Trail) (old new : Queue) (segments : ℕ) (last_seq handed_seq next_file : ℕ) (outcomes : List (ℕ × Outcome))
    → IsInOrder mem trail old segments last_seq handed_seq next_file → new.waiting.items ≡ [] → new.group ≡ old.group
    → new.outcomes.items ≡ old.outcomes.items ++ outcomes → AllSettled outcomes → vec_len new.outcomes ≡ vec_len old.outcomes + length old.waiting.items
    → vec_capacity new.outcomes ≡ vec_capacity old.outcomes → new.last_ticket ≡ old.last_ticket → new.job ≡ old.job
    → IsInOrder mem trail new segments last_seq handed_seq next_file
turned_in_order mem trail old new segments last_seq handed_seq next_file outcomes order waiting group added settled len room last job = record {
  seq = order.seq;
  handed = order.handed;
  limbo = order.limbo;
  enough = rw (group, waiting) (omega (arith, order.enough));
  group = rw group order.group;
  few = rw group order.few;
  staged = rw group order.staged;
  settled = rw added (all_settled-append old.outcomes.items outcomes order.settled settled);
  held = rw (group, waiting) (turned_held mem (shown trail) (flying old.group) old.waiting.items order.held);
  trail_room = rw (group, waiting) (omega (arith, order.trail_room));
  outcome_room = rw (group, waiting) (omega (arith, order.outcome_room, len, room));
  job = omega (arith, order.job, job);
  ticket = omega (arith, order.ticket, last);
  few_segments = order.few_segments;
  file = order.file;
}

-- ---- a batch was queued

-- what a queue and a trail are behind a batch that was queued
pub record IsJoined (trail behind : Trail) (old new : Queue) (batch : Batch) : Type 0 where
  pub shows : shown behind ≡ shown trail
  pub limbo : limbo_in behind ≡ limbo_in trail
  pub trail_room : vec_len behind.batches + (length (batches_flying (flying old.group)) + length old.waiting.items + 1) ≤ vec_capacity behind.batches
  pub waiting : new.waiting.items ≡ old.waiting.items ++ ticketed (old.last_ticket + 1) batch ∷ []
  pub group : new.group ≡ old.group
  pub outcomes : new.outcomes.items ≡ old.outcomes.items
  pub outcome_room : vec_len new.outcomes + (length (tickets_flying (flying old.group)) + length old.waiting.items + 1) ≤ vec_capacity new.outcomes
  pub ticket : new.last_ticket ≡ old.last_ticket + 1
  pub job : new.job ≡ old.job

pub joined_in_order : (mem more_mem : MemShown) (trail behind : Trail) (old new : Queue) (segments : ℕ) (last_seq handed_seq next_file : ℕ) (batch : Batch)
    → IsInOrder mem trail old segments last_seq handed_seq next_file → IsJoined trail behind old new batch
    → handed_seq + (count_ops (ops_of (batches_flying (flying old.group))) + count_ops (ops_of (batches_of old.waiting.items))) + length batch.ops ≤ 2 ^ 56 → old.last_ticket < 2 ^ 56 → HasRoomMore mem more_mem batch.ops
    → IsInOrder more_mem behind new segments last_seq handed_seq next_file
joined_in_order mem more_mem trail behind old new segments last_seq handed_seq next_file batch order r enough ticket room_more =
    let group = r.group in
    let waiting = r.waiting in
    let member : List Ticketed = ticketed (old.last_ticket + 1) batch ∷ [] in
    let one : length member ≡ 1 = refl in
    let size = length-append old.waiting.items member in
    let ops = joined_ops old.waiting.items (old.last_ticket + 1) batch in
    record {
      seq = order.seq ∙ ap (λ (t : TrailShown). seq_in t) (sym r.shows);
      handed = subst (λ (t : TrailShown). handed_seq ≡ last_seq + count_ops t.limbo) (sym r.shows) order.handed;
      limbo = subst EachIsAdmissible (sym r.limbo) order.limbo;
      enough = rw (group, waiting) (omega (arith, enough, ops));
      group = rw group order.group;
      few = rw group order.few;
      staged = rw group order.staged;
      settled = rw r.outcomes order.settled;
      held = rw (r.shows, group, waiting) (joined_held mem more_mem (shown trail) (flying old.group) old.waiting.items (old.last_ticket + 1) batch order.held room_more);
      trail_room = rw (group, waiting) (omega (arith, r.trail_room, size, one));
      outcome_room = rw (group, waiting) (omega (arith, r.outcome_room, size, one));
      job = omega (arith, order.job, r.job);
      ticket = omega (arith, ticket, r.ticket);
      few_segments = order.few_segments;
      file = order.file;
    }

-- ---- another segment is active

-- what a queue is whose group goes on
pub record IsMoved (old new : Queue) (next : Act) : Type 0 where
  pub waiting : new.waiting ≡ old.waiting
  pub group : flying new.group ≡ gone_to next (flying old.group)
  pub outcomes : new.outcomes ≡ old.outcomes
  pub ticket : new.last_ticket ≡ old.last_ticket
  pub job : new.job ≡ old.job

same_batches : (next : Act) (group : Option FlightShown) → batches_flying (gone_to next group) ≡ batches_flying group
same_batches next None = refl
same_batches next (Some flight) = refl

tickets_same : (next : Act) (group : Option FlightShown) → tickets_flying (gone_to next group) ≡ tickets_flying group
tickets_same next None = refl
tickets_same next (Some flight) = refl

staged_added : (group : Option FlightShown) → IsOnPlan group → IsOnPlan (gone_to AddRecords group)
staged_added None staged = tt
staged_added (Some flight) staged = tt

pub switched_in_order : (mem next_mem : MemShown) (trail : Trail) (old new : Queue) (segments more : ℕ) (last_seq handed_seq next_file : ℕ)
    → IsInOrder mem trail old segments last_seq handed_seq next_file → IsMoved old new AddRecords → more < 2 ^ 32
    → next_mem.rows ≡ []
    → bytes_needed (shown trail).limbo + bytes_needed (ops_of (batches_flying (flying old.group))) + bytes_needed (ops_of (batches_of old.waiting.items)) ≤ next_mem.bytes
    → count_ops (shown trail).limbo + count_ops (ops_of (batches_flying (flying old.group))) + count_ops (ops_of (batches_of old.waiting.items)) ≤ next_mem.entries
    → IsInOrder next_mem trail new more last_seq handed_seq next_file
switched_in_order mem next_mem trail old new segments more last_seq handed_seq next_file order q few rows bytes entries =
    let group = q.group in
    let batches = same_batches AddRecords (flying old.group) in
    let tickets = tickets_same AddRecords (flying old.group) in
    let waiting = q.waiting in
    record {
      seq = order.seq;
      handed = order.handed;
      enough = rw (group, waiting, batches) order.enough;
      limbo = order.limbo;
      group = rw (group, batches) order.group;
      few = rw (group, tickets) order.few;
      staged = rw group (staged_added (flying old.group) order.staged);
      settled = rw q.outcomes order.settled;
      held = record {
        below = subst (All (λ (row : Row). row.seq < seq_in (shown trail) + 1)) (sym rows) (All-nil _);
        bytes = rw (group, waiting, batches) bytes;
        entries = rw (group, waiting, batches) entries;
      };
      trail_room = rw (group, waiting, batches) order.trail_room;
      outcome_room = rw (group, waiting, tickets, q.outcomes) order.outcome_room;
      few_segments = few;
      job = omega (arith, order.job, q.job);
      ticket = omega (arith, order.ticket, q.ticket);
      file = order.file;
    }
