-- What holds of a queue whose next group is formed, and how near what waits comes to its end.
use Rattle.std.proofs.Common.{◌≡◌, ◌≢◌, ℕ, ◌+◌, ◌*◌, ◌<◌, ◌≤◌, ◌^◌, Bool, true, false, List, [], ◌∷◌, length, take, drop, Option, Some, None, refl, sym, ap, subst, ◌∙◌, arith, if◌then◌else◌}
use Rattle.std.specs.Prelude.{IsSome}
use Rattle.std.proofs.lemmas.List.{length-append, length-map}
use Rattle.keel_base.specs.declared.failure.Fault.{Fault}
use Rattle.keel_base.specs.declared.op.Batch.{Batch}
use Rattle.keel_group.specs.Forming.{EachIsAdmissible, next_size, next_batches, wants_sync}
use Rattle.keel_group.specs.Queue.{Ticketed, batches_of, tickets_of}
use Rattle.keel_group.proofs.Dividing.{all_of}
use Rattle.keel_machine.specs.declared.steps.WriteStep.{WriteStep}
use Rattle.keel_machine.specs.declared.steps.WriteStep.TheVariants as step
use Rattle.keel_machine.specs.Admission.{ops_of}
use Rattle.keel_draft.specs.Drafts.{count_ops}
use Rattle.keel_machine.specs.States as machine
use Rattle.keel_machine.specs.States.{left_of}
use Rattle.keel_core.specs.declared.flight.Act.{Act}
use Rattle.keel_core.specs.declared.flight.Act.TheVariants.{CloseLog, MakeLog, SyncDirectory, AddRecords, SyncLog}
use Rattle.keel_core.specs.declared.queue.Queue.{Queue}
use Rattle.keel_core.specs.declared.trail.Trail.{Trail}
use Rattle.keel_core.specs.Flights.{FlightShown, IsPlanned, act_of, batches_flying, flying, group_of, is_synced, later_than, next_flying, tickets_flying}
use Rattle.keel_core.specs.Orders.{IsInOrder}
use Rattle.keel_core.specs.Queues.{first_act, next_flight}
use Rattle.keel_core.specs.Steps.{IsMade, IsRefused, NextIs, added_step, done, done_step, formed, handed_over, stopped, tried}
use Rattle.keel_core.specs.Views.{CanGoOn, Cleared, CoreView, ComesNearer, HaveOps, IsOnPlan, calls_left, is_full}
use Rattle.keel_core.proofs.Forming.{IsCall, next_some}
use Rattle.keel_mem.specs.Shown.{MemShown}
use Rattle.keel_core.specs.Placing.{bytes_needed}
use Rattle.keel_core.proofs.Lists.{count_ops-append}
use Rattle.keel_core.proofs.Rooms.{bytes_needed-append}
use Rattle.keel_core.proofs.Segmenting.{have_ops}
use Rattle.keel_core.proofs.Standing.{IsInFlight, left_is}
use Rattle.keel_core.proofs.Stories.{ops_of-append}

-- ---- the next group and those that wait behind it are those that waited

pub record AreSame (waiting : List Ticketed) : Type 0 where
  pub ops : count_ops (ops_of (next_batches waiting)) + count_ops (ops_of (batches_of (drop (next_size waiting) waiting))) ≡ count_ops (ops_of (batches_of waiting))
  pub bytes : bytes_needed (ops_of (next_batches waiting)) + bytes_needed (ops_of (batches_of (drop (next_size waiting) waiting))) ≡ bytes_needed (ops_of (batches_of waiting))
  pub batches : length (next_batches waiting) + length (drop (next_size waiting) waiting) ≡ length waiting
  pub tickets : length (take (next_size waiting) (tickets_of waiting)) + length (drop (next_size waiting) waiting) ≡ length waiting

pub are_same : (waiting : List Ticketed) → AreSame waiting
are_same queue =
    let all = all_of queue in
    let left = drop (next_size queue) queue in
    let ops = ap (λ (l : List Batch). count_ops (ops_of l)) all.batches in
    let split = ap count_ops (ops_of-append (next_batches queue) (batches_of left)) ∙ count_ops-append (ops_of (next_batches queue)) (ops_of (batches_of left)) in
    let bytes = ap (λ (l : List Batch). bytes_needed (ops_of l)) all.batches in
    let parts = ap bytes_needed (ops_of-append (next_batches queue) (batches_of left)) ∙ bytes_needed-append (ops_of (next_batches queue)) (ops_of (batches_of left)) in
    let tickets = ap length all.tickets in
    let shared = length-append (take (next_size queue) (tickets_of queue)) (tickets_of left) in
    let some = length-map left (λ (t : Ticketed). t.ticket) in
    let many = length-map queue (λ (t : Ticketed). t.ticket) in
    record {
      ops = omega (arith, ops, split);
      bytes = omega (arith, bytes, parts);
      batches = omega (arith, all.group, all.rest);
      tickets = omega (arith, tickets, shared, some, many);
    }

-- ---- the order

planned_first : (switches sync : Bool) → IsPlanned (first_act switches) switches sync
planned_first true sync = refl
planned_first false sync = tt

-- what a queue is whose next group was formed
pub record IsEntered (old new : Queue) (switches : Bool) : Type 0 where
  pub none : flying old.group ≡ None
  pub waiting : new.waiting.items ≡ drop (next_size old.waiting.items) old.waiting.items
  pub group : flying new.group ≡ Some (next_flight old.waiting.items switches)
  pub job : new.job ≡ old.job + 1
  pub outcomes : new.outcomes ≡ old.outcomes
  pub ticket : new.last_ticket ≡ old.last_ticket
  pub each : EachIsAdmissible (next_batches old.waiting.items)
  pub few : next_size old.waiting.items ≤ 64

pub entered_in_order : (mem : MemShown) (trail : Trail) (old new : Queue) (switches : Bool) (segments : ℕ) (last_seq handed_seq next_file : ℕ)
    → IsInOrder mem trail old segments last_seq handed_seq next_file → IsEntered old new switches → old.job < 2 ^ 56
    → IsInOrder mem trail new segments last_seq handed_seq next_file
entered_in_order mem trail old new switches segments last_seq handed_seq next_file order q below =
    let same = are_same old.waiting.items in
    let waiting = q.waiting in
    let group = q.group in
    let none = q.none in
    let all = all_of old.waiting.items in
    let no_ops = ap (λ (g : Option FlightShown). count_ops (ops_of (batches_flying g))) none in
    let no_bytes = ap (λ (g : Option FlightShown). bytes_needed (ops_of (batches_flying g))) none in
    let no_batches = ap (λ (g : Option FlightShown). length (batches_flying g)) none in
    let no_tickets = ap (λ (g : Option FlightShown). length (tickets_flying g)) none in
    record {
      seq = order.seq;
      handed = order.handed;
      enough = rw (group, waiting) (omega (arith, order.enough, same.ops, no_ops));
      limbo = order.limbo;
      group = rw group q.each;
      few = rw group (omega (arith, q.few, same.tickets, all.rest));
      staged = rw group (planned_first switches (wants_sync (next_batches old.waiting.items)));
      settled = rw q.outcomes order.settled;
      held = rw (group, waiting) (record {
        below = order.held.below;
        bytes = omega (arith, order.held.bytes, same.bytes, no_bytes);
        entries = omega (arith, order.held.entries, same.ops, no_ops);
      });
      trail_room = rw (group, waiting) (omega (arith, order.trail_room, same.batches, no_batches));
      outcome_room = rw (group, waiting, q.outcomes) (omega (arith, order.outcome_room, same.tickets, no_tickets));
      job = omega (arith, below, q.job);
      ticket = omega (arith, order.ticket, q.ticket);
      few_segments = order.few_segments;
      file = order.file;
    }

-- the group that was formed is in flight
pub formed_flies : (view : CoreView) → view.boot ≡ Cleared → HaveOps view.trail.limbo → EachIsAdmissible (next_batches view.waiting) → IsInFlight (formed view) (first_act (is_full view))
formed_flies view cleared limbo each = record { cleared = cleared; on_plan = planned_first (is_full view) _; next = refl; some = (limbo, have_ops (next_batches view.waiting) each) }

-- those that wait still wait behind the call
pub each_next : (old now : CoreView) → now.waiting ≡ old.waiting → EachIsAdmissible (next_batches now.waiting) → EachIsAdmissible (next_batches old.waiting)
each_next old now same each = subst (λ (l : List Ticketed). EachIsAdmissible (next_batches l)) same each

first_is : (view : CoreView) (group : Option FlightShown) (act : Act) → group ≡ None → NextIs act view group → act ≡ first_act (is_full view)
first_is view None act none next = next
first_is view (Some flight) act none next = absurd (cc none)

pub first_flies : (view : CoreView) (act : Act) → view.boot ≡ Cleared → view.group ≡ None → NextIs act view view.group → HaveOps view.trail.limbo → EachIsAdmissible (next_batches view.waiting)
    → IsInFlight (formed view) act
first_flies view act cleared none next limbo each = subst (IsInFlight (formed view)) (sym (first_is view view.group act none next)) (formed_flies view cleared limbo each)

-- the next act is that of the group in flight
pub next_flies : (view : CoreView) (group : Option FlightShown) (act : Act) → IsSome group → NextIs act view group → next_flying group ≡ Some act
next_flies view None act some next = absurd cc
next_flies view (Some flight) act some next = ap Some (sym next)

pub flies_on : (view : CoreView) (act : Act) → CanGoOn view → IsSome view.group → NextIs act view view.group → HaveOps view.trail.limbo → HaveOps (ops_of (batches_flying view.group)) → IsInFlight view act
flies_on view act can some next limbo flying = record { cleared = can.cleared; on_plan = can.on_plan; next = next_flies view view.group act some next; some = (limbo, flying) }

-- ---- nearer to the end

-- a group that is formed has few calls before it, and fewer wait
few_later : (sync : Bool) → length (if sync then machine.SyncLog ∷ [] else []) ≤ 1
few_later true = omega arith
few_later false = omega arith

five_switched : (waiting : List Ticketed) (sync : Bool) → length (machine.CloseLog ∷ machine.MakeLog ∷ machine.SyncDirectory ∷ machine.AddRecords ∷ (if sync then machine.SyncLog ∷ [] else [])) ≤ 5
five_switched waiting sync = omega (arith, few_later sync)

two_calls : (waiting : List Ticketed) (sync : Bool) → length (machine.AddRecords ∷ (if sync then machine.SyncLog ∷ [] else [])) ≤ 5
two_calls waiting sync = omega (arith, few_later sync)

five_calls : (waiting : List Ticketed) (switches : Bool) → length (left_of (group_of (next_flight waiting switches))) ≤ 5
five_calls waiting true = five_switched waiting (wants_sync (next_batches waiting))
five_calls waiting false = two_calls waiting (wants_sync (next_batches waiting))

fewer_wait : (waiting : List Ticketed) → waiting ≢ [] → length (drop (next_size waiting) waiting) + 1 ≤ length waiting
fewer_wait [] some = absurd (some refl)
fewer_wait (first ∷ rest) some = omega (arith, (all_of (first ∷ rest)).rest, next_some first rest)

formed_left : (view : CoreView) → view.waiting ≢ [] → calls_left (formed view) ≤ 6 * length view.waiting
formed_left view some = omega (arith, fewer_wait view.waiting some, five_calls view.waiting (is_full view))

through : (old mid new : CoreView) (made : WriteStep) → IsCall made → calls_left mid ≤ calls_left old → ComesNearer mid made new → ComesNearer old made new
through old mid new (step.Moved job call) is less nearer = omega (arith, less, nearer)
through old mid new (step.Done job seq batches) is less nearer = omega (arith, less, nearer)
through old mid new (step.Failed failure) is less nearer = omega (arith, less, nearer)
through old mid new step.Idle is less nearer = absurd is
through old mid new (step.Turned batches failure) is less nearer = absurd is
through old mid new (step.Full active immutables) is less nearer = absurd is
through old mid new (step.Spent counter) is less nearer = absurd is
through old mid new (step.Cancelled job current) is less nearer = absurd is
through old mid new step.OutOfMemory is less nearer = absurd is

-- a step whose first act forms its group brings nearer what the act brings nearer
pub formed_nearer : (old now new : CoreView) (made : WriteStep) → now.waiting ≡ old.waiting → IsCall made → old.waiting ≢ [] → ComesNearer (formed now) made new → ComesNearer old made new
formed_nearer old now new made same is some nearer =
    let left = formed_left now (subst (λ (l : List Ticketed). l ≢ []) (sym same) some) in
    let size = ap (λ (l : List Ticketed). length l) same in
    through old (formed now) new made is (omega (arith, left, size)) nearer

added_call : (more : Bool) (view : CoreView) → IsCall (added_step more view)
added_call true view = tt
added_call false view = tt

pub done_call : (act : Act) (view : CoreView) → IsCall (done_step act view)
done_call CloseLog view = tt
done_call MakeLog view = tt
done_call (SyncDirectory log) view = tt
done_call AddRecords view = added_call (is_synced view.group) (handed_over view)
done_call SyncLog view = tt

-- the calls of a flight, by its act
left_many : (flight : FlightShown) (act : Act) → IsPlanned flight.next flight.switches flight.sync → flight.next ≡ act
    → length (left_of (group_of flight)) ≡ length (act_of act ∷ later_than act flight.sync)
left_many flight act planned is =
    ap (λ (l : List machine.Act). length l) (left_is flight.next flight.switches flight.sync planned) ∙ ap (λ (a : Act). length (act_of a ∷ later_than a flight.sync)) is

-- what a group with this act before it goes on to, in numbers
abbrev calls_from : Act → Bool → ℕ
calls_from act sync = length (act_of act ∷ later_than act sync)

module _ (view : CoreView) (tickets : List ℕ) (batches : List Batch) (switches : Bool) where
  abbrev flight : Act → Bool → FlightShown
  flight act sync = record { tickets = tickets; batches = batches; switches = switches; sync = sync; next = act }

  abbrev flies : Act → Bool → CoreView
  flies act sync = record view { group = Some (flight act sync) }

  left_at : (act : Act) (sync : Bool) → IsPlanned act switches sync → calls_left (flies act sync) ≡ calls_from act sync + 6 * length view.waiting
  left_at act sync planned = ap (λ n. n + 6 * length view.waiting) (left_many (flight act sync) act planned refl)

  went_nearer : (act : Act) (sync : Bool) → IsPlanned act switches sync → ComesNearer (flies act sync) (done_step act (flies act sync)) (done act (flies act sync))
  went_nearer CloseLog sync planned = omega (arith, left_at CloseLog sync planned, left_at MakeLog sync planned)
  went_nearer MakeLog sync planned = omega (arith, left_at MakeLog sync planned, left_at (SyncDirectory view.next_file) sync planned)
  went_nearer (SyncDirectory log) sync planned = omega (arith, left_at (SyncDirectory log) sync planned, left_at AddRecords sync tt)
  went_nearer AddRecords true planned = omega (arith, left_at AddRecords true planned, left_at SyncLog true refl)
  went_nearer AddRecords false planned = omega (arith, left_at AddRecords false planned)
  went_nearer SyncLog sync planned = omega (arith, left_at SyncLog sync planned)

  refused_nearer : (act : Act) (sync : Bool) (fault : Fault) → IsPlanned act switches sync → calls_left (stopped fault (tried act (flies act sync))) < calls_left (flies act sync)
  refused_nearer CloseLog sync fault planned = omega (arith, left_at CloseLog sync planned)
  refused_nearer MakeLog sync fault planned = omega (arith, left_at MakeLog sync planned)
  refused_nearer (SyncDirectory log) sync fault planned = omega (arith, left_at (SyncDirectory log) sync planned)
  refused_nearer AddRecords sync fault planned = omega (arith, left_at AddRecords sync planned)
  refused_nearer SyncLog sync fault planned = omega (arith, left_at SyncLog sync planned)

-- of the group in flight that is on its plan
of_flight : (view : CoreView) (group : Option FlightShown) (act : Act) (P : Option FlightShown → Type 0) → IsOnPlan group → next_flying group ≡ Some act
    → ((flight : FlightShown) → IsPlanned act flight.switches flight.sync
    → P (Some (record { tickets = flight.tickets; batches = flight.batches; switches = flight.switches; sync = flight.sync; next = act })))
    → P group
of_flight view None act P planned next shown = absurd (cc next)
of_flight view (Some flight) act P planned next shown =
    let is : flight.next ≡ act = cc next in
    subst (λ (a : Act). P (Some (record { tickets = flight.tickets; batches = flight.batches; switches = flight.switches; sync = flight.sync; next = a })))
    (sym is) (shown flight (subst (λ (a : Act). IsPlanned a flight.switches flight.sync) is planned))

pub done_nearer : (act : Act) (view : CoreView) → IsOnPlan view.group → next_flying view.group ≡ Some act → ComesNearer view (done_step act view) (done act view)
done_nearer act view planned next =
    of_flight view view.group act (λ (g : Option FlightShown). ComesNearer (record view { group = g }) (done_step act (record view { group = g })) (done act (record view { group = g })))
    planned next (λ flight on_plan. went_nearer view flight.tickets flight.batches flight.switches act flight.sync on_plan)

pub failed_nearer : (act : Act) (fault : Fault) (view : CoreView) → IsOnPlan view.group → next_flying view.group ≡ Some act → calls_left (stopped fault (tried act view)) < calls_left view
failed_nearer act fault view planned next =
    of_flight view view.group act (λ (g : Option FlightShown). calls_left (stopped fault (tried act (record view { group = g }))) < calls_left (record view { group = g }))
    planned next (λ flight on_plan. refused_nearer view flight.tickets flight.batches flight.switches act flight.sync fault on_plan)

-- the same of the view from which the call was made
made_left : (act : Act) (old now : CoreView) → IsMade act old now → calls_left now ≡ calls_left old
made_left act old now made = ap calls_left made.view_is

pub done_goes_nearer : (act : Act) (old now : CoreView) → IsInFlight old act → IsMade act old now → ComesNearer old (done_step act now) (done act now)
done_goes_nearer act old now flies made =
    let group : now.group ≡ old.group = ap (λ (v : CoreView). v.group) made.view_is in
    let nearer = done_nearer act now (subst IsOnPlan (sym group) flies.on_plan) (ap next_flying group ∙ flies.next) in
    let left = made_left act old now made in
    through old now (done act now) (done_step act now) (done_call act now) (omega (arith, left)) nearer

pub failed_goes_nearer : (act : Act) (fault : Fault) (old now : CoreView) → IsInFlight old act → IsRefused act fault old now → calls_left (stopped fault (tried act now)) < calls_left old
failed_goes_nearer act fault old now flies made =
    let group : now.group ≡ old.group = ap (λ (v : CoreView). v.group) made.view_is in
    let nearer = failed_nearer act fault now (subst IsOnPlan (sym group) flies.on_plan) (ap next_flying group ∙ flies.next) in
    let left = ap calls_left made.view_is in
    omega (arith, nearer, left)
