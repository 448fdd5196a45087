-- A batch that is queued, an outcome that is taken, and files that are listed.
use Rattle.std.proofs.Common.{◌≡◌, ℕ, ◌+◌, ◌*◌, ◌<◌, ◌≤◌, ◌^◌, ◌==◌, ◌&&◌, not, Bool, true, false, List, [], ◌∷◌, ◌++◌, length, map, filter, find, cond, Option, Some, None, Result, Ok, Err, IfOk, OnOk, is_err, option_map, unwrap_or, nat_lt, nat_le, refl, sym, ap, subst, ◌∙◌, arith, if◌then◌else◌}
use Rattle.std.proofs.lemmas.Bool.{ltb-true, leb-true}
use Rattle.std.specs.List.{AllByRecursion, list_any}
use Rattle.keel_base.specs.declared.listing.Entry.{Entry}
use Rattle.keel_base.specs.declared.failure.Failure.{Failure}
use Rattle.keel_base.specs.declared.op.Batch.{Batch}
use Rattle.keel_disk.specs.declared.error.DiskError.{DiskError}
use Rattle.keel_disk.specs.Counts.{disk_fault}
use Rattle.keel_disk.specs.Listings.{IsListing}
use Rattle.keel_disk.specs.Told.{TellsListing}
use Rattle.keel_disk.specs.Seen.{IsQuiet, Seen}
use Rattle.keel_machine.specs.declared.answers.Admit.{Admit}
use Rattle.keel_machine.specs.declared.answers.Admit.TheVariants.{BadSize, Booting, Closing, Full, OutOfMemory, Queued, Spent, Stopped, QueueFull}
use Rattle.keel_base.specs.declared.failure.Counter.TheVariants.{Sequence, Ticket}
use Rattle.keel_machine.specs.declared.answers.Outcome.{Outcome}
use Rattle.keel_machine.specs.declared.answers.Outcome.TheVariants as outcome
use Rattle.keel_machine.specs.Admission.{ops_of, batches_of_group, tickets_of_group, refusal, seq_with, size_refusal, outcome_kept}
use Rattle.keel_machine.specs.States as machine
use Rattle.keel_machine.specs.States.{State}
use Rattle.keel_machine.specs.Tests.{first_some, when}
use Rattle.keel_machine.specs.Turns.{Event, Answers, after, Admitting, Listing, TakingOutcome}
use Rattle.keel_group.specs.Queue.{Ticketed, ticketed, batches_of, tickets_of}
use Rattle.keel_mem.specs.Totals.{weight_of}
use Rattle.keel_draft.specs.Drafts.{count_ops}
use Rattle.keel_core.specs.Flights.{FlightShown, IsPlanned, batches_flying, group_of, running_of, tickets_flying}
use Rattle.keel_core.specs.Orders.{IsSettled}
use Rattle.keel_core.specs.Queues.{on_its_way, outcome_told}
use Rattle.keel_core.specs.Views.{Beyond, BootShown, ToStart, Started, Running, Cleared, Closed, CoreView, StandsFor, Fits, IsOnPlan, TakesTurn, is_store_full, stopping_in, state_of, last_in, calls_in, has_booted, is_closed, phase_if, phase_of}
use Rattle.keel_core.proofs.Failing.{stopping_same}
use Rattle.keel_core.proofs.Segmenting.{active_weighs, as_many}
use Rattle.keel_core.proofs.Standing.{left_is}
use Rattle.keel_core.proofs.Stories.{last_same}

-- It is enough to show it of the state of what is beyond the core.
pub turns_by_story : (old new : CoreView) (event : Event)
    → ((beyond : Beyond) → Fits old beyond → Answers (state_of old beyond) event new.device × StandsFor new (after (state_of old beyond) event new.device)) → TakesTurn old event new
turns_by_story old new event shown = record {
  goes = λ s stands.
      subst (λ (t : State). Answers t event new.device × StandsFor new (after t event new.device)) (sym stands.state_is)
      (shown stands.beyond stands.fits);
}

-- ---- the files are listed

pub listed_goes : (view : CoreView) (device : Seen) (answer : Result (List Entry) DiskError) → IfOk answer (TellsListing view.device.told) → IfOk answer IsListing
    → IsQuiet view.device (disk_fault answer) device → TakesTurn view (Listing answer) (record view { device = device })
listed_goes view device answer tells order quiet = turns_by_story view (record view { device = device }) (Listing answer) (λ beyond fits. (
  record { tells = tells; order = order; quiet = quiet },
  record { beyond = beyond; state_is = refl; fits = record { story = fits.story; segments = fits.segments; tables = fits.tables; opened = fits.opened; leads = fits.leads; handled = fits.handled; flushes = fits.flushes } },
))

-- ---- a batch is queued

same_ops : (group : Option FlightShown) → batches_of_group (running_of group) ≡ batches_flying group
same_ops None = refl
same_ops (Some flight) = refl

pub same_tickets : (group : Option FlightShown) → tickets_of_group (running_of group) ≡ tickets_flying group
same_tickets None = refl
same_tickets (Some flight) = refl

waiting_ops : (waiting : List Ticketed) → count_ops (map (λ (member : Ticketed). member.batch.ops) waiting) ≡ count_ops (ops_of (batches_of waiting))
waiting_ops [] = refl
waiting_ops (first ∷ waiting) = ap (λ n. length first.batch.ops + n) (waiting_ops waiting)

not_lt : (a b : ℕ) → b ≤ a → nat_lt a b ≡ false
not_lt a b h =
    elim (nat_lt a b) as (λ v. nat_lt a b ≡ v → v ≡ false) [ true ↦ λ e. absurd (omega (arith, ltb-true a b e)) | false ↦ λ e. refl ] refl

not_le : (a b : ℕ) → b < a → nat_le a b ≡ false
not_le a b h =
    elim (nat_le a b) as (λ v. nat_le a b ≡ v → v ≡ false) [ true ↦ λ e. absurd (omega (arith, leb-true a b e)) | false ↦ λ e. refl ] refl

is_lt : (a b : ℕ) → a < b → nat_lt a b ≡ true
is_lt a b h =
    elim (nat_lt a b) as (λ v. nat_lt a b ≡ v → v ≡ true) [ true ↦ λ e. refl | false ↦ λ e. absurd (grind (arith, e, h)) ] refl

is_le : (a b : ℕ) → a ≤ b → nat_le a b ≡ true
is_le a b h =
    elim (nat_le a b) as (λ v. nat_le a b ≡ v → v ≡ true) [ true ↦ λ e. refl | false ↦ λ e. absurd (grind (arith, e, h)) ] refl

sums : (a b c d e f g h i j : ℕ) → a ≡ b → c ≡ a + d → d ≡ e → f ≡ g → h ≡ i → c + (f + h) + j ≡ b + (e + g + i) + j
sums a b c d e f g h i j p q r s t = omega arith

-- the sequence that a batch would bring, of what the code knows
seq_is : (view : CoreView) (batch : Batch) (last_seq handed_seq : ℕ) (beyond : Beyond) → has_booted view.boot ≡ true → Fits view beyond
    → last_seq ≡ last_in view → handed_seq ≡ last_seq + count_ops view.trail.limbo
    → handed_seq + (count_ops (ops_of (batches_flying view.group)) + count_ops (ops_of (batches_of view.waiting))) + length batch.ops ≡ seq_with (state_of view beyond) batch
seq_is view batch last_seq handed_seq beyond booted fits last handed =
    sums last_seq _ handed_seq (count_ops view.trail.limbo) (count_ops beyond.story.limbo) (count_ops (ops_of (batches_flying view.group)))
    (count_ops (ops_of (batches_of_group (running_of view.group)))) (count_ops (ops_of (batches_of view.waiting)))
    (count_ops (map (λ (member : Ticketed). member.batch.ops) view.waiting)) (length batch.ops)
    (last ∙ sym (last_same view.trail beyond.story fits.story)) handed (ap count_ops (sym (fits.story.limbo_is booted)))
    (ap (λ (l : List Batch). count_ops (ops_of l)) (sym (same_ops view.group)))
    (sym (waiting_ops view.waiting))

-- ---- the tests in their order

-- what the tests say, one answer each
pub record Tests : Type 0 where
  pub size : Option Admit
  pub closing : Bool
  pub booting : Bool
  pub stopping : Option Failure
  pub sequence : Bool
  pub ticket : Bool
  pub full : Bool
  pub weight : ℕ
  pub others : ℕ
  pub queue : Bool
  pub waiting : ℕ

abbrev pub answer_of : Tests → Option Admit
answer_of t = first_some (
    t.size
    ∷ when t.closing Closing
    ∷ when t.booting Booting
    ∷ option_map Stopped t.stopping
    ∷ when t.sequence (Spent Sequence)
    ∷ when t.ticket (Spent Ticket)
    ∷ when t.full (Full t.weight t.others)
    ∷ when t.queue (QueueFull t.waiting)
    ∷ [])

-- those of a view whose boot has cleared
abbrev pub tests_of : CoreView → Batch → ℕ → Tests
tests_of view batch brought = record {
  size = size_refusal batch;
  closing = false;
  booting = false;
  stopping = stopping_in view;
  sequence = nat_lt (2 ^ 56) brought;
  ticket = nat_le (2 ^ 56) view.last_ticket;
  full = is_store_full view;
  weight = weight_of view.rows;
  others = length view.immutable;
  queue = nat_le 64 (length view.waiting);
  waiting = length view.waiting;
}

-- the sequence that the batch would bring, as the code counts it
abbrev pub seq_brought : CoreView → Batch → ℕ → ℕ
seq_brought view batch handed_seq = handed_seq + (count_ops (ops_of (batches_flying view.group)) + count_ops (ops_of (batches_of view.waiting))) + length batch.ops

-- what the code knows of its numbers, where the boot has cleared
pub record IsKnown (view : CoreView) (last_seq handed_seq : ℕ) : Type 0 where
  pub stays : is_closed view.boot ≡ false
  pub booted : has_booted view.boot ≡ true
  pub last : last_seq ≡ last_in view
  pub handed : handed_seq ≡ last_seq + count_ops view.trail.limbo

-- the phase of a store that isn't closed
pub phase_open : (boot : BootShown) → is_closed boot ≡ false → phase_of boot ≡ phase_if (has_booted boot)
phase_open ToStart stays = refl
phase_open (Started booted) stays = refl
phase_open (Running booted running) stays = refl
phase_open Cleared stays = refl
phase_open (Closed booted) stays = cc

phase_closed : (boot : BootShown) → is_closed boot ≡ true → phase_of boot ≡ machine.Closing
phase_closed ToStart closed = cc
phase_closed (Started booted) closed = cc
phase_closed (Running booted running) closed = cc
phase_closed Cleared closed = cc
phase_closed (Closed booted) closed = refl

refusal_is : (view : CoreView) (batch : Batch) (last_seq handed_seq : ℕ) (beyond : Beyond) → is_closed view.boot ≡ false → has_booted view.boot ≡ true → Fits view beyond
    → last_seq ≡ last_in view → handed_seq ≡ last_seq + count_ops view.trail.limbo
    → refusal (state_of view beyond) batch ≡ answer_of (tests_of view batch (seq_brought view batch handed_seq))
refusal_is view batch last_seq handed_seq beyond stays booted fits last handed =
    let weight = active_weighs beyond.in_tables view.immutable beyond.immutable view.rows beyond.active _ fits.segments in
    let others = as_many beyond.in_tables view.immutable beyond.immutable view.rows beyond.active _ fits.segments in
    let stopping = stopping_same view.options beyond.failures view.handler fits.handled in
    let seq = seq_is view batch last_seq handed_seq beyond booted fits last handed in
    let phase : phase_of view.boot ≡ machine.Open = phase_open view.boot stays ∙ ap phase_if booted in
    λ i. answer_of (record {
      size = size_refusal batch;
      closing = machine.is_closing (phase i);
      booting = machine.is_booting (phase i);
      stopping = stopping i;
      sequence = nat_lt (2 ^ 56) (sym seq i);
      ticket = nat_le (2 ^ 56) view.last_ticket;
      full = nat_le view.options.write_buffer (weight i) && nat_le view.options.max_immutables (others i);
      weight = weight i;
      others = others i;
      queue = nat_le 64 (length view.waiting);
      waiting = length view.waiting;
    })

pub same_stands : (view : CoreView) (beyond : Beyond) → Fits view beyond → StandsFor view (state_of view beyond)
same_stands view beyond fits = record { beyond = beyond; state_is = refl; fits = record { story = fits.story; segments = fits.segments; tables = fits.tables; opened = fits.opened; leads = fits.leads; handled = fits.handled; flushes = fits.flushes } }

-- a refusal behind the test of the size
abbrev pub IsRefusal : Admit → Type 0
IsRefusal Closing = Unit {0}
IsRefusal Booting = Unit {0}
IsRefusal (Stopped failure) = Unit {0}
IsRefusal (Spent counter) = Unit {0}
IsRefusal (Full active immutables) = Unit {0}
IsRefusal (QueueFull waiting) = Unit {0}
IsRefusal _ = ⊥

refused_turn : (view : CoreView) (batch : Batch) (answer : Admit) (beyond : Beyond) → IsRefusal answer → Fits view beyond → refusal (state_of view beyond) batch ≡ Some answer
    → Answers (state_of view beyond) (Admitting batch answer) view.device × StandsFor view (after (state_of view beyond) (Admitting batch answer) view.device)
refused_turn view batch Closing beyond refused fits is = ((is, refl), same_stands view beyond fits)
refused_turn view batch Booting beyond refused fits is = ((is, refl), same_stands view beyond fits)
refused_turn view batch (Stopped failure) beyond refused fits is = ((is, refl), same_stands view beyond fits)
refused_turn view batch (Spent counter) beyond refused fits is = ((is, refl), same_stands view beyond fits)
refused_turn view batch (Full active immutables) beyond refused fits is = ((is, refl), same_stands view beyond fits)
refused_turn view batch (QueueFull waiting) beyond refused fits is = ((is, refl), same_stands view beyond fits)
refused_turn view batch (Queued ticket) beyond refused fits is = absurd refused
refused_turn view batch (BadSize part length) beyond refused fits is = absurd refused
refused_turn view batch OutOfMemory beyond refused fits is = absurd refused

pub refused_goes : (view : CoreView) (batch : Batch) (last_seq handed_seq : ℕ) (answer : Admit) → IsKnown view last_seq handed_seq → IsRefusal answer
    → answer_of (tests_of view batch (seq_brought view batch handed_seq)) ≡ Some answer → TakesTurn view (Admitting batch answer) view
refused_goes view batch last_seq handed_seq answer known refused is = turns_by_story view view (Admitting batch answer) (λ beyond fits.
    refused_turn view batch answer beyond refused fits (refusal_is view batch last_seq handed_seq beyond known.stays known.booted fits known.last known.handed ∙ is))

-- the tests before one say nothing
pub answers_at : (t u : Tests) (answer : Admit) → t ≡ u → answer_of u ≡ Some answer → answer_of t ≡ Some answer
answers_at t u answer same is = ap answer_of same ∙ is

abbrev calm_tests : CoreView → Batch → ℕ → Bool → Bool → Bool → Bool → Tests
calm_tests view batch brought sequence ticket full queue = record (tests_of view batch brought) { size = None; stopping = None; sequence = sequence; ticket = ticket; full = full; queue = queue }

calm_same : (view : CoreView) (batch : Batch) (brought : ℕ) (a b c d : Bool) → size_refusal batch ≡ None → stopping_in view ≡ None
    → nat_lt (2 ^ 56) brought ≡ a → nat_le (2 ^ 56) view.last_ticket ≡ b → is_store_full view ≡ c → nat_le 64 (length view.waiting) ≡ d
    → tests_of view batch brought ≡ calm_tests view batch brought a b c d
calm_same view batch brought a b c d sized calm p q r s = λ i. record (tests_of view batch brought) {
  size = sized i;
  stopping = calm i;
  sequence = p i;
  ticket = q i;
  full = r i;
  queue = s i;
}

-- a failure stands
pub stopped_goes : (view : CoreView) (batch : Batch) (last_seq handed_seq : ℕ) (failure : Failure) → IsKnown view last_seq handed_seq → size_refusal batch ≡ None → stopping_in view ≡ Some failure
    → TakesTurn view (Admitting batch (Stopped failure)) view
stopped_goes view batch last_seq handed_seq failure known sized stands =
    refused_goes view batch last_seq handed_seq (Stopped failure) known tt
    (λ i. answer_of (record (tests_of view batch (seq_brought view batch handed_seq)) { size = sized i; stopping = stands i }))

-- what the code knows behind the tests of size and failure
pub record IsTested (view : CoreView) (batch : Batch) (last_seq handed_seq : ℕ) : Type 0 where
  pub known : IsKnown view last_seq handed_seq
  pub sized : size_refusal batch ≡ None
  pub calm : stopping_in view ≡ None

pub seq_spent : (view : CoreView) (batch : Batch) (last_seq handed_seq : ℕ) → IsTested view batch last_seq handed_seq → 2 ^ 56 < seq_brought view batch handed_seq
    → TakesTurn view (Admitting batch (Spent Sequence)) view
seq_spent view batch last_seq handed_seq t over =
    refused_goes view batch last_seq handed_seq (Spent Sequence) t.known tt
    (ap answer_of (calm_same view batch _ true _ _ _ t.sized t.calm (is_lt (2 ^ 56) _ over) refl refl refl))

pub ticket_spent : (view : CoreView) (batch : Batch) (last_seq handed_seq : ℕ) → IsTested view batch last_seq handed_seq → seq_brought view batch handed_seq ≤ 2 ^ 56 → 2 ^ 56 ≤ view.last_ticket
    → TakesTurn view (Admitting batch (Spent Ticket)) view
ticket_spent view batch last_seq handed_seq t enough spent =
    refused_goes view batch last_seq handed_seq (Spent Ticket) t.known tt
    (ap answer_of (calm_same view batch _ false true _ _ t.sized t.calm (not_lt (2 ^ 56) _ enough) (is_le (2 ^ 56) view.last_ticket spent) refl refl))

pub store_full : (view : CoreView) (batch : Batch) (last_seq handed_seq active immutables : ℕ) → IsTested view batch last_seq handed_seq → seq_brought view batch handed_seq ≤ 2 ^ 56
    → view.last_ticket < 2 ^ 56 → is_store_full view ≡ true → active ≡ weight_of view.rows → immutables ≡ length view.immutable
    → TakesTurn view (Admitting batch (Full active immutables)) view
store_full view batch last_seq handed_seq active immutables t enough ticket full weight others =
    subst (λ n. TakesTurn view (Admitting batch (Full n immutables)) view) (sym weight)
    (subst (λ n. TakesTurn view (Admitting batch (Full (weight_of view.rows) n)) view) (sym others)
    (refused_goes view batch last_seq handed_seq (Full (weight_of view.rows) (length view.immutable)) t.known tt
    (ap answer_of (calm_same view batch _ false false true _ t.sized t.calm (not_lt (2 ^ 56) _ enough) (not_le (2 ^ 56) view.last_ticket ticket) full refl))))

pub queue_full : (view : CoreView) (batch : Batch) (last_seq handed_seq waiting : ℕ) → IsTested view batch last_seq handed_seq → seq_brought view batch handed_seq ≤ 2 ^ 56
    → view.last_ticket < 2 ^ 56 → is_store_full view ≡ false → waiting ≡ length view.waiting → 64 ≤ waiting
    → TakesTurn view (Admitting batch (QueueFull waiting)) view
queue_full view batch last_seq handed_seq waiting t enough ticket room count full =
    subst (λ n. TakesTurn view (Admitting batch (QueueFull n)) view) (sym count)
    (refused_goes view batch last_seq handed_seq (QueueFull (length view.waiting)) t.known tt
    (ap answer_of (calm_same view batch _ false false false true t.sized t.calm (not_lt (2 ^ 56) _ enough) (not_le (2 ^ 56) view.last_ticket ticket) room
    (is_le 64 (length view.waiting) (omega (arith, full, count))))))

pub queued_goes : (view : CoreView) (batch : Batch) (last_seq handed_seq : ℕ) → IsTested view batch last_seq handed_seq → seq_brought view batch handed_seq ≤ 2 ^ 56
    → view.last_ticket < 2 ^ 56 → is_store_full view ≡ false → length view.waiting < 64
    → TakesTurn view (Admitting batch (Queued (view.last_ticket + 1)))
    (record view { waiting = view.waiting ++ ticketed (view.last_ticket + 1) batch ∷ []; last_ticket = view.last_ticket + 1 })
queued_goes view batch last_seq handed_seq t enough ticket room few =
    turns_by_story view (record view { waiting = view.waiting ++ ticketed (view.last_ticket + 1) batch ∷ []; last_ticket = view.last_ticket + 1 })
    (Admitting batch (Queued (view.last_ticket + 1)))
    (λ beyond fits. (
      (
        (
          refusal_is view batch last_seq handed_seq beyond t.known.stays t.known.booted fits t.known.last t.known.handed
              ∙ ap answer_of (calm_same view batch _ false false false false t.sized t.calm (not_lt (2 ^ 56) _ enough) (not_le (2 ^ 56) view.last_ticket ticket) room (not_le 64 (length view.waiting) few)),
          refl,
        ),
        refl,
      ),
      record { beyond = beyond; state_is = refl; fits = record { story = fits.story; segments = fits.segments; tables = fits.tables; opened = fits.opened; leads = fits.leads; handled = fits.handled; flushes = fits.flushes } },
    ))

-- a store that boots takes none
abbrev phase_tests : Option Admit → machine.Phase → List (Option Admit) → Option Admit
phase_tests size phase rest = first_some (size ∷ when (machine.is_closing phase) Closing ∷ when (machine.is_booting phase) Booting ∷ rest)

boots_first : (size : Option Admit) (phase : machine.Phase) (rest : List (Option Admit)) → size ≡ None → phase ≡ machine.Booting → phase_tests size phase rest ≡ Some Booting
boots_first size phase rest none boots = λ i. phase_tests (none i) (boots i) rest

pub boots_goes : (view : CoreView) (batch : Batch) → is_closed view.boot ≡ false → has_booted view.boot ≡ false → size_refusal batch ≡ None → TakesTurn view (Admitting batch Booting) view
boots_goes view batch stays boots sized = turns_by_story view view (Admitting batch Booting) (λ beyond fits.
    refused_turn view batch Booting beyond tt fits
    (boots_first (size_refusal batch) (phase_of view.boot) _ sized (phase_open view.boot stays ∙ ap phase_if boots)))

-- nor does a closed one
closes_first : (size : Option Admit) (phase : machine.Phase) (rest : List (Option Admit)) → size ≡ None → phase ≡ machine.Closing → phase_tests size phase rest ≡ Some Closing
closes_first size phase rest none closed = λ i. phase_tests (none i) (closed i) rest

pub closed_goes : (view : CoreView) (batch : Batch) → is_closed view.boot ≡ true → size_refusal batch ≡ None → TakesTurn view (Admitting batch Closing) view
closed_goes view batch closed sized = turns_by_story view view (Admitting batch Closing) (λ beyond fits.
    refused_turn view batch Closing beyond tt fits
    (closes_first (size_refusal batch) (phase_of view.boot) _ sized (phase_closed view.boot closed)))

-- ---- an outcome is taken

same_way : (ticket : ℕ) (group : Option FlightShown) (waiting : List Ticketed)
    → on_its_way ticket group waiting ≡ list_any (λ other. other == ticket) (tickets_of_group (running_of group) ++ map (λ (m : Ticketed). m.ticket) waiting)
same_way ticket group waiting = ap (λ (l : List ℕ). list_any (λ other. other == ticket) (l ++ tickets_of waiting)) (sym (same_tickets group))

pub taken_goes : (view : CoreView) (ticket : ℕ) (told : Outcome) → told ≡ outcome_told ticket view.outcomes view.group view.waiting
    → TakesTurn view (TakingOutcome ticket told) (record view { outcomes = filter (λ entry. not (entry.0 == ticket)) view.outcomes })
taken_goes view ticket told is =
    turns_by_story view (record view { outcomes = filter (λ entry. not (entry.0 == ticket)) view.outcomes }) (TakingOutcome ticket told) (λ beyond fits. (
      (
        is ∙ ap (λ b. unwrap_or (outcome_kept ticket view.outcomes) (if b then outcome.Waiting else outcome.Unknown)) (same_way ticket view.group view.waiting),
        refl,
      ),
      record { beyond = beyond; state_is = refl; fits = record { story = fits.story; segments = fits.segments; tables = fits.tables; opened = fits.opened; leads = fits.leads; handled = fits.handled; flushes = fits.flushes } },
    ))

kept_settled : (ticket : ℕ) (outcomes : List (ℕ × Outcome)) → AllByRecursion (λ (entry : ℕ × Outcome). IsSettled entry.1) outcomes
    → (P : Type 0) → (outcome_kept ticket outcomes ≡ None → P) → ((o : Outcome) → outcome_kept ticket outcomes ≡ Some o → IsSettled o → P) → P
kept_settled ticket [] all P none some = none refl
kept_settled ticket (entry ∷ outcomes) all P none some =
    elim (entry.0 == ticket) as (λ b. (option_map (λ (e : ℕ × Outcome). e.1) (cond b (Some entry) (find (λ e. e.0 == ticket) outcomes)) ≡ None → P)
    → ((o : Outcome) → option_map (λ (e : ℕ × Outcome). e.1) (cond b (Some entry) (find (λ e. e.0 == ticket) outcomes)) ≡ Some o → IsSettled o → P) → P) [
      | true ↦ λ n s. s entry.1 refl all.0
      | false ↦ λ n s. kept_settled ticket outcomes all.1 P n s
    ] none some

unsettled : (o : Outcome) → o ≡ outcome.Waiting → IsSettled o → ⊥
unsettled o is settled = subst IsSettled is settled

one_call : (flight : FlightShown) → IsPlanned flight.next flight.switches flight.sync → 0 < length (machine.left_of (group_of flight))
one_call flight planned =
    let left = ap (λ (l : List machine.Act). length l) (left_is flight.next flight.switches flight.sync planned) in
    omega (arith, left)

some_left : (group : Option FlightShown) (waiting : List Ticketed) (ticket : ℕ) → IsOnPlan group
    → (if on_its_way ticket group waiting then outcome.Waiting else outcome.Unknown) ≡ outcome.Waiting
    → 0 < calls_in group + 6 * length waiting
some_left None [] ticket staged is = absurd cc
some_left None (first ∷ rest) ticket staged is = omega arith
some_left (Some flight) waiting ticket staged is = omega (arith, one_call flight staged)

-- a ticket whose outcome is awaited is on its way
pub waits_left : (group : Option FlightShown) (waiting : List Ticketed) (outcomes : List (ℕ × Outcome)) (ticket : ℕ) → IsOnPlan group
    → AllByRecursion (λ (entry : ℕ × Outcome). IsSettled entry.1) outcomes
    → outcome_told ticket outcomes group waiting ≡ outcome.Waiting → 0 < calls_in group + 6 * length waiting
waits_left group waiting outcomes ticket staged all is =
    let otherwise : Option Outcome → Outcome = λ o. unwrap_or o (if on_its_way ticket group waiting then outcome.Waiting else outcome.Unknown) in
    kept_settled ticket outcomes all (0 < calls_in group + 6 * length waiting)
    (λ none. some_left group waiting ticket staged (ap otherwise (sym none) ∙ is))
    (λ o some settled. absurd (unsettled o (ap otherwise (sym some) ∙ is) settled))

pub where_ok : {T E P : Type 0} (r : Result T E) → is_err r ≡ false → OnOk r P → P
where_ok (Ok value) ended h = h
where_ok (Err error) ended h = cc

-- what the test of the sequence gives
pub fits_before : (handed before sum ops size : ℕ) → before ≡ sum → ops ≡ size → handed + before + ops ≤ 2 ^ 56 → handed + sum + size ≤ 2 ^ 56
fits_before handed before sum ops size p q r = omega arith
