-- What a queue shows, and how it goes on.
use Rattle.std.specs.Prelude.{◌≡◌, ℕ, ◌==◌, Bool, List, [], ◌++◌, map, take, Option, Some, None, unwrap_or, if◌then◌else◌}
use Rattle.std.specs.List.{list_any}
use Rattle.keel_base.specs.declared.op.Batch.{Batch}
use Rattle.keel_group.specs.Forming.{next_size, next_batches, wants_sync}
use Rattle.keel_group.specs.Queue.{Ticketed, tickets_of}
use Rattle.keel_machine.specs.declared.answers.Outcome.{Outcome}
use Rattle.keel_machine.specs.declared.answers.Outcome.TheVariants as outcome
use Rattle.keel_machine.specs.Admission.{outcome_kept}
use Rattle.keel_core.specs.declared.flight.Act.{Act}
use Rattle.keel_core.specs.declared.flight.Act.TheVariants.{CloseLog, AddRecords}
use Rattle.keel_core.specs.declared.queue.Queue.{Queue}
use Rattle.keel_core.specs.Flights.{FlightShown, tickets_flying}

pub record IsNewQueue (q : Queue) : Type 0 where
  pub waiting : q.waiting.items ≡ []
  pub group : q.group ≡ None
  pub outcomes : q.outcomes.items ≡ []
  pub last_ticket : q.last_ticket ≡ 0
  pub job : q.job ≡ 0

-- ---- the group in flight

-- behind a full segment a group begins with its log
abbrev pub first_act : Bool → Act
first_act switches = if switches then CloseLog else AddRecords

-- the next group of those that wait
abbrev pub next_flight : List Ticketed → Bool → FlightShown
next_flight waiting switches = record {
  tickets = take (next_size waiting) (tickets_of waiting);
  batches = next_batches waiting;
  switches = switches;
  sync = wants_sync (next_batches waiting);
  next = first_act switches;
}

-- the batches that the next append hands to the log
abbrev pub batches_next : List Ticketed → Option FlightShown → List Batch
batches_next waiting (Some flight) = flight.batches
batches_next waiting None = next_batches waiting

-- ---- outcomes

-- each of these tickets has this outcome
abbrev pub given : Outcome → List ℕ → List (ℕ × Outcome)
given outcome tickets = map (λ ticket. (ticket, outcome)) tickets

abbrev pub on_its_way : ℕ → Option FlightShown → List Ticketed → Bool
on_its_way ticket group waiting = list_any (λ other. other == ticket) (tickets_flying group ++ tickets_of waiting)

abbrev pub outcome_told : ℕ → List (ℕ × Outcome) → Option FlightShown → List Ticketed → Outcome
outcome_told ticket outcomes group waiting =
    unwrap_or (outcome_kept ticket outcomes) (if on_its_way ticket group waiting then outcome.Waiting else outcome.Unknown)
