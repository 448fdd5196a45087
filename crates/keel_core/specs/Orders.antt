-- What is true of every core, whatever its device tells.
use Rattle.std.specs.Prelude.{◌≡◌, ℕ, ◌+◌, ◌<◌, ◌≤◌, ◌^◌, List, length, All, Option, vec_len, vec_capacity}
use Rattle.std.specs.List.{AllByRecursion}
use Rattle.keel_group.specs.Forming.{EachIsAdmissible}
use Rattle.keel_group.specs.Queue.{Ticketed, batches_of}
use Rattle.keel_machine.specs.declared.answers.Outcome.{Outcome}
use Rattle.keel_machine.specs.declared.answers.Outcome.TheVariants.{Waiting}
use Rattle.keel_machine.specs.Admission.{ops_of}
use Rattle.keel_mem.specs.Shown.{MemShown}
use Rattle.keel_draft.specs.Drafts.{count_ops}
use Rattle.keel_core.specs.declared.queue.Queue.{Queue}
use Rattle.keel_core.specs.declared.trail.Trail.{Trail}
use Rattle.keel_core.specs.Flights.{FlightShown, batches_flying, flying, tickets_flying}
use Rattle.keel_core.specs.Placing.{bytes_needed}
use Rattle.keel_core.specs.Trails.{TrailShown, limbo_in, seq_in, shown}
use Rattle.keel_core.specs.Views.{IsOnPlan}

abbrev pub IsSettled : Outcome → Type 0
IsSettled Waiting = ⊥
IsSettled _ = Unit {0}

-- the memtable's rows are numbered up to a number, and there is room for all that are on their way: in limbo, in flight,
-- waiting
pub record IsHeld (mem : MemShown) (trail : TrailShown) (group : Option FlightShown) (waiting : List Ticketed) : Type 0 where
  pub below : All (λ row. row.seq < seq_in trail + 1) mem.rows
  pub bytes : bytes_needed trail.limbo + bytes_needed (ops_of (batches_flying group)) + bytes_needed (ops_of (batches_of waiting)) ≤ mem.bytes
  pub entries : count_ops trail.limbo + count_ops (ops_of (batches_flying group)) + count_ops (ops_of (batches_of waiting)) ≤ mem.entries

pub record IsInOrder (mem : MemShown) (trail : Trail) (queue : Queue) (segments : ℕ) (last_seq handed_seq next_file : ℕ) : Type 0 where
  -- sequence numbers
  pub seq : last_seq ≡ seq_in (shown trail)
  pub handed : handed_seq ≡ last_seq + count_ops (shown trail).limbo
  pub enough : handed_seq + count_ops (ops_of (batches_flying (flying queue.group))) + count_ops (ops_of (batches_of queue.waiting.items)) ≤ 2 ^ 56
  -- the batches on their way
  pub limbo : EachIsAdmissible (limbo_in trail)
  pub group : EachIsAdmissible (batches_flying (flying queue.group))
  pub few : length (tickets_flying (flying queue.group)) ≤ 64
  pub staged : IsOnPlan (flying queue.group)
  pub settled : AllByRecursion (λ (entry : ℕ × Outcome). IsSettled entry.1) queue.outcomes.items
  -- memory taken before it is needed
  pub held : IsHeld mem (shown trail) (flying queue.group) queue.waiting.items
  pub trail_room : vec_len trail.batches + (length (batches_flying (flying queue.group)) + length queue.waiting.items) ≤ vec_capacity trail.batches
  pub outcome_room : vec_len queue.outcomes + (length (tickets_flying (flying queue.group)) + length queue.waiting.items) ≤ vec_capacity queue.outcomes
  -- numbers
  pub few_segments : segments < 2 ^ 32
  pub job : queue.job ≤ 2 ^ 56
  pub ticket : queue.last_ticket ≤ 2 ^ 56
  pub file : 1 ≤ next_file
