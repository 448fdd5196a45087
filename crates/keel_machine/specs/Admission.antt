-- Which batches are queued, and which outcomes are kept.
use Rattle.std.specs.Prelude.{◌≡◌, ℕ, ◌+◌, ◌==◌, nat_le, nat_lt, not, ◌&&◌, Bool, List, [], ◌∷◌, ◌++◌, length, map, find, filter, Option, Some, None, if◌then◌else◌, option_map, unwrap_or}
use Rattle.std.specs.List.{list_any}
use Rattle.keel_base.specs.declared.limits.TheConstants.{GREATEST_WEIGHT, LAST_NUMBER, LONGEST_KEY, LONGEST_VALUE, MOST_OPS}
use Rattle.keel_base.specs.declared.failure.Failure.{Failure}
use Rattle.keel_base.specs.declared.failure.Counter.TheVariants.{Sequence, Ticket}
use Rattle.keel_base.specs.declared.op.Batch.{Batch}
use Rattle.keel_base.specs.declared.op.Op.{Op}
use Rattle.keel_base.specs.declared.op.Op.TheVariants.{Put, Del}
use Rattle.keel_base.specs.Weight.{weight_of}
use Rattle.keel_handler.specs.Failures.{standing_of, stopping_of}
use Rattle.keel_group.specs.declared.formed.TheConstants.{MAX_WAITING}
use Rattle.keel_machine.specs.declared.answers.Admit.{Admit}
use Rattle.keel_machine.specs.declared.answers.Admit.TheVariants.{Queued, BadSize, Closing, Booting, Stopped, Spent, Full, QueueFull, OutOfMemory}
use Rattle.keel_machine.specs.declared.answers.Part.TheVariants.{Key, Value}
use Rattle.keel_machine.specs.declared.answers.Part.TheVariants as part
use Rattle.keel_machine.specs.declared.answers.Outcome.{Outcome}
use Rattle.keel_machine.specs.declared.answers.Outcome.TheVariants as outcome
use Rattle.keel_machine.specs.States.{State, Group, is_booting, is_closing, point_of}
use Rattle.keel_machine.specs.Tests.{first_some, when}
use Rattle.keel_draft.specs.Drafts.{count_ops}

-- the error that stands: of the failures since the opening the first of the greatest severity
abbrev pub standing : State → Option Failure
standing s = standing_of s.options.paranoid s.failing.failures

-- the standing error where it stops writes
abbrev pub stopping : State → Option Failure
stopping s = stopping_of s.options.paranoid s.failing.failures

abbrev pub ops_of : List Batch → List (List Op)
ops_of batches = map (λ batch. batch.ops) batches

-- the sequence of the last published op
abbrev pub last_seq : State → ℕ
last_seq s = (point_of s.story).seq

abbrev pub tickets_of_group : Option Group → List ℕ
tickets_of_group None = []
tickets_of_group (Some group) = group.tickets

abbrev pub batches_of_group : Option Group → List Batch
batches_of_group None = []
batches_of_group (Some group) = group.batches

-- how many ops are on their way: in limbo, in the group in flight, or waiting
abbrev pub ops_on_their_way : State → ℕ
ops_on_their_way s =
    count_ops s.story.limbo + count_ops (ops_of (batches_of_group s.jobs.write.running)) + count_ops (map (λ member. member.batch.ops) s.writing.waiting)

-- the sequence that the batch would bring
abbrev pub seq_with : State → Batch → ℕ
seq_with s batch = last_seq s + ops_on_their_way s + length batch.ops

-- ---- sizes

abbrev pub is_key_length : ℕ → Bool
is_key_length length = nat_le 1 length && nat_le length LONGEST_KEY

-- a length of an op that isn't within its limits, its key's first
abbrev pub op_refusal : Op → Option Admit
op_refusal (Put key value) = first_some (
    when (not (is_key_length (length key))) (BadSize Key (length key))
    ∷ when (nat_lt LONGEST_VALUE (length value)) (BadSize Value (length value))
    ∷ [])
op_refusal (Del key) = when (not (is_key_length (length key))) (BadSize Key (length key))

-- that of the first op that has one
abbrev pub ops_refusal : List Op → Option Admit
ops_refusal [] = None
ops_refusal (op ∷ ops) = first_some (op_refusal op ∷ ops_refusal ops ∷ [])

-- the ops in order, then their count, then their weight
abbrev pub size_refusal : Batch → Option Admit
size_refusal batch = first_some (
    ops_refusal batch.ops
    ∷ when (not (nat_le 1 (length batch.ops) && nat_le (length batch.ops) MOST_OPS)) (BadSize part.Batch (length batch.ops))
    ∷ when (nat_lt GREATEST_WEIGHT (weight_of batch.ops)) (BadSize part.Batch (weight_of batch.ops))
    ∷ [])

-- ---- admission

abbrev pub is_sequence_spent : State → Batch → Bool
is_sequence_spent s batch = nat_lt LAST_NUMBER (seq_with s batch)

abbrev pub is_ticket_spent : State → Bool
is_ticket_spent s = nat_le LAST_NUMBER s.writing.last_ticket

-- what batches weigh together
abbrev pub weight_of_batches : List (List Op) → ℕ
weight_of_batches [] = 0
weight_of_batches (ops ∷ batches) = weight_of ops + weight_of_batches batches

abbrev pub active_weight : State → ℕ
active_weight s = weight_of_batches s.segments.active.batches

-- the active segment takes no further group
abbrev pub is_full : State → Bool
is_full s = nat_le s.options.write_buffer (active_weight s)

-- and no other may follow it
abbrev pub is_store_full : State → Bool
is_store_full s = is_full s && nat_le s.options.max_immutables (length s.segments.immutable)

abbrev pub is_queue_full : State → Bool
is_queue_full s = nat_le MAX_WAITING (length s.writing.waiting)

-- the refusals, in the order of their tests
abbrev pub refusals : State → Batch → List (Option Admit)
refusals s batch =
    size_refusal batch
    ∷ when (is_closing s.mode.phase) Closing
    ∷ when (is_booting s.mode.phase) Booting
    ∷ option_map Stopped (stopping s)
    ∷ when (is_sequence_spent s batch) (Spent Sequence)
    ∷ when (is_ticket_spent s) (Spent Ticket)
    ∷ when (is_store_full s) (Full (active_weight s) (length s.segments.immutable))
    ∷ when (is_queue_full s) (QueueFull (length s.writing.waiting))
    ∷ []

abbrev pub refusal : State → Batch → Option Admit
refusal s batch = first_some (refusals s batch)

-- the batch waits, under the next ticket
abbrev pub queued : Batch → State → State
queued batch s = record s {
  writing = record s.writing {
    waiting = s.writing.waiting ++ (record { ticket = s.writing.last_ticket + 1; batch = batch }) ∷ [];
    last_ticket = s.writing.last_ticket + 1;
  };
}

-- a batch is refused as by the first test that holds, or queued, unless memory is wanting
abbrev pub AdmitAnswers : State → Batch → Admit → Type 0
AdmitAnswers s batch OutOfMemory = Unit {0}
AdmitAnswers s batch (Queued ticket) = (refusal s batch ≡ None) × (ticket ≡ s.writing.last_ticket + 1)
AdmitAnswers s batch answer = refusal s batch ≡ Some answer

abbrev pub admit_after : State → Batch → Admit → State
admit_after s batch (Queued ticket) = queued batch s
admit_after s batch answer = s

-- ---- outcomes

abbrev pub outcome_kept : ℕ → List (ℕ × Outcome) → Option Outcome
outcome_kept ticket outcomes = option_map (λ entry. entry.1) (find (λ entry. entry.0 == ticket) outcomes)

-- whether the ticket's batch waits, or its group is in flight
abbrev pub is_on_its_way : ℕ → State → Bool
is_on_its_way ticket s =
    list_any (λ other. other == ticket) (tickets_of_group s.jobs.write.running ++ map (λ member. member.ticket) s.writing.waiting)

-- what is told of a ticket
abbrev pub outcome_of : State → ℕ → Outcome
outcome_of s ticket = unwrap_or (outcome_kept ticket s.writing.outcomes) (if is_on_its_way ticket s then outcome.Waiting else outcome.Unknown)

-- an outcome is handed out once
abbrev pub without_outcome : ℕ → State → State
without_outcome ticket s = record s { writing = record s.writing { outcomes = filter (λ entry. not (entry.0 == ticket)) s.writing.outcomes } }
