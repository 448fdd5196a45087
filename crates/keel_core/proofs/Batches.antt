-- The batches that the next append hands to the log.
use Rattle.std.proofs.Common.{ℕ, ◌+◌, ◌≤◌, ◌^◌, List, [], ◌∷◌, length, Option, Some, None, arith}
use Rattle.std.specs.List.{AllByRecursion}
use Rattle.keel_base.specs.declared.op.Op.{Op}
use Rattle.keel_base.specs.declared.op.Op.TheVariants.{Put, Del}
use Rattle.keel_base.specs.Weight.{AreAdmissible, IsWithinLimits}
use Rattle.keel_batch.specs.Spelling.{IsBatch, IsOp}
use Rattle.keel_group.specs.Queue.{Ticketed, batches_of}
use Rattle.keel_machine.specs.Admission.{ops_of}
use Rattle.keel_draft.specs.Drafts.{count_ops}
use Rattle.keel_core.specs.Flights.{FlightShown, batches_flying}
use Rattle.keel_core.specs.Queues.{batches_next}
use Rattle.keel_core.proofs.Entering.{are_same}

op_is : (op : Op) → IsWithinLimits op → IsOp op
op_is (Put key value) h = ((omega (arith, h.0.some), h.0.most), (omega arith, h.1))
op_is (Del key) h = (omega (arith, h.some), h.most)

ops_are : (ops : List Op) → AllByRecursion IsWithinLimits ops → AllByRecursion IsOp ops
ops_are [] h = tt
ops_are (op ∷ ops) h = (op_is op h.0, ops_are ops h.1)

within_is : (op : Op) → IsOp op → IsWithinLimits op
within_is (Put key value) h = (record { some = omega (arith, h.0.0); most = h.0.1 }, h.1.1)
within_is (Del key) h = record { some = omega (arith, h.0); most = h.1 }

pub within_are : (ops : List Op) → AllByRecursion IsOp ops → AllByRecursion IsWithinLimits ops
within_are [] h = tt
within_are (op ∷ ops) h = (within_is op h.0, within_are ops h.1)

-- numbered so, an admissible batch is one as a log may hold it
pub is_batch : (seq : ℕ) (ops : List Op) → AreAdmissible ops → 1 ≤ seq → seq + length ops ≤ 2 ^ 56 + 1 → IsBatch seq ops
is_batch seq ops ok least most = record { first = least; some = ok.some; few = ok.few; last = most; each = ops_are ops ok.each }

-- they are within those that are in flight and those that wait
pub next_count : (waiting : List Ticketed) (group : Option FlightShown)
    → count_ops (ops_of (batches_next waiting group)) ≤ count_ops (ops_of (batches_flying group)) + count_ops (ops_of (batches_of waiting))
next_count waiting (Some flight) = omega arith
next_count waiting None = let same = (are_same waiting).ops in omega (arith, same)
