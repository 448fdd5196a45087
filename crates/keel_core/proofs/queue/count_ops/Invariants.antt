use Rattle.std.proofs.Common.{◌≡◌, ◌+◌, drop}
use Rattle.keel_machine.specs.Admission.{ops_of}
use Rattle.keel_draft.specs.Drafts.{count_ops}
use Rattle.keel_core.proofs.queue.count_ops.Given as goal

-- the ops that are left, with those that were counted, are all
abbrev pub invariant-loop-batch : goal.invariant-loop-batch
invariant-loop-batch l = l.total + count_ops (ops_of (drop l.batch-index l.batches)) ≡ count_ops (ops_of l.batches)
