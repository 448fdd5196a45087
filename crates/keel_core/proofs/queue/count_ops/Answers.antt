use Rattle.std.proofs.Common.{ap, arith}
use Rattle.keel_machine.specs.Admission.{ops_of}
use Rattle.keel_draft.specs.Drafts.{count_ops}
use Rattle.keel_core.proofs.Lists.{next_item}
use Rattle.keel_core.proofs.queue.count_ops.Goals as goal

pub overflow_add-total : goal.overflow_add-total
overflow_add-total c =
    let next = ap (λ l. count_ops (ops_of l)) (next_item c.args.batches.now c.loop-batch.batch-index c.batch-item.result c.loop-batch-test.true c.batch-item.is) in
    omega (arith, next, c.loop-batch.invariant, c.requires)

pub loop-batch-preserved : goal.loop-batch-preserved
loop-batch-preserved c =
    let next = ap (λ l. count_ops (ops_of l)) (next_item c.args.batches.now c.loop-batch.batch-index c.batch-item.result c.loop-batch-test.true c.batch-item.is) in
    omega (arith, next, c.loop-batch.invariant)
