use Rattle.std.proofs.Common.{◌+◌, drop, ap, arith}
use Rattle.keel_base.specs.Weight.{weight_of}
use Rattle.keel_base.proofs.Weights.{both_within, next_op, weight_most}
use Rattle.keel_base.proofs.op.ops_weight.Goals as goal

pub weight-total-requires : goal.weight-total-requires
weight-total-requires c =
    let next = next_op c.args.ops.now c.loop-op.op-index c.op-item.result c.loop-op-test.true c.op-item.is in
    (both_within (drop (c.loop-op.op-index + 1) c.args.ops.now) (drop c.loop-op.op-index c.args.ops.now) c.op-item.result next c.loop-op.invariant.within).0

pub overflow_add-total : goal.overflow_add-total
overflow_add-total c =
    let next = next_op c.args.ops.now c.loop-op.op-index c.op-item.result c.loop-op-test.true c.op-item.is in
    let more = ap weight_of next in
    omega (arith, more, c.loop-op.invariant.sum, weight_most c.args.ops.now c.requires.within, c.requires.few)

pub loop-op-preserved : goal.loop-op-preserved
loop-op-preserved c =
    let next = next_op c.args.ops.now c.loop-op.op-index c.op-item.result c.loop-op-test.true c.op-item.is in
    let more = ap weight_of next in
    record {
      sum = omega (arith, more, c.weight-total.ensures, c.loop-op.invariant.sum);
      within = (both_within (drop (c.loop-op.op-index + 1) c.args.ops.now) (drop c.loop-op.op-index c.args.ops.now) c.op-item.result next c.loop-op.invariant.within).1;
    }
