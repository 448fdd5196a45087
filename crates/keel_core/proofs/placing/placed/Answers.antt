use Rattle.std.proofs.Common.{◌+◌, ◌<◌, ◌++◌, ◌≡◌, length, drop, ap, sym, subst, ◌∙◌, arith, append_assoc}
use Rattle.std.specs.Prelude.{All}
use Rattle.keel_base.specs.declared.row.Row.{Row}
use Rattle.keel_base.specs.Rows.{op_rows}
use Rattle.keel_machine.specs.Opening.{ops_replayed}
use Rattle.keel_draft.specs.Drafts.{batch_rows}
use Rattle.keel_core.proofs.Lists.{next_item}
use Rattle.keel_core.proofs.Rooms.{below_ops}
use Rattle.keel_core.proofs.placing.placed.Goals as goal

pub loop-batch-preserved : goal.loop-batch-preserved
loop-batch-preserved c =
    let i = c.loop-batch.batch-index in
    let batches = c.args.batches.now in
    let ops = c.as_slice-ops.result.now in
    let rest = drop (i + 1) batches in
    let at = c.loop-batch.last in
    let before = c.loop-batch.mem.rows in
    let next = next_item batches i c.batch-item.result c.loop-batch-test.true c.batch-item.is in
    let put = c.put_ops.ensures.rows ∙ ap (λ l. l ++ op_rows (at + 1) ops) c.in_ok-reserve_ops.ensures.rows in
    let number : at + length ops + 1 ≡ at + 1 + length ops = omega arith in
    record {
      rows = (λ k. put k ++ batch_rows (number k) (ops_replayed rest))
          ∙ append_assoc before (op_rows (at + 1) ops) (batch_rows (at + 1 + length ops) (ops_replayed rest))
          ∙ (λ k. before ++ (op_rows (at + 1) (c.as_slice-ops.ensures k) ++ batch_rows (at + 1 + length (c.as_slice-ops.ensures k)) (ops_replayed rest)))
          ∙ ap (λ l. before ++ batch_rows (at + 1) (ops_replayed l)) (sym next)
          ∙ c.loop-batch.invariant.rows;
      below = subst (λ n. All (λ (row : Row). row.seq < n) c.put_ops.new.self.rows) (sym number)
          (subst (All (λ (row : Row). row.seq < at + 1 + length ops)) (sym put) (below_ops before (at + 1) ops c.loop-batch.invariant.below));
    }
