use Rattle.std.proofs.Common.{◌+◌, ◌<◌, ◌++◌, length, drop, ap, sym, subst, ◌∙◌, arith, append_assoc}
use Rattle.std.specs.Prelude.{All}
use Rattle.keel_base.specs.declared.row.Row.{Row}
use Rattle.keel_base.specs.Rows.{op_rows}
use Rattle.keel_machine.specs.Admission.{ops_of}
use Rattle.keel_draft.specs.Drafts.{count_ops}
use Rattle.keel_core.specs.Placing.{bytes_needed}
use Rattle.keel_draft.specs.Drafts.{batch_rows}
use Rattle.keel_core.proofs.Lists.{next_item}
use Rattle.keel_core.proofs.Rooms.{below_ops}
use Rattle.keel_core.proofs.placing.place.Goals as goal

pub loop-batch-preserved : goal.loop-batch-preserved
loop-batch-preserved c =
    let i = c.loop-batch.batch-index in
    let batches = c.args.batches.now in
    let ops = c.batch-item.result.ops in
    let rest = drop (i + 1) batches in
    let at = c.loop-batch.next in
    let before = c.loop-batch.mem.rows in
    let next = next_item batches i c.batch-item.result c.loop-batch-test.true c.batch-item.is in
    let counts = ap (λ l. count_ops (ops_of l)) next in
    let bytes = ap (λ l. bytes_needed (ops_of l)) next in
    let put = c.put_reserved.ensures in
    record {
      rows = (λ k. put.rows k ++ batch_rows (at + c.len.ensures k) (ops_of rest))
          ∙ append_assoc before (op_rows at ops) (batch_rows (at + length ops) (ops_of rest))
          ∙ ap (λ l. before ++ batch_rows at (ops_of l)) (sym next)
          ∙ c.loop-batch.invariant.rows;
      bytes = omega (arith, bytes, put.bytes, c.loop-batch.invariant.bytes);
      entries = omega (arith, counts, put.entries, c.loop-batch.invariant.entries);
      above = subst (λ n. All (λ (row : Row). row.seq < at + n) c.put_reserved.new.self.rows) (sym c.len.ensures)
          (subst (All (λ (row : Row). row.seq < at + length ops)) (sym put.rows) (below_ops before at ops c.loop-batch.invariant.above));
      numbers = omega (arith, counts, c.len.ensures, c.loop-batch.invariant.numbers);
    }
