use Rattle.std.proofs.Common.{◌≡◌, ◌+◌, ◌<◌, ℕ, List, [], ◌∷◌, ◌++◌, length, take, get_or, append_assoc, sym, ap, subst, ◌∙◌, arith}
use Rattle.std.specs.Prelude.{All}
use Rattle.keel_base.specs.declared.row.Row.{Row}
use Rattle.keel_base.specs.Rows.{op_row, op_rows}
use Rattle.keel_mem.proofs.Folding.{below_next}
use Rattle.keel_mem.proofs.Numbers.{rows_more, bytes_more}
use Rattle.keel_mem.proofs.mem.Mem.put_ops.Goals as goal

pub loop-op-preserved : goal.loop-op-preserved
loop-op-preserved c =
    let ops = c.args.ops.now in
    let i = c.loop-op.op-index in
    let op = c.op-item.result in
    let within : i < length ops = c.loop-op-test.true in
    let is : op ≡ get_or ops i op = c.op-item.is in
    let more = rows_more c.args.seq i ops op within is in
    record {
      rows = c.put_op.ensures.rows
          ∙ ap (λ (rows : List Row). rows ++ op_row c.loop-op.next op ∷ []) c.loop-op.invariant.rows
          ∙ ap (λ (n : ℕ). (c.args.self.now.rows ++ op_rows c.args.seq (take i ops)) ++ op_row n op ∷ []) c.loop-op.invariant.number
          ∙ append_assoc c.args.self.now.rows (op_rows c.args.seq (take i ops)) (op_row (c.args.seq + i) op ∷ [])
          ∙ ap (λ (rows : List Row). c.args.self.now.rows ++ rows) (sym more);
      bytes = omega (arith, bytes_more i ops op within is, c.put_op.ensures.bytes, c.loop-op.invariant.bytes);
      entries = omega arith;
      number = omega arith;
      above = subst (All (λ (row : Row). row.seq < c.loop-op.next + 1)) (sym c.put_op.ensures.rows) (below_next c.loop-op.self.rows c.loop-op.next op c.loop-op.invariant.above);
    }
