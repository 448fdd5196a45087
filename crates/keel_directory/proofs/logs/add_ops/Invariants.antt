use Rattle.std.proofs.Common.{◌≡◌, ◌+◌, ◌++◌, drop}
use Rattle.keel_base.specs.Rows.{op_rows}
use Rattle.keel_directory.proofs.logs.add_ops.Given as goal

-- the rows so far, with those of the ops that are left, are all
abbrev pub invariant-loop-op : goal.invariant-loop-op
invariant-loop-op l = record {
  rows : l.rows.items ++ op_rows l.seq (drop l.op-index l.ops) ≡ l.initial.rows.items ++ op_rows l.fn.seq l.ops;
  numbers : l.seq ≡ l.fn.seq + l.op-index;
}
