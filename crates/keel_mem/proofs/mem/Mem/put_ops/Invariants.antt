use Rattle.std.proofs.Common.{◌≡◌, ◌+◌, ◌<◌, ◌++◌, take}
use Rattle.std.specs.Prelude.{All}
use Rattle.keel_base.specs.Rows.{op_rows}
use Rattle.keel_mem.specs.Needs.{bytes_of}
use Rattle.keel_mem.proofs.mem.Mem.put_ops.Given as goal

abbrev pub invariant-loop-op : goal.invariant-loop-op
invariant-loop-op l = record {
  rows : l.self.rows ≡ l.fn.self.rows ++ op_rows l.seq (take l.op-index l.ops);
  bytes : l.self.bytes + bytes_of (take l.op-index l.ops) ≡ l.fn.self.bytes;
  entries : l.self.entries + l.op-index ≡ l.fn.self.entries;
  number : l.next ≡ l.seq + l.op-index;
  above : All (λ row. row.seq < l.next) l.self.rows;
}
