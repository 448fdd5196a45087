-- The bytes that ops need in a memtable.
use Rattle.std.specs.Prelude.{ℕ, ◌+◌, List, length, sum_by}
use Rattle.keel_base.specs.declared.op.Op.{Op}
use Rattle.keel_base.specs.declared.op.Op.TheVariants.{Put, Del}

-- the bytes of an op's key and value
abbrev pub op_bytes : Op → ℕ
op_bytes (Put key value) = length key + length value
op_bytes (Del key) = length key

-- those of all ops
abbrev pub bytes_of : List Op → ℕ
bytes_of ops = sum_by op_bytes ops
