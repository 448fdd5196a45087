-- Rows weigh what their ops do.
use Rattle.std.proofs.Common.{◌≡◌, ℕ, ◌+◌, List, [], ◌∷◌, ◌++◌, refl, ap, ◌∙◌, arith}
use Rattle.std.proofs.lemmas.List.Sums.{sum_by-cons, sum_by-append}
use Rattle.keel_base.specs.declared.op.Op.{Op}
use Rattle.keel_base.specs.declared.op.Op.TheVariants.{Put, Del}
use Rattle.keel_base.specs.declared.row.Row.{Row}
use Rattle.keel_base.specs.Rows.{op_row, op_rows}
use Rattle.keel_base.specs.Weight as ops
use Rattle.keel_mem.specs.Totals.{row_bytes, weight_of}

weight_of-op_row : (seq : ℕ) (op : Op) → 16 + row_bytes (op_row seq op) ≡ ops.weight op
weight_of-op_row seq (Put key value) = omega arith
weight_of-op_row seq (Del key) = omega arith

pub weight_of-op_rows : (seq : ℕ) (batch : List Op) → weight_of (op_rows seq batch) ≡ ops.weight_of batch
weight_of-op_rows seq [] = refl
weight_of-op_rows seq (op ∷ batch) =
    omega (arith, sum_by-cons (λ (r : Row). 16 + row_bytes r) (op_row seq op) (op_rows (seq + 1) batch), weight_of-op_row seq op, weight_of-op_rows (seq + 1) batch)

-- rows with those of a batch behind weigh what both do
pub weight_of-more : (rows : List Row) (seq : ℕ) (batch : List Op) → weight_of (rows ++ op_rows seq batch) ≡ weight_of rows + ops.weight_of batch
weight_of-more rows seq batch =
    sum_by-append (λ (r : Row). 16 + row_bytes r) rows (op_rows seq batch) ∙ ap (λ (n : ℕ). weight_of rows + n) (weight_of-op_rows seq batch)
