-- The rows of ops, one op more at a time.
use Rattle.std.proofs.Common.{◌≡◌, ℕ, ◌+◌, ◌<◌, List, [], ◌∷◌, ◌++◌, length, take, get_or, sym, ap, ◌∙◌, arith}
use Rattle.std.proofs.lemmas.List.{take_more, length-take-le}
use Rattle.std.proofs.lemmas.List.Sums.{sum_by_more}
use Rattle.keel_base.specs.declared.op.Op.{Op}
use Rattle.keel_base.specs.declared.row.Row.{Row}
use Rattle.keel_base.specs.Rows.{op_row, op_rows}
use Rattle.keel_mem.specs.Needs.{op_bytes, bytes_of}

op_rows-push : (seq : ℕ) (ops : List Op) (op : Op) → op_rows seq (ops ++ op ∷ []) ≡ op_rows seq ops ++ op_row (seq + length ops) op ∷ []
op_rows-push seq [] op = let none : seq ≡ seq + length {A = Op} [] = omega arith in ap (λ (n : ℕ). op_row n op ∷ []) none
op_rows-push seq (first ∷ ops) op =
    let number : seq + 1 + length ops ≡ seq + length (first ∷ ops) = omega arith in
    ap (λ (rows : List Row). op_row seq first ∷ rows) (op_rows-push (seq + 1) ops op ∙ ap (λ (n : ℕ). op_rows (seq + 1) ops ++ op_row n op ∷ []) number)

pub rows_more : (seq i : ℕ) (ops : List Op) (op : Op) → i < length ops → op ≡ get_or ops i op → op_rows seq (take (i + 1) ops) ≡ op_rows seq (take i ops) ++ op_row (seq + i) op ∷ []
rows_more seq i ops op lt is =
    let size : length (take i ops) ≡ i = length-take-le i ops (omega arith) in
    ap (op_rows seq) (take_more ops i op lt) ∙ op_rows-push seq (take i ops) (get_or ops i op)
    ∙ ap (λ (n : ℕ). op_rows seq (take i ops) ++ op_row (seq + n) (get_or ops i op) ∷ []) size
    ∙ ap (λ (o : Op). op_rows seq (take i ops) ++ op_row (seq + i) o ∷ []) (sym is)

pub bytes_more : (i : ℕ) (ops : List Op) (op : Op) → i < length ops → op ≡ get_or ops i op → bytes_of (take (i + 1) ops) ≡ bytes_of (take i ops) + op_bytes op
bytes_more i ops op lt is = sum_by_more op_bytes ops i op lt ∙ ap (λ (o : Op). bytes_of (take i ops) + op_bytes o) (sym is)
