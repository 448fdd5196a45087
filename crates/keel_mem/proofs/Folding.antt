-- The rows of batches are those of the map that the batches make.
use Rattle.std.proofs.Common.{◌≡◌, ℕ, ◌+◌, ◌<◌, Bool, true, false, cond, List, [], ◌∷◌, ◌++◌, Option, Some, None, refl, sym, ap, subst, ◌∙◌, append_assoc, arith}
use Rattle.std.specs.Prelude.{All}
use Rattle.std.specs.FinMap.{get, get-insert, get-remove}
use Rattle.std.specs.Ordering.{eq_by_cmp}
use Rattle.std.proofs.lemmas.List.{append-nil}
use Rattle.std.proofs.lemmas.Cmp.{nat_list_cmp_total, eq_by_cmp_equiv}
use Rattle.std.proofs.lemmas.List.Elements.{All-push, All-weaker, All-head, All-tail}
use Rattle.keel_base.specs.declared.op.Op.{Op}
use Rattle.keel_base.specs.declared.op.Op.TheVariants.{Put, Del}
use Rattle.keel_base.specs.declared.row.Row.{Row}
use Rattle.keel_base.specs.Keys.{key_cmp, key_eq}
use Rattle.keel_base.specs.Points.{Values, after_op, after_ops}
use Rattle.keel_base.specs.Rows.{op_row, op_rows, newer, newest, value_left, IsMapOf}
use Rattle.keel_base.proofs.Newest.{newer_is_other}

chosen : (b : Bool) (row last : Row) (rest : Option Row) → row.seq < last.seq
    → cond b (newer row (cond true (Some last) rest)) (cond true (Some last) rest) ≡ Some last
chosen true row last rest less = newer_is_other row last less
chosen false row last rest less = refl

-- a row of a greater number than all is the newest of its key, and changes nothing of another
pub newest-push : (key : List ℕ) (rows : List Row) (last : Row) → All (λ row. row.seq < last.seq) rows
    → newest key (rows ++ last ∷ []) ≡ cond (key_eq last.key key) (Some last) (newest key rows)
newest-push key [] last below = refl
newest-push key (row ∷ rows) last below =
    let less : row.seq < last.seq = All-head (λ (r : Row). r.seq < last.seq) row rows below in
    let rest = newest-push key rows last (All-tail (λ (r : Row). r.seq < last.seq) row rows below) in
    ap (λ (o : Option Row). cond (key_eq row.key key) (newer row o) o) rest
    ∙ pushed (key_eq last.key key) less
  where
    pushed : (b : Bool) → row.seq < last.seq
        → cond (key_eq row.key key) (newer row (cond b (Some last) (newest key rows))) (cond b (Some last) (newest key rows)) ≡ cond b (Some last) (newest key (row ∷ rows))
    pushed true less = chosen (key_eq row.key key) row last (newest key rows) less
    pushed false less = refl

same_key : (a b : List ℕ) → key_eq a b ≡ eq_by_cmp key_cmp b a
same_key a b = (eq_by_cmp_equiv nat_list_cmp_total).symm a b

left-cond : (b : Bool) (x y : Option Row) → value_left (cond b x y) ≡ cond b (value_left x) (value_left y)
left-cond true x y = refl
left-cond false x y = refl

-- one op more
pub rows_step : (rows : List Row) (values : Values) (seq : ℕ) (op : Op) → IsMapOf rows values → All (λ row. row.seq < seq) rows
    → IsMapOf (rows ++ op_row seq op ∷ []) (after_op op values)
rows_step rows values seq (Put key value) is below = λ q.
    get-insert nat_list_cmp_total values key value q
    ∙ ap (λ (b : Bool). cond b (Some value) (get values q)) (sym (same_key key q))
    ∙ ap (λ (o : Option (List ℕ)). cond (key_eq key q) (Some value) o) (is q)
    ∙ sym (left-cond (key_eq key q) (Some (op_row seq (Put key value))) (newest q rows))
    ∙ ap value_left (sym (newest-push q rows (op_row seq (Put key value)) below))
rows_step rows values seq (Del key) is below = λ q.
    get-remove nat_list_cmp_total values key q
    ∙ ap (λ (b : Bool). cond b None (get values q)) (sym (same_key key q))
    ∙ ap (λ (o : Option (List ℕ)). cond (key_eq key q) None o) (is q)
    ∙ sym (left-cond (key_eq key q) (Some (op_row seq (Del key))) (newest q rows))
    ∙ ap value_left (sym (newest-push q rows (op_row seq (Del key)) below))

row_number : (seq : ℕ) (op : Op) → (op_row seq op).seq ≡ seq
row_number seq (Put key value) = refl
row_number seq (Del key) = refl

-- the rows stay below the number behind
pub below_next : (rows : List Row) (seq : ℕ) (op : Op) → All (λ row. row.seq < seq) rows → All (λ row. row.seq < seq + 1) (rows ++ op_row seq op ∷ [])
below_next rows seq op below =
    All-push (λ (r : Row). r.seq < seq + 1) rows (op_row seq op)
    (All-weaker (λ (r : Row). r.seq < seq) (λ (r : Row). r.seq < seq + 1) (λ row less. omega arith) rows below)
    (omega (arith, row_number seq op))

-- what a map is of, with more ops behind, is what they make of the map
pub rows_fold : (rows : List Row) (values : Values) (seq : ℕ) (ops : List Op) → IsMapOf rows values → All (λ row. row.seq < seq) rows
    → IsMapOf (rows ++ op_rows seq ops) (after_ops ops values)
rows_fold rows values seq [] is below = subst (λ (r : List Row). IsMapOf r values) (sym (append-nil rows)) is
rows_fold rows values seq (op ∷ ops) is below =
    let rest = rows_fold (rows ++ op_row seq op ∷ []) (after_op op values) (seq + 1) ops (rows_step rows values seq op is below) (below_next rows seq op below) in
    subst (λ (r : List Row). IsMapOf r (after_ops ops (after_op op values))) (append_assoc rows (op_row seq op ∷ []) (op_rows (seq + 1) ops)) rest
