-- The newest rows of a segment in place of all its rows.
use Rattle.std.proofs.Common.{◌≡◌, ℕ, ◌+◌, ◌^◌, ◌<◌, ◌≤◌, Bool, true, false, cond, ltb, List, [], ◌∷◌, ◌++◌, length, Option, Some, None, refl, sym, ap, subst, ◌∙◌, arith}
use Rattle.std.specs.List.{AllByRecursion}
use Rattle.keel_base.specs.declared.op.Op.{Op}
use Rattle.keel_base.specs.declared.op.Op.TheVariants.{Put, Del}
use Rattle.keel_base.specs.declared.row.Row.{Row}
use Rattle.keel_base.specs.Keys.{key_lt, key_eq}
use Rattle.keel_base.specs.Rows.{newer, newest, op_row, op_rows}
use Rattle.keel_base.proofs.KeyOrder.{eq_itself, eq_same, lt_differs, lt_then_lt}
use Rattle.keel_base.proofs.Newest.{newest_behind, newest_here, newest_of_both, newer_is_other, newer_is_row}
use Rattle.keel_batch.specs.Batches.{AreBatches}
use Rattle.keel_draft.specs.Drafts.{AreNewestOf, batch_rows, count_ops}
use Rattle.keel_table.specs.Opening.{row_of}
use Rattle.keel_table.specs.Spelling.{Ascend}

-- ---- lists

pub each : {A : Type 0} (P Q : A → Type 0) (xs : List A) → ((x : A) → P x → Q x) → AllByRecursion P xs → AllByRecursion Q xs
each P Q [] f h = tt
each P Q (x ∷ xs) f h = (f x h.0, each P Q xs f h.1)

pub both : {A : Type 0} (P : A → Type 0) (xs ys : List A) → AllByRecursion P xs → AllByRecursion P ys → AllByRecursion P (xs ++ ys)
both P [] ys h k = k
both P (x ∷ xs) ys h k = (h.0, both P xs ys h.1 k)

pub front_of : {A : Type 0} (P : A → Type 0) (xs ys : List A) → AllByRecursion P (xs ++ ys) → AllByRecursion P xs
front_of P [] ys h = tt
front_of P (x ∷ xs) ys h = (h.0, front_of P xs ys h.1)

pub back_of : {A : Type 0} (P : A → Type 0) (xs ys : List A) → AllByRecursion P (xs ++ ys) → AllByRecursion P ys
back_of P [] ys h = h
back_of P (x ∷ xs) ys h = back_of P xs ys h.1

-- ---- rows that rise

over_all : (key other : List ℕ) (rows : List Row) → key_lt key other ≡ true → Ascend other rows → newest key rows ≡ None
over_all key other [] lt rise = refl
over_all key other (row ∷ rows) lt rise =
    let over = lt_then_lt key other row.key lt rise.0 in
    newest_behind key row rows (lt_differs key row.key over) ∙ over_all key row.key rows over rise.1

none_over : (key : List ℕ) (rows : List Row) → Ascend key rows → newest key rows ≡ None
none_over key [] rise = refl
none_over key (row ∷ rows) rise = newest_behind key row rows (lt_differs key row.key rise.0) ∙ over_all key row.key rows rise.0 rise.1

-- of rows that rise a key has one at most
one_row : (before key : List ℕ) (rows : List Row) → Ascend before rows → row_of key rows ≡ newest key rows
one_row before key [] rise = refl
one_row before key (row ∷ rows) rise =
    elim (key_eq row.key key) as (λ b. key_eq row.key key ≡ b → cond b (Some row) (row_of key rows) ≡ cond b (newer row (newest key rows)) (newest key rows)) [
      | true ↦ λ same. ap (newer row) (sym (subst (λ (k : List ℕ). newest k rows ≡ None) (eq_same row.key key same) (none_over row.key rows rise.1)))
      | false ↦ λ apart. one_row row.key key rows rise.1
    ] refl

pub newest_same : (all rows : List Row) (key : List ℕ) → AreNewestOf all rows → newest key rows ≡ newest key all
newest_same all rows key are = sym (one_row [] key rows are.rise) ∙ are.says key

-- ---- what holds of all

abbrev pub AllOf : (Row → Type 0) → Option Row → Type 0
AllOf P None = Unit {0}
AllOf P (Some row) = P row

newer_of : (P : Row → Type 0) (row : Row) (found : Option Row) → P row → AllOf P found → AllOf P (newer row found)
newer_of P row None here rest = here
newer_of P row (Some other) here rest = elim (ltb row.seq other.seq) as (λ b. AllOf P (cond b (Some other) (Some row))) [ true ↦ rest | false ↦ here ]

pub newest_of : (P : Row → Type 0) (key : List ℕ) (rows : List Row) → AllByRecursion P rows → AllOf P (newest key rows)
newest_of P key [] all = tt
newest_of P key (row ∷ rows) all =
    let rest = newest_of P key rows all.1 in
    elim (key_eq row.key key) as (λ b. AllOf P (cond b (newer row (newest key rows)) (newest key rows))) [
      | true ↦ newer_of P row (newest key rows) all.0 rest
      | false ↦ rest
    ]

in_rest : (P : Row → Type 0) (key : List ℕ) (row : Row) (rows : List Row) (b : Bool) → key_eq row.key key ≡ b → newest row.key rows ≡ None → AllOf P (newest key (row ∷ rows)) → AllOf P (newest key rows)
in_rest P key row rows true e none have = subst (AllOf P) (sym (subst (λ (k : List ℕ). newest k rows ≡ None) (eq_same row.key key e) none)) tt
in_rest P key row rows false e none have = subst (AllOf P) (newest_behind key row rows e) have

if_newest : (P : Row → Type 0) (before : List ℕ) (rows : List Row) → Ascend before rows → ((key : List ℕ) → AllOf P (newest key rows)) → AllByRecursion P rows
if_newest P before [] rise have = tt
if_newest P before (row ∷ rows) rise have =
    let none : newest row.key rows ≡ None = none_over row.key rows rise.1 in
    let here : newest row.key (row ∷ rows) ≡ Some row = newest_here row.key row rows (eq_itself row.key) ∙ ap (newer row) none in
    (subst (AllOf P) here (have row.key), if_newest P row.key rows rise.1 (λ key. in_rest P key row rows (key_eq row.key key) refl none (have key)))

-- what holds of all rows holds of the newest of them
pub newest_have : (P : Row → Type 0) (all rows : List Row) → AreNewestOf all rows → AllByRecursion P all → AllByRecursion P rows
newest_have P all rows are have = if_newest P [] rows are.rise (λ key. subst (AllOf P) (sym (newest_same all rows key are)) (newest_of P key all have))

newer_some : (row : Row) (found : Option Row) → newer row found ≡ None → ⊥
newer_some row None e = cc
newer_some row (Some other) e = by (ltb row.seq other.seq) e
  where
    by : (b : Bool) → cond b (Some other) (Some row) ≡ None → ⊥
    by true e = cc
    by false e = cc

-- where there is a row, there is a newest one
pub newest_some : (row : Row) (all rows : List Row) → AreNewestOf (row ∷ all) rows → 1 ≤ length rows
newest_some row all [] are =
    absurd (newer_some row (newest row.key all) (sym (newest_here row.key row all (eq_itself row.key)) ∙ sym (newest_same (row ∷ all) [] row.key are)))
newest_some row all (first ∷ rows) are = omega arith

-- ---- the order of lists

pub turned : (n : ℕ) (low high : Option Row) → AllOf (λ row. row.seq < n) low → AllOf (λ row. n ≤ row.seq) high → newest_of_both low high ≡ newest_of_both high low
turned n None None below over = refl
turned n None (Some row) below over = refl
turned n (Some row) None below over = refl
turned n (Some row) (Some other) below over = newer_is_other row other (omega (arith, below, over)) ∙ sym (newer_is_row other row (omega (arith, below, over)))

-- ---- numbers of batches

abbrev pub IsNumbered : ℕ → ℕ → Row → Type 0
IsNumbered least most row = (least ≤ row.seq) × (row.seq ≤ most)

row_number : (seq : ℕ) (op : Op) → (op_row seq op).seq ≡ seq
row_number seq (Put key value) = refl
row_number seq (Del key) = refl

ops_within : (least most seq : ℕ) (ops : List Op) → least ≤ seq → seq + length ops ≤ most + 1 → AllByRecursion (IsNumbered least most) (op_rows seq ops)
ops_within least most seq [] le within = tt
ops_within least most seq (op ∷ ops) le within =
    ((omega (arith, le, row_number seq op), omega (arith, within, row_number seq op)), ops_within least most (seq + 1) ops (omega (arith, le)) (omega (arith, within)))

pub batches_within : (least most seq : ℕ) (batches : List (List Op)) → least ≤ seq → seq + count_ops batches ≤ most + 1 → AllByRecursion (IsNumbered least most) (batch_rows seq batches)
batches_within least most seq [] le within = tt
batches_within least most seq (ops ∷ batches) le within =
    both (IsNumbered least most) (op_rows seq ops) (batch_rows (seq + length ops) batches)
    (ops_within least most seq ops le (omega (arith, within)))
    (batches_within least most (seq + length ops) batches (omega (arith, le)) (omega (arith, within)))

pub batches_most : (most last : ℕ) (batches : List (List Op)) → most ≡ 2 ^ 56 → last ≤ most → AreBatches last batches → last + count_ops batches ≤ most
batches_most most last [] is le are = omega (arith, le)
batches_most most last (ops ∷ batches) is le are =
    let fits : last + length ops ≤ most = omega (arith, is, are.0.last) in
    omega (arith, batches_most most (last + length ops) batches is fits are.1)

pub batches_front : (last : ℕ) (front rest : List (List Op)) → AreBatches last (front ++ rest) → AreBatches last front
batches_front last [] rest are = tt
batches_front last (ops ∷ front) rest are = (are.0, batches_front (last + length ops) front rest are.1)

pub batches_back : (last : ℕ) (front rest : List (List Op)) → AreBatches last (front ++ rest) → AreBatches (last + count_ops front) rest
batches_back last [] rest are = let e : last ≡ last + 0 = omega arith in subst (λ (n : ℕ). AreBatches n rest) e are
batches_back last (ops ∷ front) rest are =
    let e : last + length ops + count_ops front ≡ last + (length ops + count_ops front) = omega arith in
    subst (λ (n : ℕ). AreBatches n rest) e (batches_back (last + length ops) front rest are.1)
