-- What rows say of the map.
use Rattle.std.proofs.Common.{◌≡◌, ℕ, ◌+◌, ◌<◌, ◌≤◌, true, false, cond, ltb, List, [], ◌∷◌, ◌++◌, length, Option, Some, None, refl, sym, ap, subst, ◌∙◌, append_assoc, arith}
use Rattle.std.specs.Prelude.{All}
use Rattle.std.proofs.lemmas.List.{append-nil}
use Rattle.std.proofs.lemmas.List.Elements.{All-head, All-tail}
use Rattle.std.specs.FinMap.Entries.{put}
use Rattle.keel_base.specs.declared.op.Op.{Op}
use Rattle.keel_base.specs.declared.row.Kind.{Kind}
use Rattle.keel_base.specs.declared.row.Kind.TheVariants as kinds
use Rattle.keel_base.specs.declared.row.Row.{Row}
use Rattle.keel_base.specs.Keys.{key_cmp, key_eq}
use Rattle.keel_base.specs.Points.{Point, Values}
use Rattle.keel_base.specs.Rows.{newer, newest, op_row, op_rows, value_left, IsMapOf}
use Rattle.keel_base.proofs.Newest.{newest-append, newer_is_other, newer_is_row}
use Rattle.keel_mem.proofs.Folding.{rows_fold, below_next}
use Rattle.keel_directory.specs.Answers.{PairList, Sets, ArePairsOf, is_over}
use Rattle.keel_directory.proofs.Mapping.{left, sets_delete, sets_put, not_over, is_newest_row, no_pairs}
use Rattle.keel_levels.specs.Laws.{AreNewest, BatchesFold, NewestSplits, NewestStandFor, OrderIsFree, PointsExist}
use Rattle.keel_levels.specs.Newest.{newest_of_both}
use Rattle.keel_levels.proofs.Finding.{one_row, and_none}

pub newest_splits : NewestSplits
newest_splits key a b = newest-append key a b

-- ---- batches

below_all : (rows : List Row) (seq : ℕ) (ops : List Op) → All (λ row. row.seq < seq) rows → All (λ row. row.seq < seq + length ops) (rows ++ op_rows seq ops)
below_all rows seq [] below =
    let Below : List Row → ℕ → Type 0 = λ rs n. All (λ (row : Row). row.seq < n) rs in
    let end : seq ≡ seq + 0 = omega arith in
    subst (λ (rs : List Row). Below rs (seq + 0)) (sym (append-nil rows)) (subst (λ (n : ℕ). Below rows n) end below)
below_all rows seq (op ∷ ops) below =
    let Below : List Row → ℕ → Type 0 = λ rs n. All (λ (row : Row). row.seq < n) rs in
    let rest = below_all (rows ++ op_row seq op ∷ []) (seq + 1) ops (below_next rows seq op below) in
    let end : seq + 1 + length ops ≡ seq + length (op ∷ ops) = omega arith in
    subst (λ (rs : List Row). Below rs (seq + length (op ∷ ops))) (append_assoc rows (op_row seq op ∷ []) (op_rows (seq + 1) ops))
    (subst (λ (n : ℕ). Below ((rows ++ op_row seq op ∷ []) ++ op_rows (seq + 1) ops) n) end rest)

pub batches_fold : BatchesFold
batches_fold rows point ops says =
    let all : List Row = rows ++ op_rows (point.seq + 1) ops in
    let Below : ℕ → Type 0 = λ n. All (λ (row : Row). row.seq < n) all in
    let end : point.seq + 1 + length ops ≡ point.seq + length ops + 1 = omega arith in
    record {
      map = rows_fold rows point.values (point.seq + 1) ops says.map says.numbers;
      numbers = subst Below end (below_all rows (point.seq + 1) ops says.numbers);
    }

-- ---- rows in the place of others

abbrev AreAlike : List Row → List Row → Type 0
AreAlike rows others = (key : List ℕ) → newest key rows ≡ newest key others

alike_around : (rows others front back : List Row) → AreAlike rows others → AreAlike ((front ++ rows) ++ back) ((front ++ others) ++ back)
alike_around rows others front back alike key =
    let within : newest key (front ++ rows) ≡ newest key (front ++ others) =
    newest-append key front rows ∙ ap (newest_of_both (newest key front)) (alike key) ∙ sym (newest-append key front others) in
    newest-append key (front ++ rows) back ∙ ap (λ (o : Option Row). newest_of_both o (newest key back)) within ∙ sym (newest-append key (front ++ others) back)

same_map : (rows others : List Row) (values : Values) → AreAlike rows others → IsMapOf others values → IsMapOf rows values
same_map rows others values alike is key = is key ∙ ap value_left (sym (alike key))

stand_alike : (all rows : List Row) → AreNewest all rows → AreAlike rows all
stand_alike all rows are key = sym (one_row [] key rows are.rise) ∙ are.says key

pub newest_stand_for : NewestStandFor
newest_stand_for = record {
  same = λ all rows front back key are. alike_around rows all front back (stand_alike all rows are) key;
  map = λ all rows front back values are is. same_map ((front ++ rows) ++ back) ((front ++ all) ++ back) values (alike_around rows all front back (stand_alike all rows are)) is;
}

-- ---- the order of lists

abbrev AllOf : (Row → Type 0) → Option Row → Type 0
AllOf P None = Unit {0}
AllOf P (Some row) = P row

newer_of : (P : Row → Type 0) (row : Row) (found : Option Row) → P row → AllOf P found → AllOf P (newer row found)
newer_of P row None here rest = here
newer_of P row (Some other) here rest = elim (ltb row.seq other.seq) as (λ b. AllOf P (cond b (Some other) (Some row))) [ true ↦ rest | false ↦ here ]

newest_of : (P : Row → Type 0) (key : List ℕ) (rows : List Row) → All P rows → AllOf P (newest key rows)
newest_of P key [] all = tt
newest_of P key (row ∷ rows) all =
    let rest = newest_of P key rows (All-tail P row rows all) in
    elim (key_eq row.key key) as (λ b. AllOf P (cond b (newer row (newest key rows)) (newest key rows))) [
      | true ↦ newer_of P row (newest key rows) (All-head P row rows all) rest
      | false ↦ rest
    ]

turned : (n : ℕ) (low high : Option Row) → AllOf (λ row. row.seq < n) low → AllOf (λ row. n ≤ row.seq) high → newest_of_both low high ≡ newest_of_both high low
turned n None high below over = sym (and_none high)
turned n (Some row) None below over = refl
turned n (Some row) (Some other) below over = newer_is_other row other (omega (arith, below, over)) ∙ sym (newer_is_row other row (omega (arith, below, over)))

free : (n : ℕ) (low high : List Row) → All (λ row. row.seq < n) low → All (λ row. n ≤ row.seq) high → AreAlike (high ++ low) (low ++ high)
free n low high below over key =
    newest-append key high low
    ∙ sym (turned n (newest key low) (newest key high) (newest_of (λ (row : Row). row.seq < n) key low below) (newest_of (λ (row : Row). n ≤ row.seq) key high over))
    ∙ sym (newest-append key low high)

pub order_is_free : OrderIsFree
order_is_free = record {
  same = λ n low high front back key below over. sym (alike_around (high ++ low) (low ++ high) front back (free n low high below over) key);
  map = λ n low high front back values below over is.
      same_map ((front ++ (high ++ low)) ++ back) ((front ++ (low ++ high)) ++ back) values (alike_around (high ++ low) (low ++ high) front back (free n low high below over)) is;
}

-- ---- a point of rows

sets : (row : Row) (pairs : PairList) (kind : Kind) → row.kind ≡ kind → (set : PairList) × Sets row pairs set
sets row pairs kinds.Del is = (left row.key pairs, sets_delete row pairs (left row.key pairs) is refl)
sets row pairs kinds.Put is =
    let set : PairList = put key_cmp row.key row.value (left row.key pairs) in
    (set, sets_put row pairs set is refl)

one_more : (row : Row) (rows : List Row) (pairs : PairList) → ArePairsOf rows pairs → (after : PairList) × ArePairsOf (row ∷ rows) after
one_more row rows pairs are =
    elim (is_over row (newest row.key rows)) as (λ b. is_over row (newest row.key rows) ≡ b → (after : PairList) × ArePairsOf (row ∷ rows) after) [
      | true ↦ λ above. let s = sets row pairs row.kind refl in (s.0, is_newest_row row rows pairs s.0 above s.1 are)
      | false ↦ λ below. (pairs, not_over row rows pairs below are)
    ] refl

pairs_of : (rows : List Row) → (pairs : PairList) × ArePairsOf rows pairs
pairs_of [] = ([], no_pairs)
pairs_of (row ∷ rows) =
    let rest = pairs_of rows in one_more row rows rest.0 rest.1

pub points_exist : PointsExist
points_exist rows seq =
    let are = (pairs_of rows).1 in
    let point : Point = record { values = are.0; seq = seq } in
    (point, are.1, refl)
