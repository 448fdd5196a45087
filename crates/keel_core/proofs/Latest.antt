-- The newest row of a key among those of tables and segments.
use Rattle.std.proofs.Common.{◌≡◌, ℕ, ◌+◌, ◌<◌, ◌≤◌, true, false, cond, ltb, List, [], ◌∷◌, ◌++◌, length, map, Option, Some, None, refl, sym, ap, subst, ◌∙◌, arith, append-nil}
use Rattle.std.specs.List.{AllByRecursion, flat_map}
use Rattle.keel_base.specs.declared.op.Op.{Op}
use Rattle.keel_base.specs.declared.op.Op.TheVariants.{Put, Del}
use Rattle.keel_base.specs.declared.row.Row.{Row}
use Rattle.keel_base.specs.Keys.{key_eq}
use Rattle.keel_base.specs.Rows.{newer, newest, op_row, op_rows}
use Rattle.keel_base.proofs.Newest.{newest_of_both, newest-append, newer_is_other}
use Rattle.keel_directory.specs.Sound.{IsAsSaid}
use Rattle.keel_directory.specs.TableFiles.{TableFile, table_rows}
use Rattle.keel_machine.specs.Reads.{segment_rows}
use Rattle.keel_machine.specs.States.{Segment}
use Rattle.keel_draft.specs.Drafts.{batch_rows, count_ops}
use Rattle.keel_core.specs.Gets.{else_of, latest}
use Rattle.keel_core.specs.Views.{AreSegments, FullSegment}

-- ---- of a row that is found

abbrev pub AllOf : (Row → Type 0) → Option Row → Type 0
AllOf P None = Unit {0}
AllOf P (Some row) = P row

of_weaker : (P Q : Row → Type 0) → ((row : Row) → P row → Q row) → (found : Option Row) → AllOf P found → AllOf Q found
of_weaker P Q weaker None all = tt
of_weaker P Q weaker (Some row) all = weaker row all

of_newer : (P : Row → Type 0) (row : Row) (found : Option Row) → P row → AllOf P found → AllOf P (newer row found)
of_newer P row None here rest = here
of_newer P row (Some other) here rest = elim (ltb row.seq other.seq) as (λ b. AllOf P (cond b (Some other) (Some row))) [ true ↦ rest | false ↦ here ]

of_both : (P : Row → Type 0) (first second : Option Row) → AllOf P first → AllOf P second → AllOf P (newest_of_both first second)
of_both P None second one two = two
of_both P (Some row) second one two = of_newer P row second one two

of_else : (P : Row → Type 0) (first second : Option Row) → AllOf P first → AllOf P second → AllOf P (else_of first second)
of_else P None second one two = two
of_else P (Some row) second one two = one

of_first : (P : Row → Type 0) (key : List ℕ) (row : Row) (found : Option Row) → P row → AllOf P found → AllOf P (cond (key_eq row.key key) (newer row found) found)
of_first P key row found here rest =
    elim (key_eq row.key key) as (λ b. AllOf P (cond b (newer row found) found)) [ true ↦ of_newer P row found here rest | false ↦ rest ]

of_newest : (P : Row → Type 0) (key : List ℕ) (rows : List Row) → AllByRecursion P rows → AllOf P (newest key rows)
of_newest P key [] all = tt
of_newest P key (row ∷ rows) all = of_first P key row (newest key rows) all.0 (of_newest P key rows all.1)

of_append : (P : Row → Type 0) (key : List ℕ) (front back : List Row) → AllOf P (newest key front) → AllOf P (newest key back) → AllOf P (newest key (front ++ back))
of_append P key front back one two =
    subst (AllOf P) (sym (newest-append key front back)) (of_both P (newest key front) (newest key back) one two)

-- ---- the numbers of rows

abbrev IsFrom : ℕ → ℕ → Row → Type 0
IsFrom first end row = (first ≤ row.seq) × (row.seq < end)

from_wider : (first least end most : ℕ) → least ≤ first → end ≤ most → (found : Option Row) → AllOf (IsFrom first end) found → AllOf (IsFrom least most) found
from_wider first least end most low high found all =
    of_weaker (IsFrom first end) (IsFrom least most) (λ row is. (omega (arith, low, is.0), omega (arith, high, is.1))) found all

row_number : (seq : ℕ) (op : Op) → (op_row seq op).seq ≡ seq
row_number seq (Put key value) = refl
row_number seq (Del key) = refl

op_numbers : (key : List ℕ) (seq : ℕ) (ops : List Op) → AllOf (IsFrom seq (seq + length ops)) (newest key (op_rows seq ops))
op_numbers key seq [] = tt
op_numbers key seq (op ∷ ops) =
    let number = row_number seq op in
    of_first (IsFrom seq (seq + length (op ∷ ops))) key (op_row seq op) (newest key (op_rows (seq + 1) ops))
    (omega (arith, number), omega (arith, number))
    (from_wider (seq + 1) seq (seq + 1 + length ops) (seq + length (op ∷ ops)) (omega arith) (omega arith) (newest key (op_rows (seq + 1) ops)) (op_numbers key (seq + 1) ops))

batch_numbers : (key : List ℕ) (seq : ℕ) (batches : List (List Op)) → AllOf (IsFrom seq (seq + count_ops batches)) (newest key (batch_rows seq batches))
batch_numbers key seq [] = tt
batch_numbers key seq (ops ∷ batches) =
    let end : seq + length ops + count_ops batches ≡ seq + count_ops (ops ∷ batches) = omega arith in
    of_append (IsFrom seq (seq + count_ops (ops ∷ batches))) key (op_rows seq ops) (batch_rows (seq + length ops) batches)
    (from_wider seq seq (seq + length ops) (seq + count_ops (ops ∷ batches)) (omega arith) (omega (arith, end)) (newest key (op_rows seq ops)) (op_numbers key seq ops))
    (from_wider (seq + length ops) seq (seq + length ops + count_ops batches) (seq + count_ops (ops ∷ batches)) (omega arith) (omega (arith, end)) (newest key (batch_rows (seq + length ops) batches)) (batch_numbers key (seq + length ops) batches))

-- ---- segments

abbrev pub IsOver : ℕ → Row → Type 0
IsOver n row = n < row.seq

abbrev pub IsUpTo : ℕ → Row → Type 0
IsUpTo n row = row.seq ≤ n

both_else : (n : ℕ) (low high : Option Row) → AllOf (IsUpTo n) low → AllOf (IsOver n) high → newest_of_both low high ≡ else_of high low
both_else n None None below over = refl
both_else n None (Some row) below over = refl
both_else n (Some row) None below over = refl
both_else n (Some row) (Some other) below over = newer_is_other row other (omega (arith, below, over))

over_batches : (key : List ℕ) (seq : ℕ) (batches : List (List Op)) → AllOf (IsOver seq) (newest key (batch_rows (seq + 1) batches))
over_batches key seq batches =
    of_weaker (IsFrom (seq + 1) (seq + 1 + count_ops batches)) (IsOver seq) (λ row is. omega (arith, is.0)) (newest key (batch_rows (seq + 1) batches)) (batch_numbers key (seq + 1) batches)

up_to_batches : (key : List ℕ) (seq : ℕ) (batches : List (List Op)) → AllOf (IsUpTo (seq + count_ops batches)) (newest key (batch_rows (seq + 1) batches))
up_to_batches key seq batches =
    of_weaker (IsFrom (seq + 1) (seq + 1 + count_ops batches)) (IsUpTo (seq + count_ops batches)) (λ row is. omega (arith, is.1)) (newest key (batch_rows (seq + 1) batches)) (batch_numbers key (seq + 1) batches)

latest_over : (key : List ℕ) (seq : ℕ) (fulls : List FullSegment) (segments : List Segment) (rows : List Row) (active : List (List Op)) (last : ℕ)
    → AreSegments seq fulls segments rows active last → AllOf (IsOver seq) (latest key fulls rows)
latest_over key seq [] [] rows active last are = subst (λ (r : List Row). AllOf (IsOver seq) (newest key r)) (sym are.0) (over_batches key seq active)
latest_over key seq (full ∷ fulls) (segment ∷ segments) rows active last are =
    of_else (IsOver seq) (latest key fulls rows) (newest key full.rows)
    (of_weaker (IsOver (seq + count_ops segment.batches)) (IsOver seq) (λ row is. omega (arith, is)) (latest key fulls rows)
    (latest_over key (seq + count_ops segment.batches) fulls segments rows active last are.2))
    (subst (λ (r : List Row). AllOf (IsOver seq) (newest key r)) (sym are.1) (over_batches key seq segment.batches))
latest_over key seq [] (segment ∷ segments) rows active last are = absurd are
latest_over key seq (full ∷ fulls) [] rows active last are = absurd are

abbrev pub batches_in : List Segment → List (List Op) → List (List (List Op))
batches_in segments active = map (λ (segment : Segment). segment.batches) segments ++ active ∷ []

latest_is : (key : List ℕ) (seq : ℕ) (fulls : List FullSegment) (segments : List Segment) (rows : List Row) (active : List (List Op)) (last : ℕ)
    → AreSegments seq fulls segments rows active last → newest key (segment_rows seq (batches_in segments active)) ≡ latest key fulls rows
latest_is key seq [] [] rows active last are = ap (newest key) (append-nil (batch_rows (seq + 1) active) ∙ sym are.0)
latest_is key seq (full ∷ fulls) (segment ∷ segments) rows active last are =
    let end : ℕ = seq + count_ops segment.batches in
    let own : List Row = batch_rows (seq + 1) segment.batches in
    let rest = latest_is key end fulls segments rows active last are.2 in
    newest-append key own (segment_rows end (batches_in segments active))
    ∙ ap (newest_of_both (newest key own)) rest
    ∙ both_else end (newest key own) (latest key fulls rows) (up_to_batches key seq segment.batches) (latest_over key end fulls segments rows active last are.2)
    ∙ ap (λ (r : List Row). else_of (latest key fulls rows) (newest key r)) (sym are.1)
latest_is key seq [] (segment ∷ segments) rows active last are = absurd are
latest_is key seq (full ∷ fulls) [] rows active last are = absurd are

-- ---- tables

table_numbers : (key : List ℕ) (n : ℕ) (file : TableFile) → IsAsSaid n file → AllOf (IsUpTo n) (newest key (table_rows file))
table_numbers key n file said =
    of_weaker (λ (row : Row). (file.file.footer.first ≤ row.seq) × (row.seq ≤ file.file.footer.last)) (IsUpTo n) (λ row within. omega (arith, within.1, said.known))
    (newest key (table_rows file)) (of_newest (λ (row : Row). (file.file.footer.first ≤ row.seq) × (row.seq ≤ file.file.footer.last)) key (table_rows file) said.within)

tables_numbers : (key : List ℕ) (n : ℕ) (files : List TableFile) → AllByRecursion (IsAsSaid n) files → AllOf (IsUpTo n) (newest key (flat_map table_rows files))
tables_numbers key n [] said = tt
tables_numbers key n (file ∷ files) said =
    of_append (IsUpTo n) key (table_rows file) (flat_map table_rows files) (table_numbers key n file said.0) (tables_numbers key n files said.1)

-- Of all rows the newest is that of the last segment that has the key, or else that of the tables.
pub newest_of_all : (key : List ℕ) (seq : ℕ) (files : List TableFile) (fulls : List FullSegment) (segments : List Segment) (rows : List Row) (active : List (List Op)) (last : ℕ)
    → AllByRecursion (IsAsSaid seq) files → AreSegments seq fulls segments rows active last
    → newest key (flat_map table_rows files ++ segment_rows seq (batches_in segments active)) ≡ else_of (latest key fulls rows) (newest key (flat_map table_rows files))
newest_of_all key seq files fulls segments rows active last said are =
    newest-append key (flat_map table_rows files) (segment_rows seq (batches_in segments active))
    ∙ ap (newest_of_both (newest key (flat_map table_rows files))) (latest_is key seq fulls segments rows active last are)
    ∙ both_else seq (newest key (flat_map table_rows files)) (latest key fulls rows) (tables_numbers key seq files said) (latest_over key seq fulls segments rows active last are)
