-- The rows of batches that logs give, behind the rows of tables.
use Rattle.std.proofs.Common.{◌≡◌, ℕ, ◌+◌, ◌<◌, ◌≤◌, ◌==◌, Bool, true, false, if◌then◌else◌, List, [], ◌∷◌, ◌++◌, length, map, Result, Ok, Err, refl, sym, ap, subst, ◌∙◌, append_assoc, arith}
use Rattle.std.specs.Prelude.{All}
use Rattle.std.specs.List.{AllByRecursion}
use Rattle.std.proofs.lemmas.Bool.{eq-eqb}
use Rattle.std.proofs.lemmas.List.{map-append}
use Rattle.std.proofs.lemmas.List.Elements.{All-nil, All-cons}
use Rattle.keel_base.specs.declared.op.Op.{Op}
use Rattle.keel_base.specs.declared.op.Op.TheVariants.{Put, Del}
use Rattle.keel_base.specs.declared.row.Row.{Row}
use Rattle.keel_base.specs.Points.{Point, Values, after_batch, after_ops, fold_batches}
use Rattle.keel_base.specs.Rows.{IsMapOf, op_row, op_rows}
use Rattle.keel_directory.specs.declared.logs.Replayed.{Replayed}
use Rattle.keel_directory.specs.Refusals.{Refusal, log_gap}
use Rattle.keel_directory.specs.Replays.{run_on, replayed_rows}
use Rattle.keel_directory.specs.Sound.{Agree, AllAgree}
use Rattle.keel_mem.proofs.Folding.{rows_fold}
use Rattle.keel_draft.specs.Drafts.{batch_rows, count_ops}
use Rattle.keel_recovery.proofs.Numbering.{counted_append}

-- ---- ops in one list

abbrev pub all_ops : List (List Op) → List Op
all_ops [] = []
all_ops (ops ∷ batches) = ops ++ all_ops batches

op_rows_append : (seq : ℕ) (front rest : List Op) → op_rows seq (front ++ rest) ≡ op_rows seq front ++ op_rows (seq + length front) rest
op_rows_append seq [] rest = let e : seq ≡ seq + 0 = omega arith in ap (λ (n : ℕ). op_rows n rest) e
op_rows_append seq (op ∷ front) rest =
    let e : seq + 1 + length front ≡ seq + length (op ∷ front) = omega arith in
    ap (λ (l : List Row). op_row seq op ∷ l) (op_rows_append (seq + 1) front rest ∙ ap (λ (n : ℕ). op_rows (seq + 1) front ++ op_rows n rest) e)

pub batch_rows_ops : (seq : ℕ) (batches : List (List Op)) → batch_rows seq batches ≡ op_rows seq (all_ops batches)
batch_rows_ops seq [] = refl
batch_rows_ops seq (ops ∷ batches) = ap (λ (l : List Row). op_rows seq ops ++ l) (batch_rows_ops (seq + length ops) batches) ∙ sym (op_rows_append seq ops (all_ops batches))

after_append : (front rest : List Op) (values : Values) → after_ops (front ++ rest) values ≡ after_ops rest (after_ops front values)
after_append [] rest values = refl
after_append (op ∷ front) rest values = after_append front rest _

folded_ops : (point : Point) (batches : List (List Op)) → (fold_batches point batches).values ≡ after_ops (all_ops batches) point.values
folded_ops point [] = refl
folded_ops point (ops ∷ batches) = folded_ops (after_batch point ops) batches ∙ sym (after_append ops (all_ops batches) point.values)

-- ---- the map

all_of : (P : Row → Type 0) (rows : List Row) → AllByRecursion P rows → All P rows
all_of P [] h = All-nil P
all_of P (row ∷ rows) h = All-cons P row rows h.0 (all_of P rows h.1)

-- no row is numbered over that
abbrev pub AreKnown : ℕ → List Row → Type 0
AreKnown last rows = AllByRecursion (λ (row : Row). row.seq ≤ last) rows

below_next : (last : ℕ) (rows : List Row) → AreKnown last rows → AllByRecursion (λ (row : Row). row.seq < last + 1) rows
below_next last [] h = tt
below_next last (row ∷ rows) h = (omega (arith, h.0), below_next last rows h.1)

-- batches numbered on behind all rows of a map make of it what their rows say
pub map_folds : (rows : List Row) (base : Point) (batches : List (List Op)) → IsMapOf rows base.values → AreKnown base.seq rows
    → IsMapOf (rows ++ batch_rows (base.seq + 1) batches) (fold_batches base batches).values
map_folds rows base batches is known =
    let fold = rows_fold rows base.values (base.seq + 1) (all_ops batches) is (all_of (λ (row : Row). row.seq < base.seq + 1) rows (below_next base.seq rows known)) in
    let rows_are : rows ++ op_rows (base.seq + 1) (all_ops batches) ≡ rows ++ batch_rows (base.seq + 1) batches = ap (λ (l : List Row). rows ++ l) (sym (batch_rows_ops (base.seq + 1) batches)) in
    subst (λ (v : Values). IsMapOf (rows ++ batch_rows (base.seq + 1) batches) v) (sym (folded_ops base batches))
    (subst (λ (l : List Row). IsMapOf l (after_ops (all_ops batches) base.values)) rows_are fold)

-- ---- rows that agree

both : {A : Type 0} (P : A → Type 0) (xs ys : List A) → AllByRecursion P xs → AllByRecursion P ys → AllByRecursion P (xs ++ ys)
both P [] ys h k = k
both P (x ∷ xs) ys h k = (h.0, both P xs ys h.1 k)

each : {A : Type 0} (P Q : A → Type 0) (xs : List A) → ((x : A) → P x → Q x) → AllByRecursion P xs → AllByRecursion Q xs
each P Q [] f h = tt
each P Q (x ∷ xs) f h = (f x h.0, each P Q xs f h.1)

-- the numbers of these rows are from that one on
abbrev AreFrom : ℕ → List Row → Type 0
AreFrom least rows = AllByRecursion (λ (row : Row). least ≤ row.seq) rows

row_number : (seq : ℕ) (op : Op) → (op_row seq op).seq ≡ seq
row_number seq (Put key value) = refl
row_number seq (Del key) = refl

ops_from : (least seq : ℕ) (ops : List Op) → least ≤ seq → AreFrom least (op_rows seq ops)
ops_from least seq [] le = tt
ops_from least seq (op ∷ ops) le = (omega (arith, le, row_number seq op), ops_from least (seq + 1) ops (omega (arith, le)))

ops_agree : (seq : ℕ) (ops : List Op) → AllAgree (op_rows seq ops)
ops_agree seq [] = tt
ops_agree seq (op ∷ ops) =
    let row = op_row seq op in
    let rest = op_rows (seq + 1) ops in
    let over : AreFrom (seq + 1) rest = ops_from (seq + 1) (seq + 1) ops (omega arith) in
    let ahead : AllByRecursion (Agree row) rest = each (λ (b : Row). seq + 1 ≤ b.seq) (Agree row) rest (λ b le same e. absurd (omega (arith, le, e, row_number seq op))) over in
    let back : AllByRecursion (λ a. Agree a row) rest = each (λ (b : Row). seq + 1 ≤ b.seq) (λ a. Agree a row) rest (λ b le same e. absurd (omega (arith, le, e, row_number seq op))) over in
    (((λ same e. (refl, refl)), ahead), joined rest (λ a. Agree a row) (λ a. AllByRecursion (Agree a) rest) back (ops_agree (seq + 1) ops))
  where
    joined : (rows : List Row) (P Q : Row → Type 0) → AllByRecursion P rows → AllByRecursion Q rows → AllByRecursion (λ a. P a × Q a) rows
    joined [] P Q h k = tt
    joined (r ∷ rows) P Q h k = ((h.0, k.0), joined rows P Q h.1 k.1)

known_agree : (last : ℕ) (rows others : List Row) → AreKnown last rows → AreFrom (last + 1) others → AllAgree rows → AllAgree others → AllAgree (rows ++ others)
known_agree last rows others known over agree agree_too =
    both (λ a. AllByRecursion (Agree a) (rows ++ others)) rows others
    (front rows known agree)
    (each_two others over agree_too)
  where
    front : (rs : List Row) → AreKnown last rs → AllByRecursion (λ a. AllByRecursion (Agree a) rows) rs → AllByRecursion (λ a. AllByRecursion (Agree a) (rows ++ others)) rs
    front [] k h = tt
    front (a ∷ rs) k h =
        (both (Agree a) rows others h.0 (each (λ (b : Row). last + 1 ≤ b.seq) (Agree a) others (λ b le same e. absurd (omega (arith, le, e, k.0))) over), front rs k.1 h.1)

    each_two : (rs : List Row) → AreFrom (last + 1) rs → AllByRecursion (λ a. AllByRecursion (Agree a) others) rs → AllByRecursion (λ a. AllByRecursion (Agree a) (rows ++ others)) rs
    each_two [] k h = tt
    each_two (a ∷ rs) k h =
        (both (Agree a) rows others (each (λ (b : Row). b.seq ≤ last) (Agree a) rows (λ b le same e. absurd (omega (arith, le, e, k.0))) known) h.0, each_two rs k.1 h.1)

-- rows of batches numbered on behind all the others agree with them
pub rows_agree : (last : ℕ) (rows : List Row) (batches : List (List Op)) → AreKnown last rows → AllAgree rows → AllAgree (rows ++ batch_rows (last + 1) batches)
rows_agree last rows batches known agree =
    let ops = all_ops batches in
    subst (λ (l : List Row). AllAgree (rows ++ l)) (sym (batch_rows_ops (last + 1) batches))
    (known_agree last rows (op_rows (last + 1) ops) known (ops_from (last + 1) (last + 1) ops (omega arith)) agree (ops_agree (last + 1) ops))

-- ---- batches that were replayed

abbrev pub ops_found : List Replayed → List (List Op)
ops_found found = map (λ (b : Replayed). b.ops) found

-- what was replayed is these batches, numbered on
pub record RunsAs (last : ℕ) (written : List (List Op)) (found : List Replayed) : Type 0 where
  pub ops : ops_found found ≡ written
  pub rows : replayed_rows found ≡ batch_rows (last + 1) written
  pub runs : run_on last found ≡ Ok (last + count_ops written)

abbrev pub replays_of : ℕ → ℕ → List (List Op) → List Replayed
replays_of log last [] = []
replays_of log last (ops ∷ batches) = record { log = log; seq = last + 1; ops = ops } ∷ replays_of log (last + length ops) batches

abbrev ran : ℕ → Result ℕ Refusal
ran n = Ok n

pub replays_run : (log last : ℕ) (batches : List (List Op)) → RunsAs last batches (replays_of log last batches)
replays_run log last [] = record { ops = refl; rows = refl; runs = let e : last ≡ last + 0 = omega arith in ap ran e }
replays_run log last (ops ∷ batches) =
    let rest = replays_run log (last + length ops) batches in
    let e : last + length ops + 1 ≡ last + 1 + length ops = omega arith in
    let n : last + length ops + count_ops batches ≡ last + (length ops + count_ops batches) = omega arith in
    record {
      ops = ap (λ (l : List (List Op)). ops ∷ l) rest.ops;
      rows = ap (λ (l : List Row). op_rows (last + 1) ops ++ l) (rest.rows ∙ ap (λ (k : ℕ). batch_rows k batches) e);
      runs = rw (eq-eqb (last + 1) (last + 1) refl) (rest.runs ∙ ap ran n);
    }

rows_append : (front rest : List Replayed) → replayed_rows (front ++ rest) ≡ replayed_rows front ++ replayed_rows rest
rows_append [] rest = refl
rows_append (b ∷ front) rest = ap (λ (l : List Row). op_rows b.seq b.ops ++ l) (rows_append front rest) ∙ sym (append_assoc (op_rows b.seq b.ops) (replayed_rows front) (replayed_rows rest))

pub batch_rows_append : (seq : ℕ) (front rest : List (List Op)) → batch_rows seq (front ++ rest) ≡ batch_rows seq front ++ batch_rows (seq + count_ops front) rest
batch_rows_append seq [] rest = let e : seq ≡ seq + 0 = omega arith in ap (λ (n : ℕ). batch_rows n rest) e
batch_rows_append seq (ops ∷ front) rest =
    let e : seq + length ops + count_ops front ≡ seq + (length ops + count_ops front) = omega arith in
    ap (λ (l : List Row). op_rows seq ops ++ l) (batch_rows_append (seq + length ops) front rest ∙ ap (λ (n : ℕ). batch_rows (seq + length ops) front ++ batch_rows n rest) e)
    ∙ sym (append_assoc (op_rows seq ops) (batch_rows (seq + length ops) front) (batch_rows (seq + (length ops + count_ops front)) rest))

run_append : (last middle : ℕ) (front rest : List Replayed) → run_on last front ≡ Ok middle → run_on last (front ++ rest) ≡ run_on middle rest
run_append last middle [] rest e = let same : last ≡ middle = cc in ap (λ (n : ℕ). run_on n rest) same
run_append last middle (b ∷ front) rest e = by (b.seq == last + 1) (run_append (last + length b.ops) middle front rest) e
  where
    by : (t : Bool) → (run_on (last + length b.ops) front ≡ Ok middle → run_on (last + length b.ops) (front ++ rest) ≡ run_on middle rest) → (if t then run_on (last + length b.ops) front else Err (log_gap b.log (last + 1) b.seq)) ≡ Ok middle
        → (if t then run_on (last + length b.ops) (front ++ rest) else Err (log_gap b.log (last + 1) b.seq)) ≡ run_on middle rest
    by true later e = later e
    by false later e = cc

pub runs_append : (last : ℕ) (front rest : List (List Op)) (found more : List Replayed) → RunsAs last front found → RunsAs (last + count_ops front) rest more → RunsAs last (front ++ rest) (found ++ more)
runs_append last front rest found more h k =
    let e : last + count_ops front + 1 ≡ last + 1 + count_ops front = omega arith in
    let n : last + count_ops front + count_ops rest ≡ last + count_ops (front ++ rest) = omega (arith, counted_append front rest) in
    record {
      ops = map-append (λ (b : Replayed). b.ops) found more ∙ (λ i. h.ops i ++ k.ops i);
      rows = rows_append found more ∙ (λ i. h.rows i ++ k.rows i) ∙ ap (λ (m : ℕ). batch_rows (last + 1) front ++ batch_rows m rest) e ∙ sym (batch_rows_append (last + 1) front rest);
      runs = run_append last (last + count_ops front) found more h.runs ∙ k.runs ∙ ap ran n;
    }

-- nothing runs behind any number
pub none_run : (last next : ℕ) (found : List Replayed) → RunsAs last [] found → RunsAs next [] found
none_run last next [] h = record { ops = refl; rows = refl; runs = let e : next ≡ next + 0 = omega arith in ap ran e }
none_run last next (b ∷ found) h = absurd (omega (arith, ap length h.ops))
