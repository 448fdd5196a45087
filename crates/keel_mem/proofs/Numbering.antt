-- Rows by rising number, and the extremes of their numbers.
use Rattle.std.proofs.Common.{◌≡◌, ℕ, ◌<◌, Bool, true, false, cond, ltb, List, [], ◌∷◌, ◌++◌, take, drop, refl, sym, ap, subst, ◌∙◌, arith}
use Rattle.std.specs.Prelude.{All, min}
use Rattle.std.specs.List.Sorted.{IsPermutation}
use Rattle.std.proofs.lemmas.Bool.{lt-ltb, le-ltb}
use Rattle.std.proofs.lemmas.List.{map-append, take-append-drop}
use Rattle.std.proofs.lemmas.List.Elements.{All-head, All-tail, All-cons}
use Rattle.std.proofs.lemmas.List.Sorted.{IsPermutation-refl, IsPermutation-sym, IsPermutation-trans, IsPermutation-cons, IsPermutation-middle, All-permutation}
use Rattle.keel_base.specs.declared.row.Row.{Row}
use Rattle.keel_region.specs.declared.span.IndexEntry.{IndexEntry}
use Rattle.keel_region.specs.Order.{IsPutIn}
use Rattle.keel_mem.specs.Shown.{numbered_in, by_number, row_in, rows_in, rows_by_arrival}
use Rattle.keel_mem.specs.Totals.{least_seq, greatest_seq, first_of}

abbrev Below : ℕ → Row → Type 0
Below seq row = row.seq < seq

split : (b : Bool) (row other last : Row) (rows inner : List Row)
    → cond b (row ∷ (other ∷ (rows ++ last ∷ []))) (other ∷ (inner ++ last ∷ [])) ≡ cond b (row ∷ (other ∷ rows)) (other ∷ inner) ++ last ∷ []
split true row other last rows inner = refl
split false row other last rows inner = refl

numbered_in-push : (row : Row) (rows : List Row) (last : Row) → row.seq < last.seq → numbered_in row (rows ++ last ∷ []) ≡ numbered_in row rows ++ last ∷ []
numbered_in-push row [] last less = rw (lt-ltb row.seq last.seq less) refl
numbered_in-push row (other ∷ rows) last less =
    ap (λ (inner : List Row). cond (ltb row.seq other.seq) (row ∷ (other ∷ (rows ++ last ∷ []))) (other ∷ inner)) (numbered_in-push row rows last less)
    ∙ split (ltb row.seq other.seq) row other last rows (numbered_in row rows)

numbered_in-last : (last : Row) (rows : List Row) → All (Below last.seq) rows → numbered_in last rows ≡ rows ++ last ∷ []
numbered_in-last last [] below = refl
numbered_in-last last (other ∷ rows) below =
    let more : other.seq < last.seq = All-head (Below last.seq) other rows below in
    let behind : ltb last.seq other.seq ≡ false = le-ltb last.seq other.seq (omega arith) in
    rw (behind, numbered_in-last last rows (All-tail (Below last.seq) other rows below)) refl

placed : (b : Bool) (row other : Row) (rows inner : List Row) → IsPermutation (row ∷ rows) inner → IsPermutation (row ∷ (other ∷ rows)) (cond b (row ∷ (other ∷ rows)) (other ∷ inner))
placed true row other rows inner h = IsPermutation-refl (row ∷ (other ∷ rows))
placed false row other rows inner h =
    IsPermutation-trans (row ∷ (other ∷ rows)) (other ∷ (row ∷ rows)) (other ∷ inner) (IsPermutation-middle (row ∷ []) other rows) (IsPermutation-cons other (row ∷ rows) inner h)

numbered_in-permutes : (row : Row) (rows : List Row) → IsPermutation (row ∷ rows) (numbered_in row rows)
numbered_in-permutes row [] = IsPermutation-refl (row ∷ [])
numbered_in-permutes row (other ∷ rows) = placed (ltb row.seq other.seq) row other rows (numbered_in row rows) (numbered_in-permutes row rows)

pub by_number-permutes : (rows : List Row) → IsPermutation rows (by_number rows)
by_number-permutes [] = IsPermutation-refl []
by_number-permutes (row ∷ rows) =
    IsPermutation-trans (row ∷ rows) (row ∷ by_number rows) (by_number (row ∷ rows)) (IsPermutation-cons row rows (by_number rows) (by_number-permutes rows))
    (numbered_in-permutes row (by_number rows))

by_number-put_in : (front back : List Row) (last : Row) → All (Below last.seq) (front ++ back) → by_number (front ++ last ∷ back) ≡ by_number (front ++ back) ++ last ∷ []
by_number-put_in [] back last below = numbered_in-last last (by_number back) (All-permutation (Below last.seq) back (by_number back) (by_number-permutes back) below)
by_number-put_in (row ∷ front) back last below =
    ap (numbered_in row) (by_number-put_in front back last (All-tail (Below last.seq) row (front ++ back) below))
    ∙ numbered_in-push row (by_number (front ++ back)) last (All-head (Below last.seq) row (front ++ back) below)

-- what holds of the rows as they arrived holds of them in any order
pub of_rows : (P : Row → Type 0) (rows : List Row) → All P (by_number rows) → All P rows
of_rows P rows all = All-permutation P (by_number rows) rows (IsPermutation-sym rows (by_number rows) (by_number-permutes rows)) all

of_entries : (bytes : List ℕ) (entries : List IndexEntry) (seq : ℕ) → All (Below seq) (rows_in bytes entries) → All (λ entry. entry.seq < seq) entries
of_entries bytes [] seq all = λ k d lt. absurd (omega arith)
of_entries bytes (entry ∷ entries) seq all =
    All-cons (λ (e : IndexEntry). e.seq < seq) entry entries (All-head (Below seq) (row_in bytes entry) (rows_in bytes entries) all)
    (of_entries bytes entries seq (All-tail (Below seq) (row_in bytes entry) (rows_in bytes entries) all))

pub entries_below : (bytes : List ℕ) (entries : List IndexEntry) (seq : ℕ) → All (λ row. row.seq < seq) (rows_by_arrival bytes entries) → All (λ entry. entry.seq < seq) entries
entries_below bytes entries seq all = of_entries bytes entries seq (of_rows (Below seq) (rows_in bytes entries) all)

-- the row of an entry of a greater number is the last to arrive, wherever the entry is put in
pub arrives_last : (bytes : List ℕ) (old new : List IndexEntry) (entry : IndexEntry) → IsPutIn old new entry → All (λ row. row.seq < entry.seq) (rows_by_arrival bytes old)
    → rows_by_arrival bytes new ≡ rows_by_arrival bytes old ++ row_in bytes entry ∷ []
arrives_last bytes old new entry put below =
    let front = rows_in bytes (take put.place old) in
    let back = rows_in bytes (drop put.place old) in
    let whole : front ++ back ≡ rows_in bytes old = sym (map-append (row_in bytes) (take put.place old) (drop put.place old)) ∙ ap (rows_in bytes) (take-append-drop put.place old) in
    let all : All (Below entry.seq) (front ++ back) = subst (All (Below entry.seq)) (sym whole) (of_rows (Below entry.seq) (rows_in bytes old) below) in
    ap (rows_by_arrival bytes) put.is
    ∙ ap by_number (map-append (row_in bytes) (take put.place old) (entry ∷ drop put.place old))
    ∙ by_number-put_in front back (row_in bytes entry) all
    ∙ ap (λ (rows : List Row). by_number rows ++ row_in bytes entry ∷ []) whole

pub greatest_seq-push : (rows : List Row) (last : Row) → All (Below last.seq) rows → greatest_seq (rows ++ last ∷ []) ≡ last.seq
greatest_seq-push [] last below = omega arith
greatest_seq-push (row ∷ rows) last below =
    let less : row.seq < last.seq = All-head (Below last.seq) row rows below in
    let rest = greatest_seq-push rows last (All-tail (Below last.seq) row rows below) in
    omega (arith, rest)

least_some : (row : Row) (rows : List Row) (last : Row) → All (Below last.seq) (row ∷ rows) → least_seq ((row ∷ rows) ++ last ∷ []) ≡ least_seq (row ∷ rows)
least_some row [] last below = let less : row.seq < last.seq = All-head (Below last.seq) row [] below in omega arith
least_some row (other ∷ rows) last below =
    ap (λ (n : ℕ). min row.seq n) (least_some other rows last (All-tail (Below last.seq) row (other ∷ rows) below))

pub least_seq-push : (rows : List Row) (last : Row) → All (Below last.seq) rows → least_seq (rows ++ last ∷ []) ≡ first_of rows last.seq
least_seq-push [] last below = refl
least_seq-push (row ∷ rows) last below = least_some row rows last below
