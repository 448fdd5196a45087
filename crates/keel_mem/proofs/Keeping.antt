-- Bytes that are placed behind others change nothing of those.
use Rattle.std.proofs.Common.{◌≡◌, ℕ, List, [], ◌∷◌, ◌++◌, length, take, drop, get_or, refl, sym, ap, subst, ◌∙◌, arith}
use Rattle.std.proofs.Math.Seq.{drop-append_seam}
use Rattle.std.proofs.lemmas.List.{drop-append-le, take-append-le, length-drop, length-append, take_all, get_or-map}
use Rattle.std.proofs.lemmas.List.Elements.{All-head, All-tail, All-weaker}
use Rattle.keel_base.specs.declared.row.Row.{Row}
use Rattle.keel_region.specs.declared.span.Span.{Span}
use Rattle.keel_region.specs.declared.span.IndexEntry.{IndexEntry}
use Rattle.keel_region.specs.Order.{comes_before, AreInOrder}
use Rattle.keel_region.specs.Spans.{bytes_at, IsWithin, IsHeld, AreHeld}
use Rattle.keel_mem.specs.RowOrder.{RowPrecedes}
use Rattle.keel_mem.specs.RowOrder as rows
use Rattle.keel_mem.specs.Shown.{row_in, rows_in}

pub bytes_at-append : (bytes more : List ℕ) (span : Span) → IsWithin bytes span → bytes_at (bytes ++ more) span ≡ bytes_at bytes span
bytes_at-append bytes more span within =
    ap (take span.length) (drop-append-le span.start bytes more (omega arith))
    ∙ take-append-le span.length (drop span.start bytes) more (omega (arith, length-drop span.start bytes))

pub bytes_at-placed : (bytes more : List ℕ) (span : Span) → span.start ≡ length bytes → span.length ≡ length more → bytes_at (bytes ++ more) span ≡ more
bytes_at-placed bytes more span start size =
    ap (λ (n : ℕ). take span.length (drop n (bytes ++ more))) start
    ∙ ap (take span.length) (drop-append_seam bytes more) ∙ take_all span.length more (omega arith)

pub IsHeld-append : (bytes more : List ℕ) (entry : IndexEntry) → IsHeld bytes entry → IsHeld (bytes ++ more) entry
IsHeld-append bytes more entry held =
    let size = length-append bytes more in record { key = omega (arith, size, held.key); value = omega (arith, size, held.value) }

pub AreHeld-append : (bytes more : List ℕ) (entries : List IndexEntry) → AreHeld bytes entries → AreHeld (bytes ++ more) entries
AreHeld-append bytes more entries held = All-weaker (IsHeld bytes) (IsHeld (bytes ++ more)) (IsHeld-append bytes more) entries held

row_in-append : (bytes more : List ℕ) (entry : IndexEntry) → IsHeld bytes entry → row_in (bytes ++ more) entry ≡ row_in bytes entry
row_in-append bytes more entry held =
    let key = bytes_at-append bytes more entry.key held.key in
    let value = bytes_at-append bytes more entry.value held.value in
    λ i. record { seq = entry.seq; kind = entry.kind; key = key i; value = value i }

pub rows_in-append : (bytes more : List ℕ) (entries : List IndexEntry) → AreHeld bytes entries → rows_in (bytes ++ more) entries ≡ rows_in bytes entries
rows_in-append bytes more [] held = refl
rows_in-append bytes more (entry ∷ entries) held =
    let one = row_in-append bytes more entry (All-head (IsHeld bytes) entry entries held) in
    let rest = rows_in-append bytes more entries (All-tail (IsHeld bytes) entry entries held) in
    λ i. one i ∷ rest i

pub order_kept : (bytes more : List ℕ) (entries : List IndexEntry) → AreHeld bytes entries → AreInOrder bytes entries → AreInOrder (bytes ++ more) entries
order_kept bytes more entries held order = λ i j d less within.
    let first = bytes_at-append bytes more (get_or entries i d).key (held i d (omega arith)).key in
    let second = bytes_at-append bytes more (get_or entries j d).key (held j d within).key in
    (λ t. comes_before (first t) (get_or entries i d).seq (second t) (get_or entries j d).seq) ∙ order i j d less within

-- some entry, for places in a list
any_entry : Row → IndexEntry
any_entry row = record { seq = 0; kind = row.kind; key = record { start = 0; length = 0 }; value = record { start = 0; length = 0 } }

pub length-rows_in : (bytes : List ℕ) (entries : List IndexEntry) → length (rows_in bytes entries) ≡ length entries
length-rows_in bytes [] = refl
length-rows_in bytes (entry ∷ entries) = omega (arith, length-rows_in bytes entries)

-- entries in order have rows in order
pub rows_in_order : (bytes : List ℕ) (entries : List IndexEntry) → AreInOrder bytes entries → rows.AreInOrder (rows_in bytes entries)
rows_in_order bytes entries order = λ i j d less within.
    let size = length-rows_in bytes entries in
    let e = any_entry d in
    let first = get_or-map (row_in bytes) entries i e d (omega arith) in
    let second = get_or-map (row_in bytes) entries j e d (omega arith) in
    subst (λ (r : Row). RowPrecedes r (get_or (rows_in bytes entries) j d)) (sym first)
    (subst (λ (r : Row). RowPrecedes (row_in bytes (get_or entries i e)) r) (sym second) (order i j e less (omega arith)))
