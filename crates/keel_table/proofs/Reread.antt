-- A table that is spelled is read again.
use Rattle.std.proofs.Common.{◌≡◌, ℕ, zero, suc, ◌+◌, ◌^◌, ◌<◌, ◌≤◌, true, false, eqb, List, [], ◌∷◌, ◌++◌, length, take, drop, Ok, refl, sym, ap, subst, ◌∙◌, append_assoc, arith, eq-eqb}
use Rattle.std.specs.Prelude.{nat_lt}
use Rattle.std.specs.List.{AllByRecursion}
use Rattle.std.specs.Int.{w32, w64, from_le_bytes}
use Rattle.std.proofs.lemmas.List.{take_at, drop_at, length-append}
use Rattle.std.proofs.lemmas.Bool.{le-ltb, lt-ltb, ne_eqb}
use Rattle.std.specs.declared.cmp.Ordering.{Ordering}
use Rattle.keel_base.specs.declared.row.Row.{Row}
use Rattle.keel_base.specs.declared.row.Kind.{Kind}
use Rattle.keel_base.specs.declared.row.Kind.TheVariants as kinds
use Rattle.keel_base.specs.Keys.{key_cmp, key_lt}
use Rattle.keel_frag.specs.Checksum.{crc32c, mask}
use Rattle.keel_fields.specs.Reading.{Read, number_at, bounded_at, bytes_at, linked, both}
use Rattle.keel_fields.proofs.Fields.{IsBytes, IsBytes-rest, Takes, IsField, Between, wide32, wide64, number_field, bounded_field, bytes_takes, bytes_again, sized_field, both_field, linked_field, made_field, refit_field}
use Rattle.keel_table.specs.declared.index.BlockEntry.{BlockEntry}
use Rattle.keel_table.specs.declared.index.Footer.{Footer}
use Rattle.keel_base.specs.Rows.{most_value, IsRow}
use Rattle.keel_table.specs.Spelling.{number, count, kind_byte, row_bytes, rows_bytes, Ascend, last_key, IsBlock, checked, entry_bytes, IsEntry, magic, footer_body, FooterFits}
use Rattle.keel_table.specs.Fields.{kind_at, Header, header_at, make_row, row_at, may_stand, next_row_at, rows_at, all_rows_at, make_entry, entry_at, FooterParts, make_footer, footer_at}
use Rattle.keel_table.specs.Opening.{compared, tested, part_at, checked_at}
use Rattle.keel_table.proofs.Lengths.{length-count, length-row, length-checked}
use Rattle.keel_base.proofs.KeyOrder.{less, cmp_itself, lt_then_lt}

-- ---- checks

mask_below : (crc : ℕ) → mask crc < 2 ^ 32
unfolding mask
mask_below crc = omega arith

count_again : (n : ℕ) → n < 2 ^ 32 → from_le_bytes w32 (take 4 (count n)) ≡ n
unfolding count
count_again n lt = wide32.again n lt

pub tested_again : (offset : ℕ) (body : List ℕ) → tested offset (length body) (checked body) ≡ Ok body
unfolding tested compared checked
tested_again offset body =
    let check : List ℕ = count (mask (crc32c body)) in
    let long : nat_lt (length (body ++ check)) (length body + 4) ≡ false = le-ltb _ _ (omega (arith, length-append body check, length-count (mask (crc32c body)))) in
    let stored : from_le_bytes w32 (take 4 (drop (length body) (body ++ check))) ≡ mask (crc32c body) =
    ap (λ (d : List ℕ). from_le_bytes w32 (take 4 d)) (drop_at body check (length body) refl) ∙ count_again (mask (crc32c body)) (mask_below (crc32c body)) in
    let same : eqb (mask (crc32c body)) (mask (crc32c body)) ≡ true = eq-eqb (mask (crc32c body)) (mask (crc32c body)) refl in
    rw (long, take_at body check (length body) refl, stored, same) refl

-- what stands in a file with its check is found there
pub checked_again : (front body behind : List ℕ) (offset size : ℕ) → offset ≡ length front → size ≡ length body → checked_at offset size (front ++ (checked body ++ behind)) ≡ Ok body
checked_again front body behind offset size there sized =
    let rest : drop offset (front ++ (checked body ++ behind)) ≡ checked body ++ behind = drop_at front (checked body ++ behind) offset (sym there) in
    let whole : length (checked body) ≡ size + 4 = omega (arith, length-checked body, sized) in
    let part : part_at offset (size + 4) (front ++ (checked body ++ behind)) ≡ checked body = ap (take (size + 4)) rest ∙ take_at (checked body) behind (size + 4) whole in
    ap (tested offset size) part ∙ ap (λ (n : ℕ). tested offset n (checked body)) sized ∙ tested_again offset body

-- ---- rows

abbrev kind_text : Kind → List ℕ
kind_text kind = kind_byte kind ∷ []

abbrev kind_read : Kind × List ℕ → Read Kind
kind_read x = Ok x

kind_is : (x y : Kind × List ℕ) → kind_read x ≡ kind_read y → x ≡ y
kind_is x y e = cc

kind_takes : (bytes : List ℕ) (x : Kind × List ℕ) → IsBytes bytes → kind_at bytes ≡ Ok x → Takes bytes (kind_text x.0) x.1 × Unit {0}
unfolding kind_at
kind_takes [] x fits e = absurd cc
kind_takes (zero ∷ rest) x fits e =
    let is : (kinds.Del, rest) ≡ x = kind_is (kinds.Del, rest) x e in
    subst (λ (y : Kind × List ℕ). Takes (0 ∷ rest) (kind_text y.0) y.1 × Unit {0}) is (record { parts = refl; rest_fits = IsBytes-rest 0 rest fits }, tt)
kind_takes (suc zero ∷ rest) x fits e =
    let is : (kinds.Put, rest) ≡ x = kind_is (kinds.Put, rest) x e in
    subst (λ (y : Kind × List ℕ). Takes (1 ∷ rest) (kind_text y.0) y.1 × Unit {0}) is (record { parts = refl; rest_fits = IsBytes-rest 1 rest fits }, tt)
kind_takes (suc (suc b) ∷ rest) x fits e = absurd cc

kind_again : (kind : Kind) (rest : List ℕ) → Unit {0} → kind_at (kind_text kind ++ rest) ≡ Ok (kind, rest)
unfolding kind_at
kind_again kinds.Del rest h = refl
kind_again kinds.Put rest h = refl

kind_field : IsField kind_at kind_text (λ _. Unit {0})
kind_field = record { takes = kind_takes; again = kind_again }

number64 : IsField (number_at w64) number (λ n. n < 2 ^ 64)
unfolding number
number64 = number_field w64 (2 ^ 64) wide64

number32 : IsField (number_at w32) count (λ n. n < 2 ^ 32)
unfolding count
number32 = number_field w32 (2 ^ 32) wide32

bounded32 : (least most : ℕ) → most < 2 ^ 32 → IsField (bounded_at w32 least most) count (Between least most)
unfolding count
bounded32 least most below = bounded_field w32 (2 ^ 32) wide32 least most below

bytes_field : (n : ℕ) → IsField (bytes_at n) (λ text. text) (λ text. length text ≡ n)
bytes_field n = record {
  takes = λ bytes x fits e. bytes_takes n bytes x fits e;
  again = λ text rest h. ap (λ (k : ℕ). bytes_at k (text ++ rest)) (sym h) ∙ bytes_again text rest;
}

most_below : (kind : Kind) → most_value kind < 2 ^ 32
most_below kinds.Put = omega arith
most_below kinds.Del = omega arith

abbrev Front : Type 0
Front = (ℕ × Kind) × ℕ

abbrev front_text : Front → List ℕ
front_text p = (number p.0.0 ++ kind_text p.0.1) ++ count p.1

abbrev FitFront : Front → Type 0
FitFront p = ((p.0.0 < 2 ^ 64) × Unit {0}) × Between 1 1024 p.1

abbrev header_text : Header → List ℕ
header_text h = front_text h.0 ++ count h.1

abbrev FitHeader : Header → Type 0
FitHeader h = FitFront h.0 × Between 0 (most_value h.0.0.1) h.1

header_field : IsField header_at header_text FitHeader
unfolding header_at
header_field =
    linked_field (both (both (number_at w64) kind_at) (bounded_at w32 1 1024)) front_text FitFront (λ h. bounded_at w32 0 (most_value h.0.1)) count (λ h n. Between 0 (most_value h.0.1) n)
    (both_field _ _ _ _ _ _ (both_field _ _ _ _ _ _ number64 kind_field) (bounded32 1 1024 (omega arith))) (λ h _. bounded32 0 (most_value h.0.1) (most_below h.0.1))

abbrev Parts : Type 0
Parts = (Header × List ℕ) × List ℕ

abbrev parts_text : Parts → List ℕ
parts_text p = (header_text p.0.0 ++ p.0.1) ++ p.1

abbrev FitParts : Parts → Type 0
FitParts p = (FitHeader p.0.0 × (length p.0.1 ≡ p.0.0.0.1)) × (length p.1 ≡ p.0.0.1)

abbrev split_row : Row → Parts
split_row r = (((((r.seq, r.kind), length r.key), length r.value), r.key), r.value)

parts_undone : (p : Parts) → FitParts p → split_row (make_row p) ≡ p
parts_undone p fits = λ i. ((((p.0.0.0.0, fits.0.1 i), fits.1 i), p.0.1), p.1)

row_parts : IsField row_at (λ r. parts_text (split_row r)) (λ r. FitParts (split_row r))
unfolding row_at
row_parts =
    made_field make_row split_row _ parts_text FitParts parts_undone (λ r. refl)
    (linked_field (linked header_at (λ h. bytes_at h.0.1)) (λ p. header_text p.0 ++ p.1) (λ p. FitHeader p.0 × (length p.1 ≡ p.0.0.1)) (λ p. bytes_at p.0.1) (λ text. text) (λ p text. length text ≡ p.0.1)
    (linked_field header_at header_text FitHeader (λ h. bytes_at h.0.1) (λ text. text) (λ h text. length text ≡ h.0.1) header_field (λ h _. bytes_field h.0.1)) (λ p _. bytes_field p.0.1))

six : (s kind k v key value : List ℕ) → ((((s ++ kind) ++ k) ++ v) ++ key) ++ value ≡ s ++ (kind ++ (k ++ (v ++ (key ++ value))))
six s kind k v key value = simp append_assoc

row_same : (r : Row) → parts_text (split_row r) ≡ row_bytes r
row_same r = six (number r.seq) (kind_text r.kind) (count (length r.key)) (count (length r.value)) r.key r.value

row_from : (r : Row) → IsRow r → FitParts (split_row r)
row_from r h = (((((h.seq, tt), (h.least, h.most)), (omega arith, h.value)), refl), refl)

row_to : (r : Row) → FitParts (split_row r) → IsRow r
row_to r f = record { seq = f.0.0.0.0.0; least = f.0.0.0.1.0; most = f.0.0.0.1.1; value = f.0.0.1.1 }

-- a row is read as it is spelled, and nothing else is read as it
pub row_field : IsField row_at row_bytes IsRow
row_field = refit_field row_at (λ r. parts_text (split_row r)) (λ r. FitParts (split_row r)) row_bytes IsRow row_same row_to row_from row_parts

-- ---- the rows of a block

pub over_last : (before : List ℕ) (row : Row) (rows : List Row) → Ascend before (row ∷ rows) → key_lt before (last_key before (row ∷ rows)) ≡ true
over_last before row [] h = h.0
over_last before row (next ∷ rows) h = lt_then_lt before row.key (last_key row.key (next ∷ rows)) h.0 (over_last row.key next rows h.1)

may_end : (key last : List ℕ) (left : ℕ) → last ≡ key → may_stand (key_cmp key last) left ≡ true
may_end key last left e = ap (λ (k : List ℕ). may_stand (key_cmp key k) left) e ∙ ap (λ (o : Ordering). may_stand o left) (cmp_itself key)

may_go_on : (key last : List ℕ) (left : ℕ) → key_lt key last ≡ true → 0 < left → may_stand (key_cmp key last) left ≡ true
may_go_on key last left lt some = ap (λ (o : Ordering). may_stand o left) (less (key_cmp key last) lt) ∙ lt-ltb 0 left some

next_again : (before last : List ℕ) (row : Row) (rest : List ℕ) → IsRow row → key_lt before row.key ≡ true → may_stand (key_cmp row.key last) (length rest) ≡ true → next_row_at before last (row_bytes row ++ rest) ≡ Ok (row, rest)
unfolding next_row_at
next_again before last row rest is over stands =
    rw (row_field.again row rest is, over, stands) refl

pub rows_again : (most : ℕ) (before last : List ℕ) (row : Row) (rows : List Row) → length rows < most → AllByRecursion IsRow (row ∷ rows) → Ascend before (row ∷ rows) → last ≡ last_key before (row ∷ rows)
    → rows_at most before last (rows_bytes (row ∷ rows)) ≡ Ok (row ∷ rows)
unfolding rows_at
rows_again zero before last row rows few each rise is = absurd (omega (arith, few))
rows_again (suc most) before last row [] few each rise is =
    let here : next_row_at before last (row_bytes row ++ []) ≡ Ok (row, []) = next_again before last row [] each.0 rise.0 (may_end row.key last 0 is) in
    rw here refl
rows_again (suc most) before last row (next ∷ rows) few each rise is =
    let behind : List ℕ = rows_bytes (next ∷ rows) in
    let some : 0 < length behind = omega (arith, length-append (row_bytes next) (rows_bytes rows), length-row next) in
    let below : key_lt row.key last ≡ true = subst (λ (k : List ℕ). key_lt row.key k ≡ true) (sym is) (over_last row.key next rows rise.1) in
    let here : next_row_at before last (row_bytes row ++ behind) ≡ Ok (row, behind) = next_again before last row behind each.0 rise.0 (may_go_on row.key last (length behind) below some) in
    let left : eqb (length behind) 0 ≡ false = ne_eqb (length behind) 0 (λ e. omega (arith, some, e)) in
    rw (here, left) (rw (rows_again most row.key last next rows (omega (arith, few)) each.1 rise.1 is) refl)

pub rows_long : (rows : List Row) → length rows ≤ length (rows_bytes rows)
rows_long [] = omega arith
rows_long (row ∷ rows) = omega (arith, rows_long rows, length-append (row_bytes row) (rows_bytes rows), length-row row)

no_end : (front : List Row) (end : Row) → [] ≡ front ++ end ∷ [] → ⊥
no_end [] end e = cc
no_end (row ∷ front) end e = cc

-- the rows of a block are read from its bytes
pub all_again : (before : List ℕ) (block : List Row) → IsBlock block → AllByRecursion IsRow block → Ascend before block → all_rows_at before (last_key before block) (rows_bytes block) ≡ Ok block
all_again before [] is each rise = absurd (no_end is.front is.end is.parts)
all_again before (row ∷ rows) is each rise =
    rows_again (length (rows_bytes (row ∷ rows))) before (last_key before (row ∷ rows)) row rows
    (omega (arith, rows_long rows, length-append (row_bytes row) (rows_bytes rows), length-row row)) each rise refl

-- ---- entries

abbrev split_entry : BlockEntry → (ℕ × ℕ) × List ℕ
split_entry e = ((e.offset, e.size), e.last)

entry_parts : IsField entry_at (λ e. (number e.offset ++ count e.size) ++ (count (length e.last) ++ e.last)) (λ e. ((e.offset < 2 ^ 64) × (e.size < 2 ^ 32)) × (length e.last < 2 ^ 32))
unfolding entry_at
entry_parts =
    made_field make_entry split_entry _ _ _ (λ p _. refl) (λ e. refl) (both_field _ _ _ _ _ _ (both_field _ _ _ _ _ _ number64 number32) (sized_field (number_at w32) count (λ n. n < 2 ^ 32) number32))

-- an entry is read as it is spelled
pub entry_field : IsField entry_at entry_bytes IsEntry
entry_field =
    refit_field entry_at (λ e. (number e.offset ++ count e.size) ++ (count (length e.last) ++ e.last)) (λ e. ((e.offset < 2 ^ 64) × (e.size < 2 ^ 32)) × (length e.last < 2 ^ 32)) entry_bytes IsEntry
    (λ e. append_assoc (number e.offset) (count e.size) (count (length e.last) ++ e.last))
    (λ e f. record { offset = f.0.0; size = f.0.1; last = f.1 }) (λ e h. ((h.offset, h.size), h.last)) entry_parts

-- ---- the footer

abbrev split_footer : Footer → FooterParts
split_footer f = (((((f.index, f.size), f.blocks), f.rows), f.first), f.last)

abbrev pub footer_text : Footer → List ℕ
footer_text f = ((((number f.index ++ count f.size) ++ count f.blocks) ++ number f.rows) ++ number f.first) ++ number f.last

pub footer_parts : IsField footer_at footer_text (λ f. (((((f.index < 2 ^ 64) × (f.size < 2 ^ 32)) × (f.blocks < 2 ^ 32)) × (f.rows < 2 ^ 64)) × (f.first < 2 ^ 64)) × (f.last < 2 ^ 64))
unfolding footer_at
footer_parts =
    made_field make_footer split_footer _ _ _ (λ p _. refl) (λ f. refl)
    (both_field _ _ _ _ _ _ (both_field _ _ _ _ _ _ (both_field _ _ _ _ _ _ (both_field _ _ _ _ _ _ (both_field _ _ _ _ _ _ number64 number32) number32) number64) number64) number64)

pub seven : (i s b r f l m : List ℕ) → i ++ (s ++ (b ++ (r ++ (f ++ (l ++ m))))) ≡ (((((i ++ s) ++ b) ++ r) ++ f) ++ l) ++ m
seven i s b r f l m = sym (simp append_assoc)

pub footer_again : (f : Footer) → FooterFits f → footer_at (footer_body f) ≡ Ok (f, magic)
footer_again f h =
    ap footer_at (seven (number f.index) (count f.size) (count f.blocks) (number f.rows) (number f.first) (number f.last) magic)
    ∙ footer_parts.again f magic (((((h.index, h.size), h.blocks), h.rows), h.first), h.last)

pub length-footer : (f : Footer) → length (footer_body f) ≡ 44
unfolding number count
length-footer f = refl
