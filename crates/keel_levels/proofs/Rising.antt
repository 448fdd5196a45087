-- The rows of blocks that are whole rise by key.
use Rattle.std.proofs.Common.{◌≡◌, ℕ, zero, suc, ◌+◌, ◌≤◌, Bool, true, false, cond, eqb, ltb, List, [], ◌∷◌, ◌++◌, length, take, drop, Result, Ok, Err, refl, sym, ap, subst, ◌∙◌, arith, if◌then◌else◌}
use Rattle.std.specs.Int.{w32, w64}
use Rattle.std.specs.Prelude.{IsOk, nat_le, ◌&&◌}
use Rattle.std.proofs.lemmas.Bool.{eqb-true, leb-true, ltb-false}
use Rattle.std.proofs.lemmas.List.{length-take}
use Rattle.keel_base.specs.declared.limits.TheConstants.{LONGEST_KEY}
use Rattle.keel_base.specs.declared.row.Kind.{Kind}
use Rattle.keel_base.specs.Rows.{most_value}
use Rattle.std.specs.declared.cmp.Ordering.{Ordering}
use Rattle.std.specs.declared.cmp.Ordering.TheVariants.{Less, Equal, Greater}
use Rattle.std.specs.Ordering.{is_eq}
use Rattle.keel_base.specs.declared.row.Row.{Row}
use Rattle.keel_base.specs.Keys.{key_cmp, key_lt}
use Rattle.keel_base.proofs.KeyOrder.{eq_same, lt_then_lt}
use Rattle.keel_fields.specs.Reading.{Read, ◌>>=◌, number_at, bounded_at, bytes_at, linked, both}
use Rattle.keel_fields.proofs.Fields.{bind_ok, check_ok, guard_ok, ok_is}
use Rattle.keel_table.specs.declared.index.BlockEntry.{BlockEntry}
use Rattle.keel_table.specs.Fields.{Header, kind_at, header_at, make_row, has_offset, may_stand, placed_row, row_at, next_row_at, rows_at}
use Rattle.keel_table.specs.Opening.{Damage, ending_at, checked_at, rows_in, block_found}
use Rattle.keel_table.specs.Spelling.{Ascend, last_key}
use Rattle.keel_table.proofs.Loops.{both_hold}
use Rattle.keel_table.proofs.Spelled.{then_ok}
use Rattle.keel_directory.specs.Sound.{AreWhole}
use Rattle.keel_directory.specs.TableFiles.{rows_found, block_rows}

-- rows rise from behind a key up to another
pub record RiseTo (before last : List ℕ) (rows : List Row) : Type 0 where
  pub over : key_lt before last ≡ true
  pub least : 1 ≤ length last
  pub most : length last ≤ LONGEST_KEY
  pub rise : Ascend before rows
  pub ends : last_key before rows ≡ last

placed_ok : (left : ℕ) (before last : List ℕ) (read : Read Row) (x : Row × List ℕ) → placed_row left before last read ≡ Ok x → has_offset before last x.0.key (length x.1) ≡ true
placed_ok left before last (Err at) x e = absurd cc
placed_ok left before last (Ok y) x e =
    let g = check_ok (has_offset before last y.0.key (length y.1)) left y x e in
    subst (λ (z : Row × List ℕ). has_offset before last z.0.key (length z.1) ≡ true) g.1 g.0

placed_read : (left : ℕ) (before last : List ℕ) (read : Read Row) (x : Row × List ℕ) → placed_row left before last read ≡ Ok x → read ≡ Ok x
placed_read left before last (Err at) x e = absurd cc
placed_read left before last (Ok y) x e =
    let g = check_ok (has_offset before last y.0.key (length y.1)) left y x e in ap (λ (z : Row × List ℕ). Ok z) g.1

-- ---- the length of a key

record IsLong (n : ℕ) : Type 0 where
  least : 1 ≤ n
  most : n ≤ LONGEST_KEY

bounded_in : (bytes : List ℕ) (x : ℕ × List ℕ) → bounded_at w32 1 LONGEST_KEY bytes ≡ Ok x → IsLong x.0
unfolding bounded_at
bounded_in bytes x e =
    let n = bind_ok (number_at w32 bytes) (λ n. if nat_le 1 n.0 && nat_le n.0 LONGEST_KEY then Ok n else Err (length bytes)) x e in
    let g = check_ok (nat_le 1 n.0.0 && nat_le n.0.0 LONGEST_KEY) (length bytes) n.0 x n.2 in
    let bounds = both_hold (nat_le 1 n.0.0) (nat_le n.0.0 LONGEST_KEY) g.0 in
    subst (λ (y : ℕ × List ℕ). IsLong y.0) g.1 (record { least = leb-true 1 n.0.0 bounds.0; most = leb-true n.0.0 LONGEST_KEY bounds.1 })

header_in : (bytes : List ℕ) (x : Header × List ℕ) → header_at bytes ≡ Ok x → IsLong x.0.0.1
unfolding header_at
header_in bytes x e =
    let h = bind_ok (both (both (number_at w64) kind_at) (bounded_at w32 1 LONGEST_KEY) bytes) (λ h. bounded_at w32 0 (most_value h.0.0.1) h.1 >>= λ v. Ok ((h.0, v.0), v.1)) x e in
    let v = bind_ok (bounded_at w32 0 (most_value h.0.0.0.1) h.0.1) (λ v. Ok ((h.0.0, v.0), v.1)) x h.2 in
    let k = bind_ok (both (number_at w64) kind_at bytes) (λ k. bounded_at w32 1 LONGEST_KEY k.1 >>= λ n. Ok ((k.0, n.0), n.1)) h.0 h.1 in
    let n = bind_ok (bounded_at w32 1 LONGEST_KEY k.0.1) (λ n. Ok ((k.0.0, n.0), n.1)) h.0 k.2 in
    let long : IsLong h.0.0.1 = subst (λ (y : ((ℕ × Kind) × ℕ) × List ℕ). IsLong y.0.1) (ok_is ((k.0.0, n.0.0), n.0.1) h.0 n.2) (bounded_in k.0.1 n.0 n.1) in
    subst (λ (y : Header × List ℕ). IsLong y.0.0.1) (ok_is ((h.0.0, v.0.0), v.0.1) x v.2) long

taken_long : (n : ℕ) (bytes : List ℕ) (x : List ℕ × List ℕ) → bytes_at n bytes ≡ Ok x → length x.0 ≡ n
taken_long n bytes x e =
    let g = guard_ok (ltb (length bytes) n) (length bytes) (take n bytes, drop n bytes) x e in
    ap (λ (y : List ℕ × List ℕ). length y.0) (sym g.1) ∙ omega (arith, length-take n bytes, ltb-false (length bytes) n g.0)

row_in : (bytes : List ℕ) (x : Row × List ℕ) → row_at bytes ≡ Ok x → IsLong (length x.0.key)
unfolding row_at
row_in bytes x e =
    let a = bind_ok (linked (linked header_at (λ h. bytes_at h.0.1)) (λ p. bytes_at p.0.1) bytes) (λ a. Ok (make_row a.0, a.1)) x e in
    let b = bind_ok (linked header_at (λ h. bytes_at h.0.1) bytes) (λ b. bytes_at b.0.0.1 b.1 >>= λ v. Ok ((b.0, v.0), v.1)) a.0 a.1 in
    let v = bind_ok (bytes_at b.0.0.0.1 b.0.1) (λ v. Ok ((b.0.0, v.0), v.1)) a.0 b.2 in
    let h = bind_ok (header_at bytes) (λ h. bytes_at h.0.0.1 h.1 >>= λ k. Ok ((h.0, k.0), k.1)) b.0 b.1 in
    let k = bind_ok (bytes_at h.0.0.0.1 h.0.1) (λ k. Ok ((h.0.0, k.0), k.1)) b.0 h.2 in
    let long : IsLong (length k.0.0) = subst IsLong (sym (taken_long h.0.0.0.1 h.0.1 k.0 k.1)) (header_in bytes h.0 h.1) in
    let long_b : IsLong (length b.0.0.1) = subst (λ (y : (Header × List ℕ) × List ℕ). IsLong (length y.0.1)) (ok_is ((h.0.0, k.0.0), k.0.1) b.0 k.2) long in
    let long_a : IsLong (length a.0.0.0.1) = subst (λ (y : ((Header × List ℕ) × List ℕ) × List ℕ). IsLong (length y.0.0.1)) (ok_is ((b.0.0, v.0.0), v.0.1) a.0 v.2) long_b in
    subst (λ (y : Row × List ℕ). IsLong (length y.0.key)) (ok_is (make_row a.0.0, a.0.1) x a.2) long_a

record Next (before last : List ℕ) (x : Row × List ℕ) : Type 0 where
  over : key_lt before x.0.key ≡ true
  may : may_stand (key_cmp x.0.key last) (length x.1) ≡ true
  long : IsLong (length x.0.key)

next_rises : (before last bytes : List ℕ) (x : Row × List ℕ) → next_row_at before last bytes ≡ Ok x → Next before last x
unfolding next_row_at
next_rises before last bytes x e =
    let tests = both_hold (key_lt before x.0.key) (may_stand (key_cmp x.0.key last) (length x.1)) (placed_ok (length bytes) before last (row_at bytes) x e) in
    record { over = tests.0; may = tests.1; long = row_in bytes x (placed_read (length bytes) before last (row_at bytes) x e) }

stands_last : (o : Ordering) (left : ℕ) → left ≡ 0 → may_stand o left ≡ true → is_eq o ≡ true
stands_last Less left none h = absurd (let none_left : may_stand Less 0 ≡ true = subst (λ (n : ℕ). may_stand Less n ≡ true) none h in cc)
stands_last Equal left none h = refl
stands_last Greater left none h = absurd cc

last_rises : (before last bytes : List ℕ) (x : Row × List ℕ) (rows : List Row) → next_row_at before last bytes ≡ Ok x → length x.1 ≡ 0 → x.0 ∷ [] ≡ rows → RiseTo before last rows
last_rises before last bytes x rows e none is =
    let t = next_rises before last bytes x e in
    let key : x.0.key ≡ last = eq_same x.0.key last (stands_last (key_cmp x.0.key last) (length x.1) none t.may) in
    let long : IsLong (length last) = subst (λ (k : List ℕ). IsLong (length k)) key t.long in
    let over : key_lt before last ≡ true = subst (λ (k : List ℕ). key_lt before k ≡ true) key t.over in
    subst (RiseTo before last) is (record { over = over; least = long.least; most = long.most; rise = (t.over, tt); ends = key })

more_rise : (before last bytes : List ℕ) (x : Row × List ℕ) (others rows : List Row) → next_row_at before last bytes ≡ Ok x → RiseTo x.0.key last others → x.0 ∷ others ≡ rows → RiseTo before last rows
more_rise before last bytes x others rows e behind is =
    let t = next_rises before last bytes x e in
    subst (RiseTo before last) is (record { over = lt_then_lt before x.0.key last t.over behind.over; least = behind.least; most = behind.most; rise = (t.over, behind.rise); ends = behind.ends })

-- what is read behind a row, and whether anything is
abbrev read_behind : Bool → Row → Result (List Row) ℕ → Result (List Row) ℕ
read_behind none row others = cond none (Ok (row ∷ [])) (others >>= λ rows. Ok (row ∷ rows))

behind_rise : (none : Bool) (before last bytes : List ℕ) (x : Row × List ℕ) (others : Result (List Row) ℕ) (rows : List Row) → next_row_at before last bytes ≡ Ok x → eqb (length x.1) 0 ≡ none
    → ((found : List Row) → others ≡ Ok found → RiseTo x.0.key last found) → read_behind none x.0 others ≡ Ok rows → RiseTo before last rows
behind_rise true before last bytes x others rows e none behind read =
    last_rises before last bytes x rows e (eqb-true (length x.1) 0 none) (ok_is (x.0 ∷ []) rows read)
behind_rise false before last bytes x others rows e none behind read =
    let rest = bind_ok others (λ rows. Ok (x.0 ∷ rows)) rows read in
    more_rise before last bytes x rest.0 rows e (behind rest.0 rest.1) (ok_is (x.0 ∷ rest.0) rows rest.2)

rows_rise : (most : ℕ) (before last bytes : List ℕ) (rows : List Row) → rows_at most before last bytes ≡ Ok rows → RiseTo before last rows
unfolding rows_at
rows_rise zero before last bytes rows e = absurd cc
rows_rise (suc most) before last bytes rows e =
    let x = bind_ok (next_row_at before last bytes) (λ x. read_behind (eqb (length x.1) 0) x.0 (rows_at most x.0.key last x.1)) rows e in
    behind_rise (eqb (length x.0.1) 0) before last bytes x.0 (rows_at most x.0.0.key last x.0.1) rows x.1 refl
    (λ found h. rows_rise most x.0.0.key last x.0.1 found h) x.2

ending_ok : (end : ℕ) (read : Result (List Row) ℕ) (rows : List Row) → ending_at end read ≡ Ok rows → read ≡ Ok rows
ending_ok end (Ok found) rows e = cc
ending_ok end (Err left) rows e = absurd cc

-- the rows of a block that is whole
pub block_rises : (before : List ℕ) (e : BlockEntry) (bytes : List ℕ) (rows : List Row) → block_found before e bytes ≡ Ok rows → RiseTo before e.last rows
unfolding block_found
block_rises before e bytes rows h =
    let body = then_ok (checked_at e.offset e.size bytes) (rows_in before e) rows h in
    rows_rise (length body.0) before e.last body.0 rows (ending_ok (e.offset + e.size) (rows_at (length body.0) before e.last body.0) rows body.2)

-- ---- of several blocks

pub ascend-append : (before : List ℕ) (xs ys : List Row) → Ascend before xs → Ascend (last_key before xs) ys → Ascend before (xs ++ ys)
ascend-append before [] ys first second = second
ascend-append before (x ∷ xs) ys first second = (first.0, ascend-append x.key xs ys first.1 second)

pub last_key-append : (before : List ℕ) (xs ys : List Row) → last_key before (xs ++ ys) ≡ last_key (last_key before xs) ys
last_key-append before [] ys = refl
last_key-append before (x ∷ xs) ys = last_key-append x.key xs ys

-- the rows of a block that is whole, which stand first
pub record BlockIs (before : List ℕ) (e : BlockEntry) (bytes : List ℕ) : Type 0 where
  pub rows : List Row
  pub found : block_found before e bytes ≡ Ok rows
  pub rises : RiseTo before e.last rows

by_found : (before : List ℕ) (e : BlockEntry) (bytes : List ℕ) (found : Result (List Row) Damage) → block_found before e bytes ≡ found → IsOk found → BlockIs before e bytes
by_found before e bytes (Ok rows) is ok = record { rows = rows; found = is; rises = block_rises before e bytes rows is }
by_found before e bytes (Err damage) is ok = absurd cc

pub block_is : (before : List ℕ) (e : BlockEntry) (bytes : List ℕ) → IsOk (block_found before e bytes) → BlockIs before e bytes
block_is before e bytes ok = by_found before e bytes (block_found before e bytes) refl ok

pub first_rows : (before : List ℕ) (e : BlockEntry) (es : List BlockEntry) (bytes : List ℕ) (rows : List Row) → block_found before e bytes ≡ Ok rows
    → block_rows bytes before (e ∷ es) ≡ rows ++ block_rows bytes e.last es
first_rows before e es bytes rows is = ap (λ (found : Result (List Row) Damage). rows_found found ++ block_rows bytes e.last es) is

pub whole_ascend : (bytes before : List ℕ) (es : List BlockEntry) → AreWhole bytes before es → Ascend before (block_rows bytes before es)
whole_ascend bytes before [] whole = tt
whole_ascend bytes before (e ∷ es) whole =
    let b = block_is before e bytes whole.0 in
    let behind : Ascend (last_key before b.rows) (block_rows bytes e.last es) =
    subst (λ (k : List ℕ). Ascend k (block_rows bytes e.last es)) (sym b.rises.ends) (whole_ascend bytes e.last es whole.1) in
    subst (Ascend before) (sym (first_rows before e es bytes b.rows b.found)) (ascend-append before b.rows (block_rows bytes e.last es) b.rises.rise behind)
