-- The row of a key in a table whose blocks are whole.
use Rattle.std.proofs.Common.{◌≡◌, ℕ, Bool, true, false, cond, List, [], ◌∷◌, Option, Some, None, Result, Ok, refl, sym, ap, subst, ◌∙◌}
use Rattle.keel_base.specs.declared.row.Row.{Row}
use Rattle.keel_base.specs.Keys.{key_lt, key_eq}
use Rattle.keel_base.specs.Rows.{newer, newest}
use Rattle.keel_base.proofs.KeyOrder.{eq_same, lt_then_lt, lt_differs, eq_turned, not_lt, le_differs}
use Rattle.keel_base.proofs.Newest.{newest-append, newest_behind}
use Rattle.keel_merge.specs.Order.{IsBeforeAll}
use Rattle.keel_merge.proofs.Behind.{lt_lt_all}
use Rattle.keel_merge.proofs.Newer.{newest_none}
use Rattle.keel_table.specs.declared.index.BlockEntry.{BlockEntry}
use Rattle.keel_table.specs.Laws.{GetGives}
use Rattle.keel_table.specs.Opening.{Damage, Covering, covering, block_found, row_of, row_found}
use Rattle.keel_table.specs.Spelling.{Ascend, last_key}
use Rattle.keel_directory.specs.Sound.{AreWhole}
use Rattle.keel_directory.specs.TableFiles.{block_rows}
use Rattle.keel_levels.specs.Newest.{newest_of_both}
use Rattle.keel_levels.proofs.Rising.{block_is, first_rows, whole_ascend}

-- ---- rows that rise

pub all_over : (key : List ℕ) (rows : List Row) → Ascend key rows → IsBeforeAll key_lt key rows
all_over key [] rise = tt
all_over key (row ∷ rows) rise = (rise.0, lt_lt_all key row.key rows rise.0 (all_over row.key rows rise.1))

pub none_over : (key : List ℕ) (rows : List Row) → Ascend key rows → newest key rows ≡ None
none_over key rows rise = newest_none key rows (all_over key rows rise)

-- what begins over a key that isn't below this one has none of it
pub none_above : (before key : List ℕ) (rows : List Row) → Ascend before rows → key_lt before key ≡ false → newest key rows ≡ None
none_above before key rows rise over =
    elim (key_eq before key) as (λ b. key_eq before key ≡ b → newest key rows ≡ None) [
      | true ↦ λ same. subst (λ (k : List ℕ). newest k rows ≡ None) (eq_same before key same) (none_over before rows rise)
      | false ↦ λ apart. newest_none key rows (lt_lt_all key before rows (le_differs key before (not_lt key before over) apart) (all_over before rows rise))
    ] refl

record Under (before key : List ℕ) (rows : List Row) : Type 0 where
  start : key_lt before key ≡ true
  none : newest key rows ≡ None

under : (before key : List ℕ) (rows : List Row) → Ascend before rows → key_lt (last_key before rows) key ≡ true → Under before key rows
under before key [] rise below = record { start = below; none = refl }
under before key (row ∷ rows) rise below =
    let rest = under row.key key rows rise.1 below in
    let apart : key_eq row.key key ≡ false = eq_turned key row.key (lt_differs row.key key rest.start) in
    record { start = lt_then_lt before row.key key rise.0 rest.start; none = newest_behind key row rows apart ∙ rest.none }

-- what ends below a key has none of it
pub none_below : (before key : List ℕ) (rows : List Row) → Ascend before rows → key_lt (last_key before rows) key ≡ true → newest key rows ≡ None
none_below before key rows rise below = (under before key rows rise below).none

-- of rows that rise a key has one at most
pub one_row : (before key : List ℕ) (rows : List Row) → Ascend before rows → row_of key rows ≡ newest key rows
one_row before key [] rise = refl
one_row before key (row ∷ rows) rise =
    elim (key_eq row.key key) as (λ b. key_eq row.key key ≡ b → cond b (Some row) (row_of key rows) ≡ cond b (newer row (newest key rows)) (newest key rows)) [
      | true ↦ λ same. ap (newer row) (sym (subst (λ (k : List ℕ). newest k rows ≡ None) (eq_same row.key key same) (none_over row.key rows rise.1)))
      | false ↦ λ apart. one_row row.key key rows rise.1
    ] refl

pub and_none : (found : Option Row) → newest_of_both found None ≡ found
and_none None = refl
and_none (Some row) = refl

-- ---- in blocks

gets_case : (bytes key : List ℕ) (row : Option Row) (b : Bool) (x y : Option Covering) → (b ≡ true → GetGives bytes key row x) → (b ≡ false → GetGives bytes key row y) → GetGives bytes key row (cond b x y)
gets_case bytes key row true x y h k = h refl
gets_case bytes key row false x y h k = k refl

in_block : (before : List ℕ) (e : BlockEntry) (rows : List Row) (bytes key : List ℕ) → block_found before e bytes ≡ Ok rows → row_found (before, e) key bytes ≡ Ok (row_of key rows)
unfolding row_found
in_block before e rows bytes key found = rw found refl

abbrev found_row : Option Row → Result (Option Row) Damage
found_row row = Ok row

-- The block of the entry that covers a key gives the newest row of the key, and where none covers it there is none.
pub covered : (bytes before : List ℕ) (es : List BlockEntry) (key : List ℕ) → AreWhole bytes before es → GetGives bytes key (newest key (block_rows bytes before es)) (covering before es key)
covered bytes before [] key whole = refl
covered bytes before (e ∷ es) key whole =
    let b = block_is before e bytes whole.0 in
    let rest : List Row = block_rows bytes e.last es in
    let behind : Ascend e.last rest = whole_ascend bytes e.last es whole.1 in
    let both : newest key (block_rows bytes before (e ∷ es)) ≡ newest_of_both (newest key b.rows) (newest key rest) =
    ap (newest key) (first_rows before e es bytes b.rows b.found) ∙ newest-append key b.rows rest in
    gets_case bytes key (newest key (block_rows bytes before (e ∷ es))) (key_lt e.last key) (covering e.last es key) (Some (before, e))
    (λ below.
    let none : newest key b.rows ≡ None = none_below before key b.rows b.rises.rise (subst (λ (k : List ℕ). key_lt k key ≡ true) (sym b.rises.ends) below) in
    let is : newest key (block_rows bytes before (e ∷ es)) ≡ newest key rest = both ∙ ap (λ (o : Option Row). newest_of_both o (newest key rest)) none in
    subst (λ (row : Option Row). GetGives bytes key row (covering e.last es key)) (sym is) (covered bytes e.last es key whole.1))
    (λ over.
    let none : newest key rest ≡ None = none_above e.last key rest behind over in
    let is : newest key (block_rows bytes before (e ∷ es)) ≡ newest key b.rows = both ∙ ap (newest_of_both (newest key b.rows)) none ∙ and_none (newest key b.rows) in
    in_block before e b.rows bytes key b.found ∙ ap found_row (one_row before key b.rows b.rises.rise ∙ sym is))
