-- The file of a table opens as the table of its rows.
use Rattle.std.proofs.Common.{◌≡◌, ℕ, ◌+◌, ◌-◌, ◌^◌, ◌<◌, ◌≤◌, Bool, true, false, cond, eqb, List, [], ◌∷◌, ◌++◌, length, Option, Some, None, Result, Ok, refl, sym, ap, subst, ◌∙◌, append_assoc, arith, eq-eqb}
use Rattle.std.specs.Prelude.{unwrap_or, find}
use Rattle.std.specs.List.{flat_map, AllByRecursion}
use Rattle.std.proofs.lemmas.List.{length-append, append-nil}
use Rattle.std.proofs.lemmas.Bool.{le-leb}
use Rattle.std.specs.declared.cmp.Ordering.{Ordering}
use Rattle.std.specs.declared.cmp.Ordering.TheVariants.{Less, Equal, Greater}
use Rattle.std.specs.Ordering.{is_lt, is_eq}
use Rattle.keel_base.specs.declared.row.Row.{Row}
use Rattle.keel_base.specs.declared.row.Kind.{Kind}
use Rattle.keel_base.specs.declared.row.Kind.TheVariants as kinds
use Rattle.keel_base.specs.Keys.{key_cmp, key_lt, key_eq}
use Rattle.keel_table.specs.declared.index.BlockEntry.{BlockEntry}
use Rattle.keel_table.specs.declared.index.Footer.{Footer}
use Rattle.keel_base.specs.Rows.{most_value, IsRow}
use Rattle.keel_table.specs.Spelling.{row_bytes, rows_bytes, Ascend, last_key, IsBlock, AreBlocks, rows_of, checked, block_bytes, blocks_bytes, entry_bytes, IsEntry, entry_of, entries_from, index_bytes, footer_body, footer_bytes, footer_of, table_bytes, FooterFits}
use Rattle.keel_table.specs.Fields.{is_over, next_entry_at, entries_at, all_rows_at, footer_at}
use Rattle.keel_table.specs.Opening.{checked_at, footer_of_size, footer_found, entries_found, opened_with, opened, block_found, Covering, covering, row_of, row_found, Damage}
use Rattle.keel_table.specs.Laws.{AreWhole, GetGives, OpensAs, TablesOpen}
use Rattle.keel_base.proofs.KeyOrder.{eq_same, lt_then_lt, lt_then_not_lt}
use Rattle.keel_table.proofs.Lengths.{length-row, length-checked}
use Rattle.keel_table.proofs.Adding.{last_key-more, flat-one}
use Rattle.keel_table.proofs.Reread.{checked_again, over_last, all_again, entry_field, footer_again, length-footer}

-- ---- rows of several blocks

ascend_parts : (before : List ℕ) (xs ys : List Row) → Ascend before (xs ++ ys) → Ascend before xs × Ascend (last_key before xs) ys
ascend_parts before [] ys h = (tt, h)
ascend_parts before (x ∷ xs) ys h =
    let rest = ascend_parts x.key xs ys h.1 in ((h.0, rest.0), rest.1)

pub all_parts : {A : Type 0} (P : A → Type 0) (xs ys : List A) → AllByRecursion P (xs ++ ys) → AllByRecursion P xs × AllByRecursion P ys
all_parts P [] ys h = (tt, h)
all_parts P (x ∷ xs) ys h =
    let rest = all_parts P xs ys h.1 in ((h.0, rest.0), rest.1)

-- each of the blocks has a row
pub are_blocks : (blocks : List (List Row)) → AreBlocks blocks → AllByRecursion IsBlock blocks
are_blocks [] h = tt
are_blocks (block ∷ []) h = (h, tt)
are_blocks (block ∷ next ∷ blocks) h = (h.0.is_block, are_blocks (next ∷ blocks) h.1)

no_rows : (front : List Row) (end : Row) → [] ≡ front ++ end ∷ [] → ⊥
no_rows [] end e = cc
no_rows (row ∷ front) end e = cc

-- the last key of rows doesn't depend on the key before
same_last : (before other : List ℕ) (block : List Row) → IsBlock block → last_key before block ≡ last_key other block
same_last before other [] is = absurd (no_rows is.front is.end is.parts)
same_last before other (row ∷ rows) is = refl

over_block : (before : List ℕ) (block : List Row) → IsBlock block → Ascend before block → key_lt before (last_key before block) ≡ true
over_block before [] is rise = absurd (no_rows is.front is.end is.parts)
over_block before (row ∷ rows) is rise = over_last before row rows rise

pub most : (kind : Kind) → most_value kind ≤ 65536
most kinds.Put = omega arith
most kinds.Del = omega arith

pub end_row : (block : List Row) (is : IsBlock block) → AllByRecursion IsRow block → IsRow is.end
end_row block is each = (all_parts IsRow is.front (is.end ∷ []) (subst (λ (rows : List Row). AllByRecursion IsRow rows) is.parts each)).1.0

block_short : (block : List Row) (is : IsBlock block) → AllByRecursion IsRow block → length (rows_bytes block) < 2 ^ 32
block_short block is each =
    let row : IsRow is.end = end_row block is each in
    omega (
      arith,
      ap length (ap rows_bytes is.parts ∙ flat-one row_bytes is.front is.end),
      length-append (rows_bytes is.front) (row_bytes is.end),
      is.short,
      length-row is.end,
      row.most,
      row.value,
      most is.end.kind,
    )

key_short : (block : List Row) (is : IsBlock block) → AllByRecursion IsRow block → length (last_key [] block) < 2 ^ 32
key_short block is each =
    let row : IsRow is.end = end_row block is each in
    omega (arith, ap length (ap (last_key []) is.parts ∙ last_key-more [] is.front is.end), row.most)

-- ---- the index

over_before : (before : Option (List ℕ)) (key : List ℕ) → key_lt (unwrap_or before []) key ≡ true → is_over before key ≡ true
over_before None key h = refl
over_before (Some k) key h = h

next_again : (index offset : ℕ) (before : Option (List ℕ)) (e : BlockEntry) (rest : List ℕ) → IsEntry e → e.offset ≡ offset → offset + (e.size + 4) ≤ index → is_over before e.last ≡ true
    → next_entry_at index offset before (entry_bytes e ++ rest) ≡ Ok (e, rest)
unfolding next_entry_at
next_again index offset before e rest is there within over =
    let at : eqb e.offset offset ≡ true = eq-eqb e.offset offset there in
    rw (entry_field.again e rest is, at, le-leb (offset + (e.size + 4)) index within, over) refl

entries_again : (index offset : ℕ) (before : Option (List ℕ)) (blocks : List (List Row)) → AllByRecursion IsBlock blocks → AllByRecursion IsRow (rows_of blocks) → Ascend (unwrap_or before []) (rows_of blocks)
    → offset + length (blocks_bytes blocks) ≡ index → index < 2 ^ 64 → entries_at index (length blocks) offset before (flat_map entry_bytes (entries_from offset blocks)) ≡ Ok (entries_from offset blocks)
unfolding entries_at
entries_again index offset before [] cut each rise sum fits =
    let ends : eqb offset index ≡ true = eq-eqb offset index (omega (arith, sum)) in
    rw ends refl
entries_again index offset before (block ∷ blocks) cut each rise sum fits =
    let key : List ℕ = unwrap_or before [] in
    let e : BlockEntry = entry_of offset block in
    let rows = all_parts IsRow block (rows_of blocks) each in
    let rises = ascend_parts key block (rows_of blocks) rise in
    let last : last_key key block ≡ last_key [] block = same_last key [] block cut.0 in
    let total : offset + (length (rows_bytes block) + 4) + length (blocks_bytes blocks) ≡ index = omega (arith, sum, length-append (block_bytes block) (blocks_bytes blocks), length-checked (rows_bytes block)) in
    let is : IsEntry e = record { offset = omega (arith, total, fits); size = block_short block cut.0 rows.0; last = key_short block cut.0 rows.0 } in
    let over : is_over before e.last ≡ true = over_before before e.last (subst (λ (k : List ℕ). key_lt key k ≡ true) last (over_block key block cut.0 rises.0)) in
    let behind : List ℕ = flat_map entry_bytes (entries_from (offset + (length (rows_bytes block) + 4)) blocks) in
    let here : next_entry_at index offset before (entry_bytes e ++ behind) ≡ Ok (e, behind) = next_again index offset before e behind is refl (omega (arith, total)) over in
    let rest = entries_again index (offset + (length (rows_bytes block) + 4)) (Some (last_key [] block)) blocks cut.1 rows.1 (subst (λ (k : List ℕ). Ascend k (rows_of blocks)) last rises.1) total fits in
    rw here (rw rest refl)

-- ---- blocks

found_again : (before : List ℕ) (offset : ℕ) (block : List Row) (bytes : List ℕ) → IsBlock block → AllByRecursion IsRow block → Ascend before block
    → checked_at offset (length (rows_bytes block)) bytes ≡ Ok (rows_bytes block) → block_found before (entry_of offset block) bytes ≡ Ok block
unfolding block_found
found_again before offset block bytes is each rise read =
    let rows : all_rows_at before (last_key [] block) (rows_bytes block) ≡ Ok block = ap (λ (k : List ℕ). all_rows_at before k (rows_bytes block)) (same_last [] before block is) ∙ all_again before block is each rise in
    rw read (rw rows refl)

whole_again : (front tail bytes before : List ℕ) (offset : ℕ) (blocks : List (List Row)) → bytes ≡ front ++ (blocks_bytes blocks ++ tail) → offset ≡ length front → AllByRecursion IsBlock blocks
    → AllByRecursion IsRow (rows_of blocks) → Ascend before (rows_of blocks) → AreWhole bytes before (entries_from offset blocks) blocks
whole_again front tail bytes before offset [] parts there cut each rise = tt
whole_again front tail bytes before offset (block ∷ blocks) parts there cut each rise =
    let rows = all_parts IsRow block (rows_of blocks) each in
    let rises = ascend_parts before block (rows_of blocks) rise in
    let behind : List ℕ = blocks_bytes blocks ++ tail in
    let apart : bytes ≡ front ++ (block_bytes block ++ behind) = parts ∙ ap (λ (b : List ℕ). front ++ b) (append_assoc (block_bytes block) (blocks_bytes blocks) tail) in
    let read : checked_at offset (length (rows_bytes block)) bytes ≡ Ok (rows_bytes block) = ap (checked_at offset (length (rows_bytes block))) apart ∙ checked_again front (rows_bytes block) behind offset (length (rows_bytes block)) there refl in
    let next : offset + (length (rows_bytes block) + 4) ≡ length (front ++ block_bytes block) = omega (arith, there, length-append front (block_bytes block), length-checked (rows_bytes block)) in
    let key : last_key before block ≡ last_key [] block = same_last before [] block cut.0 in (
      found_again before offset block bytes cut.0 rows.0 rises.0 read,
      whole_again (front ++ block_bytes block) tail bytes (last_key [] block) (offset + (length (rows_bytes block) + 4)) blocks (apart ∙ sym (append_assoc front (block_bytes block) behind)) next cut.1 rows.1 (subst (λ (k : List ℕ). Ascend k (rows_of blocks)) key rises.1),
    )

-- ---- the row of a key

skip : (p : Row → Bool) (row : Row) (rows : List Row) → p row ≡ false → find p (row ∷ rows) ≡ find p rows
skip p row rows e = rw e refl

differs : (o : Ordering) → is_lt o ≡ true → is_eq o ≡ false
differs Less e = refl
differs Equal e = cc
differs Greater e = cc

not_true : (b : Bool) → (b ≡ true → ⊥) → b ≡ false
not_true true h = absurd (h refl)
not_true false h = refl

true_is_false : (b : Bool) → b ≡ true → b ≡ false → ⊥
true_is_false b e f = cc

pub below_last : (key : List ℕ) (row : Row) (rows : List Row) → Ascend row.key rows → key_lt (last_key row.key rows) key ≡ true → key_lt row.key key ≡ true
below_last key row [] rise lt = lt
below_last key row (next ∷ rows) rise lt = lt_then_lt row.key (last_key row.key (next ∷ rows)) key (over_last row.key next rows rise) lt

-- a key over the last one is in no row
none_below : (before : List ℕ) (rows : List Row) (key : List ℕ) → Ascend before rows → key_lt (last_key before rows) key ≡ true → row_of key rows ≡ None
none_below before [] key rise lt = refl
none_below before (row ∷ rows) key rise lt =
    let other : key_eq row.key key ≡ false = differs (key_cmp row.key key) (below_last key row rows rise.1 lt) in
    skip (λ (r : Row). key_eq r.key key) row rows other ∙ none_below row.key rows key rise.1 lt

-- a key that isn't over the one before is in no row
none_above : (before : List ℕ) (rows : List Row) (key : List ℕ) → Ascend before rows → key_lt before key ≡ false → row_of key rows ≡ None
none_above before [] key rise over = refl
none_above before (row ∷ rows) key rise over =
    let other : key_eq row.key key ≡ false = not_true (key_eq row.key key) (λ e. true_is_false (key_lt before key) (subst (λ (k : List ℕ). key_lt before k ≡ true) (eq_same row.key key e) rise.0) over) in
    skip (λ (r : Row). key_eq r.key key) row rows other ∙ none_above row.key rows key rise.1 (lt_then_not_lt before row.key key rise.0 over)

some_none : (row : Row) → (let some : Option Row = Some row in some) ≡ (let none : Option Row = None in none) → ⊥
some_none row e = cc

found_then : (p : Row → Bool) (x : Row) (xs : List Row) → p x ≡ true → find p (x ∷ xs) ≡ Some x
found_then p x xs e = rw e refl

find_behind_test : (p : Row → Bool) (x : Row) (xs ys : List Row) (b : Bool) → p x ≡ b → find p (x ∷ xs) ≡ None → (find p xs ≡ None → find p (xs ++ ys) ≡ find p ys) → find p (x ∷ (xs ++ ys)) ≡ find p ys
find_behind_test p x xs ys true is e h = absurd (some_none x (sym (found_then p x xs is) ∙ e))
find_behind_test p x xs ys false is e h = skip p x (xs ++ ys) is ∙ h (sym (skip p x xs is) ∙ e)

find_front_test : (p : Row → Bool) (x : Row) (xs ys : List Row) (b : Bool) → p x ≡ b → find p (xs ++ ys) ≡ find p xs → find p (x ∷ (xs ++ ys)) ≡ find p (x ∷ xs)
find_front_test p x xs ys true is h = found_then p x (xs ++ ys) is ∙ sym (found_then p x xs is)
find_front_test p x xs ys false is h = skip p x (xs ++ ys) is ∙ h ∙ sym (skip p x xs is)

find_behind : (p : Row → Bool) (xs ys : List Row) → find p xs ≡ None → find p (xs ++ ys) ≡ find p ys
find_behind p [] ys e = refl
find_behind p (x ∷ xs) ys e = find_behind_test p x xs ys (p x) refl e (find_behind p xs ys)

find_front : (p : Row → Bool) (xs ys : List Row) → find p ys ≡ None → find p (xs ++ ys) ≡ find p xs
find_front p [] ys e = e
find_front p (x ∷ xs) ys e = find_front_test p x xs ys (p x) refl (find_front p xs ys e)

-- ---- gets

abbrev found_row : Option Row → Result (Option Row) Damage
found_row row = Ok row

gets_case : (bytes key : List ℕ) (row : Option Row) (b : Bool) (x y : Option Covering) → (b ≡ true → GetGives bytes key row x) → (b ≡ false → GetGives bytes key row y) → GetGives bytes key row (cond b x y)
gets_case bytes key row true x y h k = h refl
gets_case bytes key row false x y h k = k refl

row_again : (before : List ℕ) (e : BlockEntry) (block : List Row) (bytes key : List ℕ) → block_found before e bytes ≡ Ok block → row_found (before, e) key bytes ≡ Ok (row_of key block)
unfolding row_found
row_again before e block bytes key read = rw read refl

gets_again : (bytes before : List ℕ) (offset : ℕ) (blocks : List (List Row)) (key : List ℕ) → AreWhole bytes before (entries_from offset blocks) blocks → AllByRecursion IsBlock blocks → Ascend before (rows_of blocks)
    → GetGives bytes key (row_of key (rows_of blocks)) (covering before (entries_from offset blocks) key)
gets_again bytes before offset [] key whole cut rise = refl
gets_again bytes before offset (block ∷ blocks) key whole cut rise =
    let e : BlockEntry = entry_of offset block in
    let es : List BlockEntry = entries_from (offset + (length (rows_bytes block) + 4)) blocks in
    let rises = ascend_parts before block (rows_of blocks) rise in
    let last : last_key before block ≡ last_key [] block = same_last before [] block cut.0 in
    let behind : Ascend e.last (rows_of blocks) = subst (λ (k : List ℕ). Ascend k (rows_of blocks)) last rises.1 in
    let p : Row → Bool = λ r. key_eq r.key key in
    gets_case bytes key (row_of key (block ++ rows_of blocks)) (key_lt e.last key) (covering e.last es key) (Some (before, e))
    (λ below.
    let none : row_of key block ≡ None = none_below before block key rises.0 (subst (λ (k : List ℕ). key_lt k key ≡ true) (sym last) below) in
    subst (λ (row : Option Row). GetGives bytes key row (covering e.last es key)) (sym (find_behind p block (rows_of blocks) none)) (gets_again bytes e.last (offset + (length (rows_bytes block) + 4)) blocks key whole.1 cut.1 behind))
    (λ over.
    let none : row_of key (rows_of blocks) ≡ None = none_above e.last (rows_of blocks) key behind over in
    row_again before e block bytes key whole.0 ∙ ap (λ (row : Option Row). found_row row) (sym (find_front p block (rows_of blocks) none)))

-- ---- the whole file

footer_read : (size : ℕ) (f : Footer) → FooterFits f → f.index + (f.size + 52) ≡ size → footer_of_size size (footer_at (footer_body f)) ≡ Ok f
unfolding footer_of_size
footer_read size f fits whole =
    let sum : eqb (f.index + (f.size + 52)) size ≡ true = eq-eqb (f.index + (f.size + 52)) size whole in
    rw (footer_again f fits, sum) refl

opens_again : (size : ℕ) (bytes : List ℕ) (f : Footer) (entries : List BlockEntry) → 52 ≤ size → footer_found size bytes ≡ Ok f → entries_found f bytes ≡ Ok entries → opened size bytes ≡ Ok (opened_with f entries)
unfolding opened
opens_again size bytes f entries long footer listed = rw (le-leb 52 size long, footer, listed) refl

footer_found_again : (size : ℕ) (front bytes : List ℕ) (f : Footer) → bytes ≡ front ++ footer_bytes f → size ≡ length front + 48 → FooterFits f → f.index + (f.size + 52) ≡ size → footer_found size bytes ≡ Ok f
unfolding footer_found
footer_found_again size front bytes f parts long fits whole =
    let apart : bytes ≡ front ++ (checked (footer_body f) ++ []) = parts ∙ ap (λ (b : List ℕ). front ++ b) (sym (append-nil (checked (footer_body f)))) in
    let read : checked_at (size - 48) 44 bytes ≡ Ok (footer_body f) = ap (checked_at (size - 48) 44) apart ∙ checked_again front (footer_body f) [] (size - 48) 44 (omega (arith, long)) (sym (length-footer f)) in
    rw read (footer_read size f fits whole)

entries_found_again : (bytes index behind front : List ℕ) (f : Footer) (entries : List BlockEntry) → bytes ≡ front ++ (checked index ++ behind) → f.index ≡ length front → f.size ≡ length index
    → entries_at f.index f.blocks 0 None index ≡ Ok entries → entries_found f bytes ≡ Ok entries
unfolding entries_found
entries_found_again bytes index behind front f entries parts there sized listed =
    let read : checked_at f.index f.size bytes ≡ Ok index = ap (checked_at f.index f.size) parts ∙ checked_again front index behind f.index f.size there sized in
    rw read (rw listed refl)

opens : (first last : ℕ) (blocks : List (List Row)) (bytes : List ℕ) → AreBlocks blocks → AllByRecursion IsRow (rows_of blocks) → Ascend [] (rows_of blocks) → FooterFits (footer_of first last blocks)
    → bytes ≡ table_bytes first last blocks → OpensAs first last bytes blocks
opens first last blocks bytes cut each rise fits spelled =
    let f : Footer = footer_of first last blocks in
    let front : List ℕ = blocks_bytes blocks in
    let index : List ℕ = index_bytes blocks in
    let apart : bytes ≡ (front ++ checked index) ++ footer_bytes f = spelled ∙ sym (append_assoc front (checked index) (footer_bytes f)) in
    let size : length bytes ≡ length (front ++ checked index) + 48 = omega (arith, ap length apart, length-append (front ++ checked index) (footer_bytes f), length-checked (footer_body f), length-footer f) in
    let sum : f.index + (f.size + 52) ≡ length bytes = omega (arith, size, length-append front (checked index), length-checked index) in
    let listed : entries_at f.index f.blocks 0 None index ≡ Ok (entries_from 0 blocks) = entries_again f.index 0 None blocks (are_blocks blocks cut) each rise (omega arith) fits.index in
    let whole : AreWhole bytes [] (entries_from 0 blocks) blocks = whole_again [] (checked index ++ footer_bytes f) bytes [] 0 blocks spelled refl (are_blocks blocks cut) each rise in
    record {
      opens = opens_again (length bytes) bytes f (entries_from 0 blocks) (omega (arith, sum)) (footer_found_again (length bytes) (front ++ checked index) bytes f apart size fits sum)
          (entries_found_again bytes index (footer_bytes f) front f (entries_from 0 blocks) spelled refl refl listed);
      whole = whole;
      gets = λ key. gets_again bytes [] 0 blocks key whole (are_blocks blocks cut) rise;
    }

pub tables_open_law : TablesOpen
tables_open_law first last rows bytes table =
    opens first last table.blocks bytes table.cut (subst (λ (rs : List Row). AllByRecursion IsRow rs) table.joined table.each) (subst (λ (rs : List Row). Ascend [] rs) table.joined table.rise) table.fits table.spelled
