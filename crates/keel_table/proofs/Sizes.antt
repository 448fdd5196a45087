-- How large tables are.
use Rattle.std.proofs.Common.{◌≡◌, ℕ, ◌+◌, ◌*◌, ◌^◌, ◌<◌, ◌≤◌, List, [], ◌∷◌, ◌++◌, length, true, leb, Option, Some, None, Result, Ok, sym, ap, subst, ◌∙◌, arith}
use Rattle.std.proofs.lemmas.Bool.{eqb-true, and_parts}
use Rattle.std.specs.List.{flat_map, AllByRecursion}
use Rattle.std.proofs.lemmas.List.{length-append, append-nil}
use Rattle.keel_base.specs.declared.row.Row.{Row}
use Rattle.keel_table.specs.declared.index.BlockEntry.{BlockEntry}
use Rattle.keel_table.specs.declared.index.Footer.{Footer}
use Rattle.keel_base.specs.Rows.{IsRow}
use Rattle.keel_table.specs.Spelling.{number, count, row_bytes, rows_bytes, IsBlock, rows_of, checked, block_bytes, blocks_bytes, entry_bytes, IsEntry, entry_of, entries_from, index_bytes, footer_body, footer_bytes, footer_of, table_bytes}
use Rattle.keel_disk.specs.Image.{AreBytes}
use Rattle.keel_table.specs.Fields.{entry_fits, in_order}
use Rattle.keel_table.specs.Opening.{Damage, and_then, footer_found, entries_found, Opened, opened_with, opened}
use Rattle.keel_table.specs.Laws.{AreWhole, IsIndexAt, IsFooterAt}
use Rattle.keel_table.specs.Sizes.{OneRowSize, TablesAreSmall, FilesAreSmall}
use Rattle.keel_table.proofs.Lengths.{length-number, length-count, length-row, length-checked}
use Rattle.keel_table.proofs.Adding.{flat-one}
use Rattle.keel_table.proofs.Reread.{rows_long, length-footer}
use Rattle.keel_table.proofs.Spelled.{needs_ok, then_ok, blocks_spelled, indexes_spelled, footers_spelled}
use Rattle.keel_table.proofs.Opens.{are_blocks, all_parts, end_row, most}

length-entry : (e : BlockEntry) → length (entry_bytes e) ≡ 16 + length e.last
length-entry e =
    let behind : List ℕ = count (length e.last) ++ e.last in
    let sizes : List ℕ = count e.size ++ behind in
    omega (
      arith,
      length-append (number e.offset) sizes,
      length-append (count e.size) behind,
      length-append (count (length e.last)) e.last,
      length-number e.offset,
      length-count e.size,
      length-count (length e.last),
    )

length-table : (first last : ℕ) (blocks : List (List Row)) → length (table_bytes first last blocks) ≡ length (blocks_bytes blocks) + length (index_bytes blocks) + 52
length-table first last blocks =
    let f : Footer = footer_of first last blocks in
    omega (
      arith,
      length-append (blocks_bytes blocks) (checked (index_bytes blocks) ++ footer_bytes f),
      length-append (checked (index_bytes blocks)) (footer_bytes f),
      length-checked (index_bytes blocks),
      length-checked (footer_body f),
      length-footer f,
    )

has_row : (block : List Row) → IsBlock block → 1 ≤ length block
has_row block is = omega (arith, ap length is.parts, length-append is.front (is.end ∷ []))

-- ---- one row

one_block : (row : Row) (blocks : List (List Row)) → AllByRecursion IsBlock blocks → row ∷ [] ≡ rows_of blocks → blocks ≡ (row ∷ []) ∷ []
one_block row [] cut e = absurd (let l : 1 ≡ 0 = ap length e in omega (arith, l))
one_block row (block ∷ []) cut e = ap (λ (b : List Row). b ∷ []) (sym (e ∙ append-nil block))
one_block row (block ∷ next ∷ blocks) cut e =
    absurd (
    let l : 1 ≡ length (block ++ (next ++ rows_of blocks)) = ap length e in
    omega (arith, l, length-append block (next ++ rows_of blocks), length-append next (rows_of blocks), has_row block cut.0, has_row next cut.1.0)
    )

one_bytes : (row : Row) → length (blocks_bytes ((row ∷ []) ∷ [])) ≡ 21 + length row.key + length row.value
one_bytes row =
    let rows : List ℕ = row_bytes row ++ [] in
    omega (arith, length-append (checked rows) [], length-checked rows, length-append (row_bytes row) [], length-row row)

one_index : (row : Row) → length (index_bytes ((row ∷ []) ∷ [])) ≡ 16 + length row.key
one_index row =
    let e : BlockEntry = entry_of 0 (row ∷ []) in
    omega (arith, length-append (entry_bytes e) [], length-entry e)

pub one_row_size : OneRowSize
one_row_size first last row bytes table =
    let one : table.blocks ≡ (row ∷ []) ∷ [] = one_block row table.blocks (are_blocks table.blocks table.cut) table.joined in
    let spelled : length bytes ≡ length (table_bytes first last ((row ∷ []) ∷ [])) = ap length (table.spelled ∙ ap (table_bytes first last) one) in
    omega (arith, spelled, length-table first last ((row ∷ []) ∷ []), one_bytes row, one_index row)

-- ---- many rows

block_most : (block : List Row) (is : IsBlock block) → AllByRecursion IsRow block → length (block_bytes block) ≤ 70676
block_most block is each =
    let row : IsRow is.end = end_row block is each in
    omega (
      arith,
      length-checked (rows_bytes block),
      ap length (ap rows_bytes is.parts ∙ flat-one row_bytes is.front is.end),
      length-append (rows_bytes is.front) (row_bytes is.end),
      is.short,
      length-row is.end,
      row.most,
      row.value,
      most is.end.kind,
    )

blocks_most : (blocks : List (List Row)) → AllByRecursion IsBlock blocks → AllByRecursion IsRow (rows_of blocks) → length (blocks_bytes blocks) ≤ 70676 * length blocks
blocks_most [] cut each = omega arith
blocks_most (block ∷ blocks) cut each =
    let rows = all_parts IsRow block (rows_of blocks) each in
    let here : length (block_bytes block) ≤ 70676 = block_most block cut.0 rows.0 in
    let behind : length (blocks_bytes blocks) ≤ 70676 * length blocks = blocks_most blocks cut.1 rows.1 in
    omega (arith, here, behind, length-append (block_bytes block) (blocks_bytes blocks))

index_least : (offset : ℕ) (blocks : List (List Row)) → 16 * length blocks ≤ length (flat_map entry_bytes (entries_from offset blocks))
index_least offset [] = omega arith
index_least offset (block ∷ blocks) =
    let next : ℕ = offset + (length (rows_bytes block) + 4) in
    omega (arith, index_least next blocks, length-append (entry_bytes (entry_of offset block)) (flat_map entry_bytes (entries_from next blocks)), length-entry (entry_of offset block))

rows_most : (blocks : List (List Row)) → length (rows_of blocks) ≤ length (blocks_bytes blocks)
rows_most [] = omega arith
rows_most (block ∷ blocks) =
    omega (arith, rows_most blocks, length-append block (rows_of blocks), length-append (block_bytes block) (blocks_bytes blocks), length-checked (rows_bytes block), rows_long block)

pub tables_are_small : TablesAreSmall
tables_are_small first last rows bytes table =
    let blocks : List (List Row) = table.blocks in
    let each : AllByRecursion IsRow (rows_of blocks) = subst (λ (rs : List Row). AllByRecursion IsRow rs) table.joined table.each in
    let most_bytes : length (blocks_bytes blocks) ≤ 70676 * length blocks = blocks_most blocks (are_blocks blocks table.cut) each in
    let counted : 16 * length blocks ≤ length (index_bytes blocks) = index_least 0 blocks in
    let index : length (index_bytes blocks) < 2 ^ 32 = table.fits.size in
    let spelled : length bytes ≡ length (table_bytes first last blocks) = ap length table.spelled in
    let joined : length rows ≡ length (rows_of blocks) = ap length table.joined in
    (omega (arith, most_bytes, counted, index, spelled, length-table first last blocks), omega (arith, joined, rows_most blocks, most_bytes, counted, index))

-- ---- files that open

-- the blocks of entries end no farther behind than their sizes tell
index_most : (index offset : ℕ) (before : Option (List ℕ)) (entries : List BlockEntry) → AllByRecursion IsEntry entries → in_order index offset before entries ≡ true → index ≤ offset + 4294967299 * length entries
index_most index offset before [] each follow =
    let there : offset ≡ index = eqb-true offset index follow in
    omega (arith, there)
index_most index offset before (e ∷ entries) each follow =
    let fits = and_parts (entry_fits index offset before e) (in_order index (offset + (e.size + 4)) (Some e.last) entries) follow in
    let behind : index ≤ offset + (e.size + 4) + 4294967299 * length entries = index_most index (offset + (e.size + 4)) (Some e.last) entries each.1 fits.1 in
    let size : e.size < 2 ^ 32 = each.0.size in
    omega (arith, behind, size)

entries_least : (entries : List BlockEntry) → 16 * length entries ≤ length (flat_map entry_bytes entries)
entries_least [] = omega arith
entries_least (e ∷ entries) = omega (arith, entries_least entries, length-append (entry_bytes e) (flat_map entry_bytes entries), length-entry e)

-- the rows of blocks that are whole, each of which has a byte at least
rows_within : (index offset : ℕ) (over : Option (List ℕ)) (before bytes : List ℕ) (entries : List BlockEntry) (blocks : List (List Row)) → AreBytes bytes → in_order index offset over entries ≡ true
    → AreWhole bytes before entries blocks → offset + length (rows_of blocks) ≤ index
rows_within index offset over before bytes [] [] are follow whole =
    let there : offset ≡ index = eqb-true offset index follow in
    omega (arith, there)
rows_within index offset over before bytes (e ∷ entries) [] are follow whole = absurd whole
rows_within index offset over before bytes [] (block ∷ blocks) are follow whole = absurd whole
rows_within index offset over before bytes (e ∷ entries) (block ∷ blocks) are follow whole =
    let fits = and_parts (entry_fits index offset over e) (in_order index (offset + (e.size + 4)) (Some e.last) entries) follow in
    let behind : offset + (e.size + 4) + length (rows_of blocks) ≤ index = rows_within index (offset + (e.size + 4)) (Some e.last) e.last bytes entries blocks are fits.1 whole.1 in
    let sized : length (rows_bytes block) ≡ e.size = ((blocks_spelled before e bytes block are).0 whole.0).sized in
    omega (arith, behind, sized, rows_long block, length-append block (rows_of blocks))

small : (size : ℕ) (bytes : List ℕ) (f : Footer) (entries : List BlockEntry) → AreBytes bytes → IsFooterAt size bytes f → IsIndexAt f bytes entries
    → (size < 2 ^ 61) × ((blocks : List (List Row)) → AreWhole bytes [] entries blocks → length (rows_of blocks) ≤ size)
small size bytes f entries are footer index =
    let most_offsets : f.index ≤ 0 + 4294967299 * length entries = index_most f.index 0 None entries index.each index.follow in
    let least : 16 * length entries ≤ length (flat_map entry_bytes entries) = entries_least entries in
    let sized : length (flat_map entry_bytes entries) ≡ f.size = index.sized in
    let whole_size : f.index + (f.size + 52) ≡ size = footer.whole in
    let fits : f.size < 2 ^ 32 = footer.fits.size in (
      omega (arith, most_offsets, least, sized, whole_size, fits),
      λ blocks whole.
          let within : 0 + length (rows_of blocks) ≤ f.index = rows_within f.index 0 None [] bytes entries blocks are index.follow whole in
          omega (arith, within, whole_size),
    )

opened_is : (f : Footer) (entries : List BlockEntry) (o : Opened) → (let found : Result Opened Damage = Ok (opened_with f entries) in found) ≡ Ok o → opened_with f entries ≡ o
opened_is f entries o e = cc

pub files_are_small : FilesAreSmall
unfolding opened
files_are_small size bytes o are e =
    let found = needs_ok (leb 52 size) 0 (and_then (footer_found size bytes) (λ f. and_then (entries_found f bytes) (λ entries. Ok (opened_with f entries)))) o e in
    let f = then_ok (footer_found size bytes) (λ f. and_then (entries_found f bytes) (λ entries. Ok (opened_with f entries))) o found.1 in
    let entries = then_ok (entries_found f.0 bytes) (λ entries. Ok (opened_with f.0 entries)) o f.2 in
    let is : opened_with f.0 entries.0 ≡ o = opened_is f.0 entries.0 o entries.2 in
    subst (λ (x : Opened). (size < 2 ^ 61) × ((blocks : List (List Row)) → AreWhole bytes [] x.entries blocks → length (rows_of blocks) ≤ size)) is
    (small size bytes f.0 entries.0 are ((footers_spelled size bytes f.0 are).0 f.1) ((indexes_spelled f.0 bytes entries.0 are).0 entries.1))
