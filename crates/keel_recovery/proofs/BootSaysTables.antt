-- The table that a boot makes of a segment.
use Rattle.std.proofs.Common.{◌≡◌, ℕ, ◌+◌, ◌≤◌, Bool, true, cond, List, [], ◌∷◌, ◌++◌, length, Result, Ok, Err, refl, sym, ap, subst, ◌∙◌, arith}
use Rattle.std.specs.Prelude.{IsOk, ◌==◌}
use Rattle.std.specs.List.{AllByRecursion}
use Rattle.std.proofs.lemmas.Bool.{eq-eqb}
use Rattle.keel_base.specs.declared.limits.TheConstants.{LAST_NUMBER}
use Rattle.keel_base.specs.declared.op.Op.{Op}
use Rattle.keel_base.specs.declared.row.Row.{Row}
use Rattle.keel_base.specs.Keys.{key_le}
use Rattle.keel_base.specs.Name.{IsFileNumber}
use Rattle.keel_base.specs.Rows.{IsRow, op_row, op_rows}
use Rattle.keel_base.specs.Weight.{IsKey}
use Rattle.keel_base.proofs.KeyOrder.{le_itself, lt_is_le}
use Rattle.keel_batch.specs.Batches.{AreBatches}
use Rattle.keel_directory.specs.Sound.{IsAsSaid, first_key}
use Rattle.keel_directory.specs.Sound as sound
use Rattle.keel_directory.specs.TableFiles.{TableFile, block_rows, open_sized, rows_found, table_rows}
use Rattle.keel_edit.specs.Spelling.{IsAdded}
use Rattle.keel_draft.specs.Drafts.{AreNewestOf, Draft, IsDraftOf, added_of, batch_rows, bytes_in, count_ops, file_of, rows_in}
use Rattle.keel_table.proofs.Opens.{tables_open_law}
use Rattle.keel_table.proofs.Reread.{over_last}
use Rattle.keel_table.proofs.Sizes.{tables_are_small}
use Rattle.keel_table.specs.declared.index.BlockEntry.{BlockEntry}
use Rattle.keel_table.specs.Laws.{AreWhole, OpensAs}
use Rattle.keel_table.specs.Opening.{Damage, bad_shape, opened}
use Rattle.keel_table.specs.Spelling.{Ascend, entries_from, last_key, rows_of}
use Rattle.keel_recovery.proofs.BootSaysRows.{batches_within, newest_have, newest_some, IsNumbered}

-- ---- blocks

whole_rows : (bytes before : List ℕ) (entries : List BlockEntry) (blocks : List (List Row)) → AreWhole bytes before entries blocks → block_rows bytes before entries ≡ rows_of blocks
whole_rows bytes before [] [] whole = refl
whole_rows bytes before [] (block ∷ blocks) whole = absurd whole
whole_rows bytes before (e ∷ entries) [] whole = absurd whole
whole_rows bytes before (e ∷ entries) (block ∷ blocks) whole =
    ap (λ (found : Result (List Row) Damage). rows_found found ++ block_rows bytes e.last entries) whole.0
    ∙ ap (λ (rows : List Row). block ++ rows) (whole_rows bytes e.last entries blocks whole.1)

whole_found : (bytes before : List ℕ) (entries : List BlockEntry) (blocks : List (List Row)) → AreWhole bytes before entries blocks → sound.AreWhole bytes before entries
whole_found bytes before [] [] whole = tt
whole_found bytes before [] (block ∷ blocks) whole = absurd whole
whole_found bytes before (e ∷ entries) [] whole = absurd whole
whole_found bytes before (e ∷ entries) (block ∷ blocks) whole =
    (subst (λ (found : Result (List Row) Damage). IsOk found) (sym whole.0) refl, whole_found bytes e.last entries blocks whole.1)

-- ---- keys

row_key : (row : Row) → IsRow row → IsKey row.key
row_key row is = record { some = omega (arith, is.least); most = is.most }

end_key : (row : Row) (rows : List Row) → AllByRecursion IsRow (row ∷ rows) → IsKey (last_key row.key rows)
end_key row [] each = row_key row each.0
end_key row (next ∷ rows) each = end_key next rows each.1

keys_rise : (row : Row) (rows : List Row) → Ascend row.key rows → key_le row.key (last_key row.key rows) ≡ true
keys_rise row [] rise = le_itself row.key
keys_rise row (next ∷ rows) rise = lt_is_le row.key (last_key row.key (next ∷ rows)) (over_last row.key next rows rise)

record HasKeys (rows : List Row) : Type 0 where
  least : IsKey (first_key rows)
  greatest : IsKey (last_key [] rows)
  in_order : key_le (first_key rows) (last_key [] rows) ≡ true

has_keys : (rows : List Row) → 1 ≤ length rows → AllByRecursion IsRow rows → Ascend [] rows → HasKeys rows
has_keys [] some each rise = absurd (omega (arith, some))
has_keys (row ∷ rows) some each rise = record { least = row_key row each.0; greatest = end_key row rows each; in_order = keys_rise row rows rise.1 }

-- ---- the draft of a segment

size_is : (size : ℕ) (bytes : List ℕ) → size ≡ length bytes → open_sized size bytes ≡ opened (length bytes) bytes
size_is size bytes is =
    let same : (length bytes == size) ≡ true = eq-eqb (length bytes) size (sym is) in
    ap (λ (b : Bool). cond b (opened size bytes) (Err (bad_shape 0))) same ∙ ap (λ (n : ℕ). opened n bytes) is

some_rows : (seq : ℕ) (batches : List (List Op)) (rows : List Row) → 1 ≤ length batches → AreBatches seq batches → AreNewestOf (batch_rows (seq + 1) batches) rows → 1 ≤ length rows
some_rows seq [] rows some are newest = absurd (omega (arith, some))
some_rows seq ([] ∷ batches) rows some are newest = absurd (omega (arith, are.0.some))
some_rows seq ((op ∷ ops) ∷ batches) rows some are newest = newest_some (op_row (seq + 1) op) (op_rows (seq + 1 + 1) ops ++ batch_rows (seq + 1 + length (op ∷ ops)) batches) rows newest

count_some : (seq : ℕ) (batches : List (List Op)) → 1 ≤ length batches → AreBatches seq batches → 1 ≤ count_ops batches
count_some seq [] some are = absurd (omega (arith, some))
count_some seq (ops ∷ batches) some are = omega (arith, are.0.some)

-- the table of a segment, of which no row is over that number, has these rows
pub record IsFit (last : ℕ) (table : TableFile) : Type 0 where
  pub added : IsAdded table.entry
  pub opens : open_sized table.entry.size table.bytes ≡ Ok table.file
  pub said : IsAsSaid last table
  pub level : table.entry.level ≡ 0

module _ (seq number : ℕ) (batches : List (List Op)) (draft : Draft) (is : IsDraftOf seq batches draft) where
  opens_as : OpensAs draft.first draft.last (bytes_in draft) draft.blocks
  opens_as = subst (λ (blocks : List (List Row)). OpensAs draft.first draft.last (bytes_in draft) blocks) is.blocks (tables_open_law draft.first draft.last (rows_in draft) (bytes_in draft) is.table)

  pub draft_rows : table_rows (file_of number draft) ≡ rows_in draft
  draft_rows = whole_rows (bytes_in draft) [] (entries_from 0 draft.blocks) draft.blocks opens_as.whole

  pub draft_opens : open_sized (length (bytes_in draft)) (bytes_in draft) ≡ Ok (file_of number draft).file
  draft_opens = size_is (length (bytes_in draft)) (bytes_in draft) refl ∙ opens_as.opens

  draft_within : AllByRecursion (IsNumbered draft.first draft.last) (table_rows (file_of number draft))
  draft_within =
      let first : draft.first ≤ seq + 1 = omega (arith, is.first) in
      let last : seq + 1 + count_ops batches ≤ draft.last + 1 = omega (arith, is.last) in
      subst (AllByRecursion (IsNumbered draft.first draft.last)) (sym draft_rows)
      (newest_have (IsNumbered draft.first draft.last) (batch_rows (seq + 1) batches) (rows_in draft) is.newest (batches_within draft.first draft.last (seq + 1) batches first last))

  draft_said : (last : ℕ) → seq + count_ops batches ≤ last → IsAsSaid last (file_of number draft)
  draft_said last le = record {
    whole = whole_found (bytes_in draft) [] (entries_from 0 draft.blocks) draft.blocks opens_as.whole;
    count = ap length (sym draft_rows);
    count_said = refl;
    least = ap first_key (sym draft_rows);
    greatest = ap (last_key []) (sym draft_rows);
    first_said = refl;
    last_said = refl;
    within = draft_within;
    known = omega (arith, is.last, le);
  }

  draft_added : IsFileNumber number → 1 ≤ length batches → AreBatches seq batches → seq + count_ops batches ≤ LAST_NUMBER → IsAdded (added_of number draft)
  draft_added numbered some are le =
      let keys = has_keys (rows_in draft) (some_rows seq batches (rows_in draft) some are is.newest) is.table.each is.table.rise in
      let small = tables_are_small draft.first draft.last (rows_in draft) (bytes_in draft) is.table in
      record {
        level = omega arith;
        number = numbered;
        size = is.size;
        rows = small.1;
        first = omega (arith, is.first, le, count_some seq batches some are);
        last = omega (arith, is.last, le);
        least = keys.least;
        greatest = keys.greatest;
        in_order = keys.in_order;
      }

  pub draft_fits : (last : ℕ) → IsFileNumber number → 1 ≤ length batches → AreBatches seq batches → seq + count_ops batches ≤ LAST_NUMBER → seq + count_ops batches ≤ last → IsFit last (file_of number draft)
  draft_fits last numbered some are most le = record {
    added = draft_added numbered some are most;
    opens = draft_opens;
    said = draft_said last le;
    level = refl;
  }
