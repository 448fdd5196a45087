-- The rows of a range in segments and tables are those of the map.
use Rattle.std.proofs.Common.{◌≡◌, ℕ, ◌+◌, suc, Bool, true, false, cond, not, List, [], ◌∷◌, ◌++◌, filter, Option, None, refl, sym, ap, subst, ◌∙◌, append_assoc, arith}
use Rattle.std.specs.Prelude.{◌&&◌, ◌||◌, nat_lt}
use Rattle.std.specs.List.{AllByRecursion}
use Rattle.std.specs.List.Sorted.{IsPermutation}
use Rattle.std.specs.declared.cmp.Ordering.{Ordering}
use Rattle.std.specs.declared.cmp.Ordering.TheVariants.{Less, Equal, Greater}
use Rattle.std.specs.Ordering.{is_lt, is_gt, is_eq}
use Rattle.std.proofs.lemmas.List.Elements.{filter-append}
use Rattle.std.proofs.lemmas.List.Sorted.{IsPermutation-refl}
use Rattle.keel_base.specs.declared.op.Op.{Op}
use Rattle.keel_base.specs.declared.row.Row.{Row}
use Rattle.keel_base.specs.Keys.{key_cmp, key_le}
use Rattle.keel_base.specs.Points.{Values}
use Rattle.keel_base.specs.Rows.{newest, IsMapOf}
use Rattle.keel_base.proofs.Newest.{newest_of_both, newest-append}
use Rattle.keel_levels.specs.Ranges as levels
use Rattle.keel_levels.specs.Ranges.{between, in_range, is_between}
use Rattle.keel_levels.proofs.Listing.{kept_newest}
use Rattle.keel_levels.proofs.Valuing.{ranges_are_of_maps}
use Rattle.keel_machine.specs.Reads as machine
use Rattle.keel_machine.specs.Reads.{segment_rows}
use Rattle.keel_machine.specs.States.{Segment}
use Rattle.keel_mem.specs.RowOrder.{RowPrecedes, AreInOrder}
use Rattle.keel_mem.proofs.Newest.{scan_finds_newest}
use Rattle.keel_merge.specs.Merging.{IsMergeOf, staying, rows_of as merge_rows}
use Rattle.keel_merge.specs.Order.{AreAscending, EachIsAscending, IsBeforeAll}
use Rattle.keel_merge.proofs.Behind.{le_before_all}
use Rattle.keel_draft.specs.Drafts.{batch_rows, count_ops}
use Rattle.keel_core.specs.Scans.{AreRanges, IsRange, rows_held}
use Rattle.keel_core.specs.Views.{AreSegments, FullSegment}
use Rattle.keel_core.proofs.Latest.{batches_in}

-- ---- the rows of one memtable

before_le : (o : Ordering) (b : Bool) → (is_lt o || (is_eq o && b)) ≡ true → not (is_gt o) ≡ true
before_le Less b h = refl
before_le Equal b h = refl
before_le Greater b h = cc

others : (row : Row) (rows : List Row) → AreInOrder (row ∷ rows) → AreInOrder rows
others row rows pairs = λ i j d less within. pairs (suc i) (suc j) d (omega arith) (omega arith)

ascending : (rows : List Row) → AreInOrder rows → AreAscending rows
ascending [] order = tt
ascending (row ∷ []) order = (tt, tt)
ascending (row ∷ (next ∷ rows)) order =
    let before : RowPrecedes row next = order 0 1 row (omega arith) (omega arith) in
    let le : key_le row.key next.key ≡ true = before_le (key_cmp row.key next.key) (nat_lt next.seq row.seq) before in
    let rest = ascending (next ∷ rows) (others row (next ∷ rows) order) in
    ((le, le_before_all row.key next.key rows le rest.0), rest)

before_kept : (p : Row → Bool) (key : List ℕ) (rows : List Row) → IsBeforeAll key_le key rows → IsBeforeAll key_le key (filter p rows)
before_kept p key [] all = tt
before_kept p key (row ∷ rows) all =
    let rest = before_kept p key rows all.1 in
    elim (p row) as (λ b. IsBeforeAll key_le key (cond b (row ∷ filter p rows) (filter p rows))) [ true ↦ (all.0, rest) | false ↦ rest ]

ascending_kept : (p : Row → Bool) (rows : List Row) → AreAscending rows → AreAscending (filter p rows)
ascending_kept p [] all = tt
ascending_kept p (row ∷ rows) all =
    let rest = ascending_kept p rows all.1 in
    elim (p row) as (λ b. AreAscending (cond b (row ∷ filter p rows) (filter p rows))) [ true ↦ (before_kept p row.key rows all.0, rest) | false ↦ rest ]

pub range_of : (from to : List ℕ) (arrived sorted : List Row) → IsPermutation arrived sorted → AreInOrder sorted → IsRange from to arrived (between from to sorted)
range_of from to arrived sorted same order = record {
  by_key = ascending_kept (is_between from to) sorted (ascending sorted order);
  says = λ key.
      let found : newest key sorted ≡ newest key arrived = scan_finds_newest key sorted sorted (IsPermutation-refl sorted) order ∙ sym (scan_finds_newest key arrived sorted same order) in
      kept_newest from to key sorted ∙ ap (λ (o : Option Row). cond (in_range from to key) o None) found ∙ sym (kept_newest from to key arrived);
}

-- a row and those behind it
pub between_first : (from to : List ℕ) (row : Row) (rows : List Row) → between from to (row ∷ rows) ≡ between from to (row ∷ []) ++ between from to rows
between_first from to row rows = filter-append (is_between from to) (row ∷ []) rows

-- ---- those of all segments

pub ranges_ascend : (from to : List ℕ) (all lists : List (List Row)) → AreRanges from to all lists → EachIsAscending lists
ranges_ascend from to [] [] are = tt
ranges_ascend from to (held ∷ all) (rows ∷ lists) are = (are.0.by_key, ranges_ascend from to all lists are.1)
ranges_ascend from to [] (rows ∷ lists) are = absurd are
ranges_ascend from to (held ∷ all) [] are = absurd are

ranges_say : (from to key : List ℕ) (all lists : List (List Row)) → AreRanges from to all lists → newest key (merge_rows lists) ≡ newest key (between from to (merge_rows all))
ranges_say from to key [] [] are = refl
ranges_say from to key (held ∷ all) (rows ∷ lists) are =
    newest-append key rows (merge_rows lists)
    ∙ ap (λ (o : Option Row). newest_of_both o (newest key (merge_rows lists))) (are.0.says key)
    ∙ ap (newest_of_both (newest key (between from to held))) (ranges_say from to key all lists are.1)
    ∙ sym (newest-append key (between from to held) (between from to (merge_rows all)))
    ∙ ap (newest key) (sym (filter-append (is_between from to) held (merge_rows all)))
ranges_say from to key [] (rows ∷ lists) are = absurd are
ranges_say from to key (held ∷ all) [] are = absurd are

segments_held : (seq : ℕ) (fulls : List FullSegment) (segments : List Segment) (rows : List Row) (active : List (List Op)) (last : ℕ)
    → AreSegments seq fulls segments rows active last → merge_rows (rows_held fulls rows) ≡ segment_rows seq (batches_in segments active)
segments_held seq [] [] rows active last are = ap (λ (r : List Row). r ++ []) are.0
segments_held seq (full ∷ fulls) (segment ∷ segments) rows active last are =
    ap (λ (r : List Row). r ++ merge_rows (rows_held fulls rows)) are.1
    ∙ ap (λ (r : List Row). batch_rows (seq + 1) segment.batches ++ r) (segments_held (seq + count_ops segment.batches) fulls segments rows active last are.2)
segments_held seq [] (segment ∷ segments) rows active last are = absurd are
segments_held seq (full ∷ fulls) [] rows active last are = absurd are

-- ---- the merge with tables

inside : (r : Bool) (tables front all : Option Row) → front ≡ cond r all None → cond r (newest_of_both tables front) None ≡ cond r (newest_of_both tables all) None
inside true tables front all is = ap (newest_of_both tables) is
inside false tables front all is = refl

merged_all : (from to : List ℕ) (tables front all rows : List Row) → ((key : List ℕ) → newest key front ≡ newest key (between from to all))
    → IsMergeOf (between from to (tables ++ front)) true rows → IsMergeOf (between from to (tables ++ all)) true rows
merged_all from to tables front all rows says is = record {
  ascending = is.ascending;
  newest_of_each = λ key.
      let r : Bool = in_range from to key in
      let same : newest key (between from to (tables ++ front)) ≡ newest key (between from to (tables ++ all)) =
      kept_newest from to key (tables ++ front)
      ∙ ap (λ (o : Option Row). cond r o None) (newest-append key tables front)
      ∙ inside r (newest key tables) (newest key front) (newest key all) (says key ∙ kept_newest from to key all)
      ∙ ap (λ (o : Option Row). cond r o None) (sym (newest-append key tables all))
      ∙ sym (kept_newest from to key (tables ++ all)) in
      is.newest_of_each key ∙ ap (staying true) same;
}

-- ---- the rows of the map

each_row : (values : Values) (from to : List ℕ) (rows : List Row) → AllByRecursion (levels.IsRowOf values from to) rows → AllByRecursion (machine.IsRowOf values from to) rows
each_row values from to [] all = tt
each_row values from to (row ∷ rows) all = (record { inside = all.0.inside; value_is = all.0.value_is }, each_row values from to rows all.1)

rises : (rows : List Row) → levels.Rise rows → machine.Rise rows
rises [] rise = tt
rises (row ∷ []) rise = tt
rises (row ∷ (next ∷ rows)) rise = (rise.0, rises (next ∷ rows) rise.1)

-- Where tables and segments say what the map has, so do the merged rows of a range.
pub rows_of_map : (from to : List ℕ) (tables : List Row) (seq : ℕ) (fulls : List FullSegment) (segments : List Segment) (rows : List Row) (active : List (List Op)) (last : ℕ) (lists : List (List Row)) (merged : List Row) (values : Values)
    → AreSegments seq fulls segments rows active last → AreRanges from to (rows_held fulls rows) lists → IsMapOf (tables ++ segment_rows seq (batches_in segments active)) values
    → IsMergeOf (between from to (tables ++ merge_rows lists)) true merged → machine.AreRowsOf values from to merged
rows_of_map from to tables seq fulls segments rows active last lists merged values are ranges of_map is =
    let all : List Row = segment_rows seq (batches_in segments active) in
    let held = segments_held seq fulls segments rows active last are in
    let says : (key : List ℕ) → newest key (merge_rows lists) ≡ newest key (between from to all) = λ key.
    ranges_say from to key (rows_held fulls rows) lists ranges ∙ ap (λ (r : List Row). newest key (between from to r)) held in
    let found = ranges_are_of_maps from to (tables ++ all) merged values (merged_all from to tables (merge_rows lists) all merged says is) of_map in
    record { rise = rises merged found.rise; each = each_row values from to merged found.each; whole = found.whole }

-- ---- segment by segment

pub add_range : (from to : List ℕ) (all left lists new more : List (List Row)) (held rows : List Row) → IsRange from to held rows → new ≡ lists ++ rows ∷ []
    → ((rest : List (List Row)) → AreRanges from to (held ∷ left) rest → AreRanges from to all (lists ++ rest)) → AreRanges from to left more → AreRanges from to all (new ++ more)
add_range from to all left lists new more held rows is added along rest =
    subst (AreRanges from to all) (sym (ap (λ (l : List (List Row)). l ++ more) added ∙ append_assoc lists (rows ∷ []) more)) (along (rows ∷ more) (is, rest))
