-- A table that was just made opens as the draft that it is of.
use Rattle.std.proofs.Common.{◌≡◌, ℕ, ◌≤◌, List, [], ◌∷◌, length, Ok, refl, ap, subst, sym, ◌∙◌}
use Rattle.std.specs.Prelude.{Result}
use Rattle.std.specs.List.{AllByRecursion}
use Rattle.keel_base.specs.declared.limits.TheConstants.{LAST_NUMBER}
use Rattle.keel_base.specs.declared.row.Row.{Row}
use Rattle.keel_base.specs.Rows.{IsRow}
use Rattle.keel_directory.specs.Sound.{first_key}
use Rattle.keel_directory.specs.TableFiles.{rows_found}
use Rattle.keel_mem.specs.Totals.{least_seq, greatest_seq}
use Rattle.keel_table.specs.declared.index.BlockEntry.{BlockEntry}
use Rattle.keel_table.specs.declared.index.Footer.{Footer}
use Rattle.keel_table.specs.Laws.{AreWhole}
use Rattle.keel_table.specs.Opening.{Damage, Opened, opened, opened_with}
use Rattle.keel_table.specs.Spelling.{Ascend, IsTableOf, entries_from, footer_of, last_key}
use Rattle.keel_table.proofs.Opens.{tables_open_law}
use Rattle.keel_table.proofs.Sizes.{tables_are_small}
use Rattle.keel_draft.specs.Drafts.{AreNewestOf, Draft, IsTableFor}
use Rattle.keel_draft.specs.TablesInMemory.{HoldsDraft, blocks_at, draft_in}

blocks_whole : (bytes before : List ℕ) (entries : List BlockEntry) (blocks : List (List Row)) → AreWhole bytes before entries blocks → blocks_at bytes before entries ≡ blocks
blocks_whole bytes before [] [] h = refl
blocks_whole bytes before [] (block ∷ blocks) h = absurd h
blocks_whole bytes before (e ∷ es) [] h = absurd h
blocks_whole bytes before (e ∷ es) (block ∷ blocks) h =
    ap (λ (r : Result (List Row) Damage). rows_found r ∷ blocks_at bytes e.last es) h.0 ∙ ap (λ (bs : List (List Row)). block ∷ bs) (blocks_whole bytes e.last es blocks h.1)

-- the draft with these blocks
abbrev made_of : List Row → List (List Row) → Draft
made_of all blocks = record { first = least_seq all; last = greatest_seq all; blocks = blocks }

-- what a table was opened as
record IsOpened (all rows : List Row) (bytes : List ℕ) (footer : Footer) (entries : List BlockEntry) (table : IsTableOf (least_seq all) (greatest_seq all) rows bytes) : Type 0 where
  footer_is : footer ≡ footer_of (least_seq all) (greatest_seq all) table.blocks
  entries_are : entries ≡ entries_from 0 table.blocks
  draft_is : draft_in bytes footer entries ≡ made_of all table.blocks

opened_is : (all rows : List Row) (bytes : List ℕ) (footer : Footer) (entries : List BlockEntry) (table : IsTableOf (least_seq all) (greatest_seq all) rows bytes)
    → opened (length bytes) bytes ≡ Ok (opened_with footer entries) → IsOpened all rows bytes footer entries table
opened_is all rows bytes footer entries table h =
    let law = tables_open_law (least_seq all) (greatest_seq all) rows bytes table in
    let opens = law.opens in
    let same : opened_with footer entries ≡ opened_with (footer_of (least_seq all) (greatest_seq all) table.blocks) (entries_from 0 table.blocks) = cc in
    let footer_same : footer ≡ footer_of (least_seq all) (greatest_seq all) table.blocks = ap (λ (o : Opened). o.footer) same in
    let entries_same : entries ≡ entries_from 0 table.blocks = ap (λ (o : Opened). o.entries) same in
    record {
      footer_is = footer_same;
      entries_are = entries_same;
      draft_is =
          ap (λ (f : Footer). draft_in bytes f entries) footer_same
          ∙ ap (λ (es : List BlockEntry). draft_in bytes (footer_of (least_seq all) (greatest_seq all) table.blocks) es) entries_same
          ∙ ap (made_of all) (blocks_whole bytes [] (entries_from 0 table.blocks) table.blocks law.whole);
    }

pub drafted : (all rows : List Row) (bytes least greatest : List ℕ) (footer : Footer) (entries : List BlockEntry) → IsTableOf (least_seq all) (greatest_seq all) rows bytes
    → opened (length bytes) bytes ≡ Ok (opened_with footer entries) → least ≡ first_key rows → greatest ≡ last_key [] rows
    → HoldsDraft bytes footer entries least greatest (draft_in bytes footer entries)
drafted all rows bytes least greatest footer entries table h least_is greatest_is =
    let o = opened_is all rows bytes footer entries table h in
    subst (HoldsDraft bytes footer entries least greatest) (sym o.draft_is)
    (record {
      bytes_are = table.spelled;
      footer_is = o.footer_is;
      entries_are = o.entries_are;
      least_is = least_is ∙ ap first_key table.joined;
      greatest_is = greatest_is ∙ ap (last_key []) table.joined;
    })

pub is_table_for : (all rows : List Row) (bytes : List ℕ) (footer : Footer) (entries : List BlockEntry) → AreNewestOf all rows → IsTableOf (least_seq all) (greatest_seq all) rows bytes
    → opened (length bytes) bytes ≡ Ok (opened_with footer entries) → IsTableFor all (draft_in bytes footer entries)
is_table_for all rows bytes footer entries newest table h =
    let o = opened_is all rows bytes footer entries table h in
    let small : length bytes ≤ LAST_NUMBER = (tables_are_small (least_seq all) (greatest_seq all) rows bytes table).0 in
    subst (IsTableFor all) (sym o.draft_is)
    (record {
      first = refl;
      last = refl;
      newest = subst (AreNewestOf all) table.joined newest;
      table = record {
        each = subst (λ (rs : List Row). AllByRecursion IsRow rs) table.joined table.each;
        rise = subst (λ (rs : List Row). Ascend [] rs) table.joined table.rise;
        blocks = table.blocks;
        joined = refl;
        cut = table.cut;
        fits = table.fits;
        spelled = refl;
      };
      blocks = refl;
      size = subst (λ (b : List ℕ). length b ≤ LAST_NUMBER) table.spelled small;
    })
