-- The rows of a range in tables, one table after the other, and what their merge says.
use Rattle.std.proofs.Common.{◌≡◌, ℕ, ◌+◌, ◌<◌, Bool, true, false, cond, List, [], ◌∷◌, ◌++◌, length, get_or, take, filter, Option, None, Result, refl, sym, ap, subst, ◌∙◌, append_assoc, add-one}
use Rattle.std.specs.List.{AllByRecursion}
use Rattle.std.proofs.Math.ListN.{set}
use Rattle.std.proofs.lemmas.List.Elements.{filter-append}
use Rattle.keel_base.specs.declared.row.Row.{Row}
use Rattle.keel_base.specs.Keys.{key_lt, key_le, key_eq}
use Rattle.keel_base.specs.Rows.{newer, newest}
use Rattle.keel_base.proofs.KeyOrder.{eq_same}
use Rattle.keel_base.proofs.Newest.{newest-append, newest_here, newest_behind}
use Rattle.keel_disk.specs.Told.{Told}
use Rattle.keel_merge.specs.Merging.{IsMergeOf, staying}
use Rattle.keel_merge.specs.Merging.{rows_of as merge_rows}
use Rattle.keel_merge.specs.Order.{IsBeforeAll, AreOrdered, AreAscending, EachIsAscending}
use Rattle.keel_merge.proofs.Behind.{lt_all_le}
use Rattle.keel_table.specs.declared.fault.TableFault.{TableFault}
use Rattle.keel_table.specs.Spelling.{Ascend}
use Rattle.keel_directory.specs.TableFiles.{TableFile, table_rows}
use Rattle.keel_levels.specs.declared.live.LiveTable.{LiveTable}
use Rattle.keel_levels.specs.Live.{AreOpened, AreReadable, IsLiveAs, IsReadable, Yields, rows_of}
use Rattle.keel_levels.specs.Newest.{newest_of_both}
use Rattle.keel_levels.specs.Ranges.{between, in_range, is_between, lists_between}
use Rattle.keel_levels.proofs.Causes.{yields_more}
use Rattle.keel_levels.proofs.Finding.{all_over}
use Rattle.keel_levels.proofs.Ranging.{rows_rise}
use Rattle.keel_levels.proofs.Turning.{at}

-- ---- the walk over tables

-- the lists of so many first tables
pub record ListsIn (from to : List ℕ) (i : ℕ) (lives : List LiveTable) (files : List TableFile) (lists : List (List Row)) : Type 0 where
  pub opened : AreOpened lives files
  pub is : lists ≡ lists_between from to (take i files)

pub record Adds (from to : List ℕ) (i : ℕ) (lives : List LiveTable) (files : List TableFile) (lists : List (List Row)) (result : Result (List Row) TableFault) : Type 0 where
  pub opened : AreOpened lives files
  pub says : Yields (λ rows. lists ++ rows ∷ [] ≡ lists_between from to (take (i + 1) files)) result

lists-append : (from to : List ℕ) (a : List TableFile) (file : TableFile) → lists_between from to (a ++ file ∷ []) ≡ lists_between from to a ++ between from to (table_rows file) ∷ []
lists-append from to [] file = refl
lists-append from to (x ∷ a) file = ap (λ (lists : List (List Row)). between from to (table_rows x) ∷ lists) (lists-append from to a file)

pub adds : (from to : List ℕ) (i : ℕ) (lives : List LiveTable) (live after d : LiveTable) (files : List TableFile) (told : Told) (lists : List (List Row)) (result : Result (List Row) TableFault)
    → i < length lives → live ≡ get_or lives i d → AreReadable told files → ListsIn from to i lives files lists
    → ((last_seq : ℕ) (file : TableFile) → IsReadable told last_seq file → IsLiveAs file live → IsLiveAs file after × Yields (λ rows. rows ≡ between from to (table_rows file)) result)
    → Adds from to i (set lives i after) files lists result
adds from to i lives live after d files told lists result lt is readable along reads =
    let a = at lives files i live d lt is along.opened in
    let r = reads readable.last_seq a.0 (a.1.readable told readable.last_seq readable.each) a.1.is in
    let next : take (i + 1) files ≡ take i files ++ a.0 ∷ [] = rw add-one a.1.firsts in
    let all : lists ++ between from to (table_rows a.0) ∷ [] ≡ lists_between from to (take (i + 1) files) =
    ap (λ (others : List (List Row)). others ++ between from to (table_rows a.0) ∷ []) along.is ∙ sym (ap (lists_between from to) next ∙ lists-append from to (take i files) a.0) in
    record {
      opened = a.1.kept after r.0;
      says = yields_more {P = λ (rows : List Row). rows ≡ between from to (table_rows a.0)} {Q = λ (rows : List Row). lists ++ rows ∷ [] ≡ lists_between from to (take (i + 1) files)}
          (λ rows same. ap (λ (r : List Row). lists ++ r ∷ []) same ∙ all) result r.1;
    }

-- ---- the merge of the range

before_kept : (p : Row → Bool) (before : List ℕ → List ℕ → Bool) (key : List ℕ) (rows : List Row) → IsBeforeAll before key rows → IsBeforeAll before key (filter p rows)
before_kept p before key [] all = tt
before_kept p before key (row ∷ rows) all =
    let rest = before_kept p before key rows all.1 in
    elim (p row) as (λ b. IsBeforeAll before key (cond b (row ∷ filter p rows) (filter p rows))) [ true ↦ (all.0, rest) | false ↦ rest ]

ordered_kept : (p : Row → Bool) (before : List ℕ → List ℕ → Bool) (rows : List Row) → AreOrdered before rows → AreOrdered before (filter p rows)
ordered_kept p before [] all = tt
ordered_kept p before (row ∷ rows) all =
    let rest = ordered_kept p before rows all.1 in
    elim (p row) as (λ b. AreOrdered before (cond b (row ∷ filter p rows) (filter p rows))) [ true ↦ (before_kept p before row.key rows all.0, rest) | false ↦ rest ]

ascending : (key : List ℕ) (rows : List Row) → Ascend key rows → AreAscending rows
ascending key [] rise = tt
ascending key (row ∷ rows) rise = (lt_all_le row.key rows (all_over row.key rows rise.1), ascending row.key rows rise.1)

each_ascends : (from to : List ℕ) (told : Told) (last_seq : ℕ) (files : List TableFile) (front : List (List Row)) → AllByRecursion (IsReadable told last_seq) files → EachIsAscending front
    → EachIsAscending (lists_between from to files ++ front)
each_ascends from to told last_seq [] front readable rise = rise
each_ascends from to told last_seq (file ∷ files) front readable rise =
    (ordered_kept (is_between from to) key_le (table_rows file) (ascending [] (table_rows file) (rows_rise last_seq file readable.0.said)), each_ascends from to told last_seq files front readable.1 rise)

joined : (from to : List ℕ) (files : List TableFile) (front : List (List Row)) → merge_rows (lists_between from to files ++ front) ≡ between from to (rows_of files) ++ merge_rows front
joined from to [] front = refl
joined from to (file ∷ files) front =
    ap (λ (rows : List Row). between from to (table_rows file) ++ rows) (joined from to files front)
    ∙ sym (append_assoc (between from to (table_rows file)) (between from to (rows_of files)) (merge_rows front))
    ∙ ap (λ (rows : List Row). rows ++ merge_rows front) (sym (filter-append (is_between from to) (table_rows file) (rows_of files)))

-- in the range the newest stays, and outside there is none
by_both : (b c d : Bool) (key : List ℕ) (row : Row) (rows kept : List Row) → key_eq row.key key ≡ b → (b ≡ true → c ≡ d) → newest key kept ≡ cond d (newest key rows) None
    → newest key (cond c (row ∷ kept) kept) ≡ cond d (newest key (row ∷ rows)) None
by_both true true true key row rows kept e same rest = newest_here key row kept e ∙ ap (newer row) rest ∙ sym (newest_here key row rows e)
by_both true true false key row rows kept e same rest = absurd (let f : true ≡ false = same refl in cc)
by_both true false true key row rows kept e same rest = absurd (let f : false ≡ true = same refl in cc)
by_both true false false key row rows kept e same rest = rest
by_both false true d key row rows kept e same rest = newest_behind key row kept e ∙ rest ∙ ap (λ (o : Option Row). cond d o None) (sym (newest_behind key row rows e))
by_both false false d key row rows kept e same rest = rest ∙ ap (λ (o : Option Row). cond d o None) (sym (newest_behind key row rows e))

never : (b : Bool) → (let o : Option Row = None in o) ≡ cond b None None
never true = refl
never false = refl

pub kept_newest : (from to key : List ℕ) (rows : List Row) → newest key (between from to rows) ≡ cond (in_range from to key) (newest key rows) None
kept_newest from to key [] = never (in_range from to key)
kept_newest from to key (row ∷ rows) =
    by_both (key_eq row.key key) (is_between from to row) (in_range from to key) key row rows (between from to rows) refl (λ same. ap (in_range from to) (eq_same row.key key same)) (kept_newest from to key rows)

within : (from to key : List ℕ) (tables memory merged : List Row) (r : Bool) → in_range from to key ≡ r → newest key merged ≡ staying true (newest key (between from to tables ++ memory))
    → cond r (newest key merged) None ≡ staying true (cond r (newest key (tables ++ memory)) None)
within from to key tables memory merged true e is =
    let same : newest key (between from to tables) ≡ newest key tables = kept_newest from to key tables ∙ ap (λ (b : Bool). cond b (newest key tables) None) e in
    is ∙ ap (staying true) (newest-append key (between from to tables) memory ∙ ap (λ (o : Option Row). newest_of_both o (newest key memory)) same ∙ sym (newest-append key tables memory))
within from to key tables memory merged false e is = refl

pub merged_range : (from to : List ℕ) (files : List TableFile) (lists front : List (List Row)) (merged rows : List Row) → lists ≡ lists_between from to files → IsMergeOf (merge_rows (lists ++ front)) true merged
    → rows ≡ between from to merged → IsMergeOf (between from to (rows_of files ++ merge_rows front)) true rows
merged_range from to files lists front merged rows are is kept =
    let tables : List Row = rows_of files in
    let memory : List Row = merge_rows front in
    let all : merge_rows (lists ++ front) ≡ between from to tables ++ memory = ap (λ (ls : List (List Row)). merge_rows (ls ++ front)) are ∙ joined from to files front in
    subst (IsMergeOf (between from to (tables ++ memory)) true) (sym kept)
    (record {
      ascending = ordered_kept (is_between from to) key_lt merged is.ascending;
      newest_of_each = λ key.
          kept_newest from to key merged
          ∙ within from to key tables memory merged (in_range from to key) refl (is.newest_of_each key ∙ ap (λ (rs : List Row). staying true (newest key rs)) all)
          ∙ ap (staying true) (sym (kept_newest from to key (tables ++ memory)));
    })

pub each_ascends_of : (from to : List ℕ) (told : Told) (files : List TableFile) (lists front : List (List Row)) → AreReadable told files → lists ≡ lists_between from to files → EachIsAscending front → EachIsAscending (lists ++ front)
each_ascends_of from to told files lists front readable are rise =
    subst (λ (ls : List (List Row)). EachIsAscending (ls ++ front)) (sym are) (each_ascends from to told readable.last_seq files front readable.each rise)
