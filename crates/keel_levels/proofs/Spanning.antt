-- The rows of a range in a table, block by block.
use Rattle.std.proofs.Common.{◌≡◌, ℕ, zero, suc, ◌+◌, Bool, true, false, not, List, [], ◌∷◌, ◌++◌, length, take, filter, Option, Some, None, Result, Ok, refl, sym, ap, subst, ◌∙◌, append_assoc, add-one, arith, lit<, lit≤}
use Rattle.std.specs.Prelude.{◌&&◌, ◌||◌, ◌==◌}
use Rattle.std.specs.List.{AllByRecursion}
use Rattle.std.proofs.lemmas.List.{append-nil}
use Rattle.std.proofs.lemmas.List.Elements.{filter-append}
use Rattle.keel_base.specs.declared.row.Kind.TheVariants as kinds
use Rattle.keel_base.specs.declared.row.Row.{Row}
use Rattle.keel_base.specs.Keys.{key_eq, key_lt, key_le}
use Rattle.keel_base.specs.Rows.{IsRow}
use Rattle.keel_base.proofs.KeyOrder.{eq_itself, lt_differs, lt_then_lt, lt_then_le, lt_is_le, le_then_le}
use Rattle.keel_disk.specs.Told.{Told}
use Rattle.keel_table.specs.declared.fault.TableFault.{TableFault}
use Rattle.keel_table.specs.declared.index.BlockEntry.{BlockEntry}
use Rattle.keel_table.specs.declared.table.Table.{Table}
use Rattle.keel_base.specs.declared.file_name.FileName.TheVariants.{Table as TableName}
use Rattle.keel_disk.specs.Told.{bytes_of}
use Rattle.keel_table.specs.Answers.{BlockAnswers}
use Rattle.keel_table.specs.Blocks.{FitEntries, IsBelow}
use Rattle.keel_table.specs.Opening.{Covering, Opened, block_found, nth_entry}
use Rattle.keel_table.specs.Spelling.{Ascend, last_key, rows_of}
use Rattle.keel_table.specs.Tables.{entries_of, number_of}
use Rattle.keel_directory.specs.Sound.{AreWhole}
use Rattle.keel_directory.specs.TableFiles.{TableFile, block_rows, table_rows}
use Rattle.keel_levels.specs.Live.{IsReadable, IsTableAs, Yields}
use Rattle.keel_levels.specs.Ranges.{AddsBlock, IsBlockOf, between, ends_range, in_range, is_between}
use Rattle.keel_levels.proofs.Causes.{by_cause, is_there, yields_more}
use Rattle.keel_table.proofs.Loops.{both_hold}
use Rattle.keel_levels.proofs.Rising.{BlockIs, block_is, block_rises, first_rows, whole_ascend}

-- ---- keys outside the range

never : (b : Bool) → (b ≡ true → ⊥) → b ≡ false
never true h = absurd (h refl)
never false h = refl

apart : (b : Bool) → b ≡ true → b ≡ false → ⊥
apart b one other = cc

not_both : (a b : List ℕ) → key_lt a b ≡ true → key_le b a ≡ true → ⊥
not_both a b lt le = apart (key_eq a a) (eq_itself a) (lt_differs a a (lt_then_le a b a lt le))

and_false : (b c : Bool) → b ≡ false → (b && c) ≡ false
and_false true c e = absurd cc
and_false false c e = refl

no_bound : (b c d : Bool) → c ≡ false → d ≡ false → (b && (c || d)) ≡ false
no_bound true c d e f = rw (e, f) refl
no_bound false c d e f = refl

is_false : (b : Bool) → not b ≡ true → b ≡ false
is_false true e = absurd cc
is_false false e = refl

below_range : (from to key : List ℕ) → key_lt key from ≡ true → in_range from to key ≡ false
below_range from to key lt = and_false (key_le from key) ((length to == 0) || key_lt key to) (never (key_le from key) (λ le. not_both key from lt le))

record IsPast (to key : List ℕ) : Type 0 where
  bound : (length to == 0) ≡ false
  over : key_le to key ≡ true

past : (to key : List ℕ) → ends_range to key ≡ true → IsPast to key
past to key e =
    let tests = both_hold (not (length to == 0)) (key_le to key) e in
    record { bound = is_false (length to == 0) tests.0; over = tests.1 }

past_range : (from to key : List ℕ) → IsPast to key → in_range from to key ≡ false
past_range from to key p = no_bound (key_le from key) (length to == 0) (key_lt key to) p.bound (never (key_lt key to) (λ lt. not_both key to lt p.over))

skip : (p : Row → Bool) (row : Row) (rows : List Row) → p row ≡ false → filter p (row ∷ rows) ≡ filter p rows
skip p row rows e = rw e refl

record Under (from to before : List ℕ) (rows : List Row) : Type 0 where
  start : key_lt before from ≡ true
  none : between from to rows ≡ []

under : (from to before : List ℕ) (rows : List Row) → Ascend before rows → key_lt (last_key before rows) from ≡ true → Under from to before rows
under from to before [] rise below = record { start = below; none = refl }
under from to before (row ∷ rows) rise below =
    let rest = under from to row.key rows rise.1 below in
    record {
      start = lt_then_lt before row.key from rise.0 rest.start;
      none = skip (is_between from to) row rows (below_range from to row.key rest.start) ∙ rest.none;
    }

over : (from to key : List ℕ) (rows : List Row) → Ascend key rows → IsPast to key → between from to rows ≡ []
over from to key [] rise p = refl
over from to key (row ∷ rows) rise p =
    let next : IsPast to row.key = record { bound = p.bound; over = le_then_le to key row.key p.over (lt_is_le key row.key rise.0) } in
    skip (is_between from to) row rows (past_range from to row.key next) ∙ over from to row.key rows rise.1 next

-- ---- blocks from one on

pub rows_from : List ℕ → List ℕ → List BlockEntry → ℕ → List Row
rows_from bytes before es zero = block_rows bytes before es
rows_from bytes before [] (suc i) = []
rows_from bytes before (e ∷ es) (suc i) = rows_from bytes e.last es i

abbrev sample : List ℕ → Row
sample key = record { seq = 0; kind = kinds.Put; key = key; value = [] }

abbrev samples : List BlockEntry → List (List Row)
samples [] = []
samples (e ∷ es) = (sample e.last ∷ []) ∷ samples es

pub samples_fit : (bytes before : List ℕ) (es : List BlockEntry) → AreWhole bytes before es → FitEntries before (samples es) es
samples_fit bytes before [] whole = tt
samples_fit bytes before (e ∷ es) whole =
    let b = block_is before e bytes whole.0 in
    let is_row : IsRow (sample e.last) = record { seq = lit< tt; least = b.rises.least; most = b.rises.most; value = lit≤ tt } in
    (record { some = omega arith; each = (is_row, tt); rise = (b.rises.over, tt); last = refl }, samples_fit bytes e.last es whole.1)

skipped : (from to bytes before : List ℕ) (es : List BlockEntry) (first : ℕ) → AreWhole bytes before es → AllByRecursion (IsBelow from) (rows_of (take first (samples es)))
    → between from to (block_rows bytes before es) ≡ between from to (rows_from bytes before es first)
unfolding rows_from
skipped from to bytes before es zero whole below = refl
skipped from to bytes before [] (suc first) whole below = refl
skipped from to bytes before (e ∷ es) (suc first) whole below =
    let b = block_is before e bytes whole.0 in
    let last : key_lt (last_key before b.rows) from ≡ true = subst (λ (k : List ℕ). key_lt k from ≡ true) (sym b.rises.ends) below.0 in
    ap (between from to) (first_rows before e es bytes b.rows b.found)
    ∙ filter-append (is_between from to) b.rows (block_rows bytes e.last es)
    ∙ ap (λ (rows : List Row). rows ++ between from to (block_rows bytes e.last es)) (under from to before b.rows b.rises.rise last).none
    ∙ skipped from to bytes e.last es first whole.1 below.1

pair_is : (before : List ℕ) (e : BlockEntry) (c : Covering) → (let x : Covering = (before, e) in let o : Option Covering = Some x in o) ≡ Some c → (let x : Covering = (before, e) in x) ≡ c
pair_is before e c h = cc

step : (bytes before : List ℕ) (es : List BlockEntry) (i : ℕ) (c : Covering) (block : List Row) → nth_entry before es i ≡ Some c → block_found c.0 c.1 bytes ≡ Ok block
    → rows_from bytes before es i ≡ block ++ rows_from bytes before es (suc i)
unfolding rows_from
step bytes before [] i c block at found = absurd cc
step bytes before (e ∷ es) zero c block at found =
    first_rows before e es bytes block (subst (λ (x : Covering). block_found x.0 x.1 bytes ≡ Ok block) (sym (pair_is before e c at)) found)
step bytes before (e ∷ es) (suc i) c block at found = step bytes e.last es i c block at found

behind : (bytes before : List ℕ) (es : List BlockEntry) (i : ℕ) (c : Covering) → AreWhole bytes before es → nth_entry before es i ≡ Some c → Ascend c.1.last (rows_from bytes before es (suc i))
unfolding rows_from
behind bytes before [] i c whole at = absurd cc
behind bytes before (e ∷ es) zero c whole at =
    subst (λ (x : Covering). Ascend x.1.last (block_rows bytes e.last es)) (pair_is before e c at) (whole_ascend bytes e.last es whole.1)
behind bytes before (e ∷ es) (suc i) c whole at = behind bytes e.last es i c whole.1 at

whole_at : (bytes before : List ℕ) (es : List BlockEntry) (i : ℕ) (c : Covering) → AreWhole bytes before es → nth_entry before es i ≡ Some c → BlockIs c.0 c.1 bytes
whole_at bytes before [] i c whole at = absurd cc
whole_at bytes before (e ∷ es) zero c whole at = subst (λ (x : Covering). BlockIs x.0 x.1 bytes) (pair_is before e c at) (block_is before e bytes whole.0)
whole_at bytes before (e ∷ es) (suc i) c whole at = whole_at bytes e.last es i c whole.1 at

all_read : (bytes before : List ℕ) (es : List BlockEntry) → rows_from bytes before es (length es) ≡ []
unfolding rows_from
all_read bytes before [] = refl
all_read bytes before (e ∷ es) = all_read bytes e.last es

-- ---- the walk over blocks

-- these rows and those of the blocks that are left are the rows of the range
pub record IsLeft (from to : List ℕ) (file : TableFile) (i : ℕ) (rows : List Row) : Type 0 where
  pub all : rows ++ between from to (rows_from file.bytes [] file.file.entries i) ≡ between from to (table_rows file)

entries_are : (file : TableFile) (table : Table) → IsTableAs file table → entries_of table ≡ file.file.entries
entries_are file table is_table = ap (λ (o : Opened). o.entries) is_table.shows

pub begins : (from to : List ℕ) (told : Told) (last_seq : ℕ) (file : TableFile) (table : Table) (first : ℕ) → IsReadable told last_seq file → IsTableAs file table
    → ((blocks : List (List Row)) → FitEntries [] blocks (entries_of table) → AllByRecursion (IsBelow from) (rows_of (take first blocks))) → IsLeft from to file first []
begins from to told last_seq file table first readable is_table below =
    let es : List BlockEntry = file.file.entries in
    let fit : FitEntries [] (samples es) (entries_of table) =
    subst (λ (xs : List BlockEntry). FitEntries [] (samples es) xs) (sym (entries_are file table is_table)) (samples_fit file.bytes [] es readable.said.whole) in
    record { all = sym (skipped from to file.bytes [] es first readable.said.whole (below (samples es) fit)) }

pub goes_on : (from to : List ℕ) (file : TableFile) (i : ℕ) (old new : List Row) (ends : Bool) → IsLeft from to file i old → AddsBlock from to i old new file ends → IsLeft from to file (i + 1) new
goes_on from to file i old new ends left adds =
    let es : List BlockEntry = file.file.entries in
    let rest : List Row = rows_from file.bytes [] es (suc i) in
    let parts : rows_from file.bytes [] es i ≡ adds.block ++ rest = step file.bytes [] es i adds.is.0 adds.block adds.is.1 adds.is.2 in
    let next : rows_from file.bytes [] es (i + 1) ≡ rest = rw add-one refl in
    record {
      all = ap (λ (rows : List Row). new ++ between from to rows) next
          ∙ ap (λ (rows : List Row). rows ++ between from to rest) adds.rows
          ∙ append_assoc old (between from to adds.block) (between from to rest)
          ∙ ap (λ (rows : List Row). old ++ rows) (sym (filter-append (is_between from to) adds.block rest))
          ∙ ap (λ (rows : List Row). old ++ between from to rows) (sym parts)
          ∙ left.all;
    }

pub stops : (from to : List ℕ) (told : Told) (last_seq : ℕ) (file : TableFile) (i : ℕ) (old new : List Row) → IsReadable told last_seq file → IsLeft from to file i old
    → AddsBlock from to i old new file true → new ≡ between from to (table_rows file)
stops from to told last_seq file i old new readable left adds =
    let es : List BlockEntry = file.file.entries in
    let rest : List Row = rows_from file.bytes [] es (suc i) in
    let c : Covering = adds.is.0 in
    let rises = block_rises c.0 c.1 file.bytes adds.block adds.is.2 in
    let end : IsPast to c.1.last = past to c.1.last (subst (λ (k : List ℕ). ends_range to k ≡ true) rises.ends (adds.stops refl c.0)) in
    let none : between from to rest ≡ [] = over from to c.1.last rest (behind file.bytes [] es i c readable.said.whole adds.is.1) end in
    let next : rows_from file.bytes [] es (i + 1) ≡ rest = rw add-one refl in
    let all = (goes_on from to file i old new true left adds).all in
    sym (append-nil new) ∙ ap (λ (rows : List Row). new ++ rows) (sym none) ∙ ap (λ (rows : List Row). new ++ between from to rows) (sym next) ∙ all

pub finishes : (from to : List ℕ) (file : TableFile) (table : Table) (i : ℕ) (rows : List Row) → IsTableAs file table → i ≡ length (entries_of table) → IsLeft from to file i rows
    → rows ≡ between from to (table_rows file)
finishes from to file table i rows is_table end left =
    let es : List BlockEntry = file.file.entries in
    let at_end : i ≡ length es = end ∙ ap length (entries_are file table is_table) in
    let none : rows_from file.bytes [] es i ≡ [] = ap (rows_from file.bytes [] es) at_end ∙ all_read file.bytes [] es in
    sym (append-nil rows) ∙ ap (λ (others : List Row). rows ++ between from to others) (sym none) ∙ left.all

-- ---- a block that is read

by_entry : (file : TableFile) (i : ℕ) (c : Option Covering) (number : ℕ) (told : Told) (result : Result (List Row) TableFault) → nth_entry [] file.file.entries i ≡ c → bytes_of (TableName number) told ≡ Some file.bytes
    → AreWhole file.bytes [] file.file.entries → BlockAnswers c number (Some told) result → Yields (IsBlockOf file i) result
by_entry file i None number told result at there whole answers = absurd answers
by_entry file i (Some c) number told result at there whole answers =
    let b = whole_at file.bytes [] file.file.entries i c whole at in
    yields_more {P = λ (rows : List Row). rows ≡ b.rows} {Q = IsBlockOf file i} (λ rows same. (c, at, b.found ∙ ap (λ (r : List Row). Ok r) (sym same))) result
    (by_cause (λ (rows : List Row). rows) (block_found c.0 c.1) (TableName number) told result file.bytes b.rows there b.found answers)

pub block_read : (told : Told) (last_seq : ℕ) (file : TableFile) (table : Table) (i : ℕ) (result : Result (List Row) TableFault) → IsReadable told last_seq file → IsTableAs file table
    → BlockAnswers (nth_entry [] (entries_of table) i) (number_of table) (Some told) result → Yields (IsBlockOf file i) result
block_read told last_seq file table i result readable is_table answers =
    let there : bytes_of (TableName (number_of table)) told ≡ Some file.bytes = ap (λ (n : ℕ). bytes_of (TableName n) told) is_table.number ∙ is_there told last_seq file readable in
    by_entry file i (nth_entry [] file.file.entries i) (number_of table) told result refl there readable.said.whole
    (subst (λ (es : List BlockEntry). BlockAnswers (nth_entry [] es i) (number_of table) (Some told) result) (entries_are file table is_table) answers)
