-- Taking the first row off one of the lists of a merge.
use Rattle.std.proofs.Common.{◌≡◌, ℕ, zero, suc, ◌+◌, ◌<◌, Bool, true, false, List, [], ◌∷◌, ◌++◌, length, set, get_or, Some, None, refl, ap, sym, subst, ◌∙◌, arith}
use Rattle.keel_base.specs.declared.row.Row.{Row}
use Rattle.keel_base.specs.Keys.{key_lt, key_le, key_eq}
use Rattle.keel_base.specs.Rows.{newest}
use Rattle.keel_base.proofs.Newest.{newest_behind, newest_of_both, newest-append}
use Rattle.keel_merge.specs.Order.{IsBeforeAll, AreAscending}
use Rattle.keel_merge.specs.Merging.{rows_of}
use Rattle.keel_merge.specs.Feeding.{Waiting, whole, IsBehind, AreBehind}
use Rattle.keel_merge.specs.Taking.{first_row, IsOver, AreOver, StandsLeast, HaveEnded, count_of, IsTaken}
use Rattle.keel_merge.proofs.Behind.{before-append, before_end, lt_before_all, lt_all_le, le_before_all}
use Rattle.keel_merge.proofs.Newer.{newest_past}

-- ---- what stands behind a key

over_lt : (key : List ℕ) (rows coming : List Row) (more : Bool) → IsOver key_lt key (first_row rows) more → AreAscending (rows ++ coming)
    → (more ≡ false → coming ≡ []) → IsBeforeAll key_lt key (rows ++ coming)
over_lt key [] coming more over ascending ended = subst (λ (r : List Row). IsBeforeAll key_lt key r) (sym (ended over)) tt
over_lt key (row ∷ rows) coming more over ascending ended = (over, lt_before_all key row.key (rows ++ coming) over ascending.0)

over_le : (key : List ℕ) (rows coming : List Row) (more : Bool) → IsOver key_le key (first_row rows) more → AreAscending (rows ++ coming)
    → (more ≡ false → coming ≡ []) → IsBeforeAll key_le key (rows ++ coming)
over_le key [] coming more over ascending ended = subst (λ (r : List Row). IsBeforeAll key_le key r) (sym (ended over)) tt
over_le key (row ∷ rows) coming more over ascending ended = (over, le_before_all key row.key (rows ++ coming) over ascending.0)

all_over : (key : List ℕ) (lists : List Waiting) (coming : List (List Row)) → AreOver key_le key lists → AreBehind lists coming
    → IsBeforeAll key_le key (rows_of (whole lists coming))
all_over key [] [] over behind = tt
all_over key [] (rows ∷ coming) over behind = absurd behind
all_over key (list ∷ lists) [] over behind = absurd behind
all_over key (list ∷ lists) (rows ∷ coming) over behind =
    before-append key_le key (list.rows ++ rows) (rows_of (whole lists coming))
    (over_le key list.rows rows list.more over.0 behind.0.ascending behind.0.ended)
    (all_over key lists coming over.1 behind.1)

-- ---- the row that is taken

-- it was one of the least key, and these lists are left
pub record IsPulled (old new : List Waiting) (coming : List (List Row)) (first : Row) : Type 0 where
  pub behind : AreBehind new coming
  pub least : IsBeforeAll key_le first.key (rows_of (whole new coming))
  pub stood : (key : List ℕ) → IsBeforeAll key_le key (rows_of (whole old coming)) → key_le key first.key ≡ true
  pub newest_is : newest first.key (rows_of (whole old coming)) ≡ newest first.key (first ∷ rows_of (whole new coming))
  pub others : (other : List ℕ) → key_eq first.key other ≡ false
      → newest other (rows_of (whole old coming)) ≡ newest other (rows_of (whole new coming))

pull_here : (list after : Waiting) (lists : List Waiting) (rows : List Row) (coming : List (List Row)) (first : Row) → IsBehind list rows → AreBehind lists coming
    → AreOver key_le first.key lists → list.rows ≡ first ∷ after.rows → after.more ≡ list.more
    → IsPulled (list ∷ lists) (after ∷ lists) (rows ∷ coming) first
pull_here list after lists rows coming first here behind over is more =
    let head_is : list.rows ++ rows ≡ first ∷ (after.rows ++ rows) = ap (λ (r : List Row). r ++ rows) is in
    let rest : List Row = rows_of (whole lists coming) in
    let ascending : AreAscending (first ∷ (after.rows ++ rows)) = subst (λ (r : List Row). AreAscending r) head_is here.ascending in
    record {
      behind = (record { ascending = ascending.1; ended = λ h. here.ended (sym more ∙ h) }, behind);
      least = before-append key_le first.key (after.rows ++ rows) rest ascending.0 (all_over first.key lists coming over behind);
      stood = λ key all. (subst (λ (r : List Row). IsBeforeAll key_le key (r ++ rest)) head_is all).0;
      newest_is = ap (λ (r : List Row). newest first.key (r ++ rest)) head_is;
      others = λ other differ. ap (λ (r : List Row). newest other (r ++ rest)) head_is ∙ newest_behind other first ((after.rows ++ rows) ++ rest) differ;
    }

pull_later : (list : Waiting) (lists new : List Waiting) (rows : List Row) (coming : List (List Row)) (first : Row) → IsBehind list rows
    → IsOver key_lt first.key (first_row list.rows) list.more → IsPulled lists new coming first → IsPulled (list ∷ lists) (list ∷ new) (rows ∷ coming) first
pull_later list lists new rows coming first here over p =
    let head : List Row = list.rows ++ rows in
    let rest : List Row = rows_of (whole lists coming) in
    let left : List Row = rows_of (whole new coming) in
    let all : IsBeforeAll key_lt first.key head = over_lt first.key list.rows rows list.more over here.ascending here.ended in
    record {
      behind = (here, p.behind);
      least = before-append key_le first.key head left (lt_all_le first.key head all) p.least;
      stood = λ key upto. p.stood key (before_end key_le key head rest upto);
      newest_is =
          newest-append first.key head rest
          ∙ ap (newest_of_both (newest first.key head)) p.newest_is
          ∙ sym (newest-append first.key head (first ∷ left))
          ∙ newest_past first.key head first left all;
      others = λ other differ.
          newest-append other head rest
          ∙ ap (newest_of_both (newest other head)) (p.others other differ)
          ∙ sym (newest-append other head left);
    }

pull : (old : List Waiting) (coming : List (List Row)) (at : ℕ) (before after : Waiting) (first : Row) → AreBehind old coming → StandsLeast old at first
    → before ≡ get_or old at before → before.rows ≡ first ∷ after.rows → after.more ≡ before.more → IsPulled old (set old at after) coming first
pull [] coming at before after first behind stands is rows more = absurd stands
pull (list ∷ lists) [] at before after first behind stands is rows more = absurd behind
pull (list ∷ lists) (come ∷ coming) zero before after first behind stands is rows more =
    pull_here list after lists come coming first behind.0 behind.1 stands.1
    (ap (λ (w : Waiting). w.rows) (sym is) ∙ rows) (more ∙ ap (λ (w : Waiting). w.more) is)
pull (list ∷ lists) (come ∷ coming) (suc at) before after first behind stands is rows more =
    pull_later list lists (set lists at after) come coming first behind.0 stands.0 (pull lists coming at before after first behind.1 stands.1 is rows more)

same_least : (old : List Waiting) (at : ℕ) (before after : Waiting) (first least : Row) → StandsLeast old at least
    → before ≡ get_or old at before → before.rows ≡ first ∷ after.rows → least ≡ first
same_least [] at before after first least stands is rows = absurd stands
same_least (list ∷ lists) zero before after first least stands is rows =
    let both : Some least ≡ Some first = sym stands.0 ∙ ap (λ (w : Waiting). first_row w.rows) (sym is) ∙ ap first_row rows in
    cc
same_least (list ∷ lists) (suc at) before after first least stands is rows = same_least lists at before after first least stands.1 is rows

pub pulled : (old new : List Waiting) (coming : List (List Row)) (first : Row) → IsTaken old new first → AreBehind old coming → IsPulled old new coming first
pulled old new coming first t behind =
    let same : t.least ≡ first = same_least old t.at t.before t.after first t.least t.stands t.stood t.rows in
    subst (λ (l : List Waiting). IsPulled old l coming first) (sym t.new_is)
    (pull old coming t.at t.before t.after first behind (subst (λ (r : Row). StandsLeast old t.at r) same t.stands) t.stood t.rows t.more)

-- ---- how many rows are left

count_set : (old : List Waiting) (at : ℕ) (before after : Waiting) (first : Row) → at < length old → before ≡ get_or old at before → before.rows ≡ first ∷ after.rows
    → count_of (set old at after) + 1 ≡ count_of old
count_set [] at before after first within is rows = absurd (omega arith)
count_set (list ∷ lists) zero before after first within is rows =
    let one : length list.rows ≡ length (first ∷ after.rows) = ap length (ap (λ (w : Waiting). w.rows) (sym is) ∙ rows) in
    omega arith
count_set (list ∷ lists) (suc at) before after first within is rows =
    let more : count_of (set lists at after) + 1 ≡ count_of lists = count_set lists at before after first (omega arith) is rows in
    omega arith

pub one_less : (old new : List Waiting) (first : Row) → IsTaken old new first → count_of new + 1 ≡ count_of old
one_less old new first t =
    ap (λ (l : List Waiting). count_of l + 1) t.new_is ∙ count_set old t.at t.before t.after first t.within t.stood t.rows

-- ---- lists that have ended

pub no_row : (rows : List Row) → first_row rows ≡ None → rows ≡ []
no_row [] none = refl
no_row (row ∷ rows) none = cc

record HasEnded (list : Waiting) (rows : List Row) : Type 0 where
  waits : list.rows ++ rows ≡ []
  comes : rows ≡ []

has_ended : (list : Waiting) (rows : List Row) → first_row list.rows ≡ None → list.more ≡ false → IsBehind list rows → HasEnded list rows
has_ended list rows none ended behind =
    let comes : rows ≡ [] = behind.ended ended in
    record { waits = ap (λ (r : List Row). r ++ rows) (no_row list.rows none) ∙ comes; comes = comes }

pub nothing_waits : (lists : List Waiting) (coming : List (List Row)) → HaveEnded lists → AreBehind lists coming → rows_of (whole lists coming) ≡ []
nothing_waits [] coming ended behind = refl
nothing_waits (list ∷ lists) [] ended behind = absurd behind
nothing_waits (list ∷ lists) (rows ∷ coming) ended behind =
    ap (λ (r : List Row). r ++ rows_of (whole lists coming)) (has_ended list rows ended.0.0 ended.0.1 behind.0).waits ∙ nothing_waits lists coming ended.1 behind.1

pub nothing_comes : (lists : List Waiting) (coming : List (List Row)) → HaveEnded lists → AreBehind lists coming → rows_of coming ≡ []
nothing_comes [] [] ended behind = refl
nothing_comes [] (rows ∷ coming) ended behind = absurd behind
nothing_comes (list ∷ lists) [] ended behind = absurd behind
nothing_comes (list ∷ lists) (rows ∷ coming) ended behind =
    ap (λ (r : List Row). r ++ rows_of coming) (has_ended list rows ended.0.0 ended.0.1 behind.0).comes ∙ nothing_comes lists coming ended.1 behind.1
