-- Feeding a list of a merge.
use Rattle.std.proofs.Common.{◌≡◌, ℕ, zero, suc, ◌<◌, Bool, false, List, [], ◌∷◌, ◌++◌, length, set, get_or, replicate, refl, ap, sym, subst, ◌∙◌, arith}
use Rattle.keel_base.specs.declared.row.Row.{Row}
use Rattle.keel_merge.specs.Order.{AreAscending, EachIsAscending}
use Rattle.keel_merge.specs.Merging.{rows_of, IsMergeOf}
use Rattle.keel_merge.specs.Placing.{merged}
use Rattle.keel_merge.specs.Feeding.{Waiting, MergeState, wanting, unfed, whole, IsBehind, AreBehind, IsUpTo, MayCome, with_held, to_come, IsWanting, IsNextOf, Feeds}
use Rattle.keel_merge.proofs.Placing.{merged_is}

-- ---- a list is refilled

-- the rows are put behind, and the lists as they will be stay the same
record IsFed (old new : List Waiting) (coming left : List (List Row)) : Type 0 where
  behind : AreBehind new left
  same : whole new left ≡ whole old coming

fed_here : (list : Waiting) (lists : List Waiting) (come : List Row) (coming : List (List Row)) (rows behind : List Row) (more : Bool)
    → IsBehind list come → AreBehind lists coming → list ≡ wanting → come ≡ rows ++ behind → (more ≡ false → behind ≡ [])
    → IsFed (list ∷ lists) (record { rows = rows; more = more } ∷ lists) (come ∷ coming) (behind ∷ coming)
fed_here list lists come coming rows behind more here others is splits ended =
    let all : list.rows ++ come ≡ rows ++ behind = ap (λ (w : Waiting). w.rows ++ come) is ∙ splits in
    record {
      behind = (record { ascending = subst (λ (r : List Row). AreAscending r) all here.ascending; ended = ended }, others);
      same = ap (λ (r : List Row). r ∷ whole lists coming) (sym all);
    }

fed : (lists : List Waiting) (coming : List (List Row)) (list : ℕ) (rows behind : List Row) (more : Bool) → AreBehind lists coming → list < length lists
    → get_or lists list wanting ≡ wanting → get_or coming list [] ≡ rows ++ behind → (more ≡ false → behind ≡ [])
    → IsFed lists (set lists list (record { rows = rows; more = more })) coming (set coming list behind)
fed [] coming list rows behind more all within is splits ended = absurd (omega arith)
fed (first ∷ lists) [] list rows behind more all within is splits ended = absurd all
fed (first ∷ lists) (come ∷ coming) zero rows behind more all within is splits ended =
    fed_here first lists come coming rows behind more all.0 all.1 is splits ended
fed (first ∷ lists) (come ∷ coming) (suc list) rows behind more all within is splits ended =
    let f = fed lists coming list rows behind more all.1 (omega arith) is splits ended in
    record { behind = (all.0, f.behind); same = ap (λ (l : List (List Row)). (first.rows ++ come) ∷ l) f.same }

pub feeds : (old new : MergeState) (list : ℕ) (rows behind : List Row) (more : Bool) (coming : List (List Row)) → IsWanting old.lists list
    → new ≡ record old { lists = set old.lists list (record { rows = rows; more = more }) } → MayCome old coming → IsNextOf coming list rows more behind
    → Feeds old new coming (set coming list behind)
feeds old new list rows behind more coming wants new_is may next =
    let f = fed old.lists coming list rows behind more may.behind wants.within wants.wants next.splits next.ended in
    let left : List (List Row) = set coming list behind in
    let state : MergeState = record old { lists = set old.lists list (record { rows = rows; more = more }) } in
    let fed_state : Feeds old state coming left = record {
      may_come = record { behind = f.behind; least = subst (λ (l : List (List Row)). IsUpTo old.held (rows_of l)) (sym f.same) may.least };
      same = ap (λ (l : List (List Row)). merged old.last_level (with_held old.held (rows_of l))) f.same;
    } in
    subst (λ (s : MergeState). Feeds old s coming left) (sym new_is) fed_state

-- ---- nothing was fed yet

unfed_behind : (count : ℕ) (lists : List (List Row)) → length lists ≡ count → EachIsAscending lists → AreBehind (replicate count wanting) lists
unfed_behind zero [] few each = tt
unfed_behind zero (rows ∷ lists) few each = absurd (omega arith)
unfed_behind (suc count) [] few each = absurd (omega arith)
unfed_behind (suc count) (rows ∷ lists) few each =
    (record { ascending = each.0; ended = λ h. absurd (cc) }, unfed_behind count lists (omega arith) each.1)

unfed_whole : (count : ℕ) (lists : List (List Row)) → length lists ≡ count → whole (replicate count wanting) lists ≡ lists
unfed_whole zero [] few = refl
unfed_whole zero (rows ∷ lists) few = absurd (omega arith)
unfed_whole (suc count) [] few = absurd (omega arith)
unfed_whole (suc count) (rows ∷ lists) few = ap (λ (l : List (List Row)). rows ∷ l) (unfed_whole count lists (omega arith))

pub unfed_may_come : (count : ℕ) (last_level : Bool) (merge : MergeState) → merge ≡ unfed count last_level → (lists : List (List Row)) → length lists ≡ count → EachIsAscending lists
    → MayCome merge lists
unfed_may_come count last_level merge is lists few each =
    subst (λ (s : MergeState). MayCome s lists) (sym is) (record { behind = unfed_behind count lists few each; least = tt })

pub unfed_merges : (count : ℕ) (last_level : Bool) (merge : MergeState) → merge ≡ unfed count last_level → (lists : List (List Row)) → length lists ≡ count
    → IsMergeOf (rows_of lists) last_level (to_come merge lists)
unfed_merges count last_level merge is lists few =
    subst (λ (s : MergeState). IsMergeOf (rows_of lists) last_level (to_come s lists)) (sym is)
    (subst (λ (l : List (List Row)). IsMergeOf (rows_of lists) last_level (merged last_level (rows_of l))) (sym (unfed_whole count lists few))
    (merged_is last_level (rows_of lists)))
