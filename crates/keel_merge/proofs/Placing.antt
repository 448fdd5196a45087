-- The merge that puts each row at its place is one.
use Rattle.std.proofs.Common.{◌≡◌, ℕ, Bool, true, false, List, [], ◌∷◌, Some, None, refl, ap, sym, subst, ◌∙◌}
use Rattle.std.specs.Bool.{if◌then◌else◌}
use Rattle.std.specs.List.{filter}
use Rattle.std.specs.declared.cmp.Ordering.{Ordering}
use Rattle.std.specs.declared.cmp.Ordering.TheVariants.{Less, Equal, Greater}
use Rattle.std.specs.Ordering.{is_lt, ordering_reverse}
use Rattle.std.proofs.lemmas.Cmp.{nat_list_cmp_total}
use Rattle.std.proofs.lemmas.Map.Lookups.{exact_bytes}
use Rattle.keel_base.specs.declared.row.Row.{Row}
use Rattle.keel_base.specs.Keys.{key_cmp, key_lt, key_eq}
use Rattle.keel_base.specs.Rows.{newer, newest}
use Rattle.keel_merge.specs.Order.{IsBeforeAll, AreStrictlyAscending}
use Rattle.keel_merge.specs.Merging.{stays, staying, IsMergeOf}
use Rattle.keel_merge.specs.Placing.{placed, place, newest_rows, merged}
use Rattle.keel_base.proofs.KeyOrder.{eq_same, eq_turned, lt_differs}
use Rattle.keel_base.proofs.Newest.{newest_here, newest_behind, newest_cons}
use Rattle.keel_merge.proofs.Behind.{lt_lt_all}
use Rattle.keel_merge.proofs.Newer.{newest_none, newest_two, newer_of_key}

turned : (a b : List ℕ) → key_cmp a b ≡ Greater → key_lt b a ≡ true
turned a b e = ap is_lt (nat_list_cmp_total.antisymm b a ∙ ap ordering_reverse e)

-- what is placed behind a key stays behind it
before_placed : (key : List ℕ) (row other : Row) (rows behind : List Row) (o : Ordering) → key_cmp row.key other.key ≡ o
    → key_lt key row.key ≡ true → IsBeforeAll key_lt key (other ∷ rows) → IsBeforeAll key_lt key behind → IsBeforeAll key_lt key (placed o row other rows behind)
before_placed key row other rows behind Less e lt all more = (lt, all)
before_placed key row other rows behind Equal e lt all more =
    (subst (λ (k : List ℕ). key_lt key k ≡ true) (sym (newer_of_key row other (exact_bytes row.key other.key e))) lt, all.1)
before_placed key row other rows behind Greater e lt all more = (all.0, more)

before_place : (key : List ℕ) (row : Row) (rows : List Row) → key_lt key row.key ≡ true → IsBeforeAll key_lt key rows → IsBeforeAll key_lt key (place row rows)
before_place key row [] lt all = (lt, tt)
before_place key row (other ∷ rows) lt all =
    before_placed key row other rows (place row rows) (key_cmp row.key other.key) refl lt all (before_place key row rows lt all.1)

before_newest : (key : List ℕ) (rows : List Row) → IsBeforeAll key_lt key rows → IsBeforeAll key_lt key (newest_rows rows)
before_newest key [] all = tt
before_newest key (row ∷ rows) all = before_place key row (newest_rows rows) all.0 (before_newest key rows all.1)

-- placing keeps the order
ascending_placed : (row other : Row) (rows behind : List Row) (o : Ordering) → key_cmp row.key other.key ≡ o
    → AreStrictlyAscending (other ∷ rows) → (key_lt other.key row.key ≡ true → IsBeforeAll key_lt other.key behind) → AreStrictlyAscending behind
    → AreStrictlyAscending (placed o row other rows behind)
ascending_placed row other rows behind Less e all before more =
    let lt : key_lt row.key other.key ≡ true = ap is_lt e in
    ((lt, lt_lt_all row.key other.key rows lt all.0), all)
ascending_placed row other rows behind Equal e all before more =
    let same : row.key ≡ other.key = exact_bytes row.key other.key e in
    (subst (λ (k : List ℕ). IsBeforeAll key_lt k rows) (sym (newer_of_key row other same ∙ same)) all.0, all.1)
ascending_placed row other rows behind Greater e all before more = (before (turned row.key other.key e), more)

ascending_place : (row : Row) (rows : List Row) → AreStrictlyAscending rows → AreStrictlyAscending (place row rows)
ascending_place row [] all = (tt, tt)
ascending_place row (other ∷ rows) all =
    ascending_placed row other rows (place row rows) (key_cmp row.key other.key) refl all
    (λ lt. before_place other.key row rows lt all.0) (ascending_place row rows all.1)

ascending_newest : (rows : List Row) → AreStrictlyAscending (newest_rows rows)
ascending_newest [] = tt
ascending_newest (row ∷ rows) = ascending_place row (newest_rows rows) (ascending_newest rows)

-- placing a row is as good as putting it in front
swapped : (key : List ℕ) (row other : Row) (rows : List Row) (b : Bool) → key_eq row.key key ≡ b → key_eq row.key other.key ≡ false
    → newest key (other ∷ row ∷ rows) ≡ newest key (row ∷ other ∷ rows)
swapped key row other rows true e differ =
    let is : row.key ≡ key = eq_same row.key key e in
    let apart : key_eq other.key key ≡ false = subst (λ (k : List ℕ). key_eq other.key k ≡ false) is (eq_turned row.key other.key differ) in
    newest_behind key other (row ∷ rows) apart ∙ newest_cons key row rows (other ∷ rows) (sym (newest_behind key other rows apart))
swapped key row other rows false e differ =
    newest_cons key other (row ∷ rows) rows (newest_behind key row rows e) ∙ sym (newest_behind key row (other ∷ rows) e)

newest_placed : (key : List ℕ) (row other : Row) (rows behind : List Row) (o : Ordering) → key_cmp row.key other.key ≡ o
    → newest key behind ≡ newest key (row ∷ rows) → newest key (placed o row other rows behind) ≡ newest key (row ∷ other ∷ rows)
newest_placed key row other rows behind Less e more = refl
newest_placed key row other rows behind Equal e more = sym (newest_two key row other rows (exact_bytes row.key other.key e))
newest_placed key row other rows behind Greater e more =
    newest_cons key other behind (row ∷ rows) more
    ∙ swapped key row other rows (key_eq row.key key) refl (lt_differs other.key row.key (turned row.key other.key e))

newest_place : (key : List ℕ) (row : Row) (rows : List Row) → newest key (place row rows) ≡ newest key (row ∷ rows)
newest_place key row [] = refl
newest_place key row (other ∷ rows) =
    newest_placed key row other rows (place row rows) (key_cmp row.key other.key) refl (newest_place key row rows)

newest_newest : (key : List ℕ) (rows : List Row) → newest key (newest_rows rows) ≡ newest key rows
newest_newest key [] = refl
newest_newest key (row ∷ rows) = newest_place key row (newest_rows rows) ∙ newest_cons key row (newest_rows rows) rows (newest_newest key rows)

-- leaving rows out

left_out : (last_level : Bool) (row : Row) (rows : List Row) → stays last_level row ≡ false → filter (stays last_level) (row ∷ rows) ≡ filter (stays last_level) rows
left_out last_level row rows e = ap (λ (b : Bool). if b then row ∷ filter (stays last_level) rows else filter (stays last_level) rows) e

left_in : (last_level : Bool) (row : Row) (rows : List Row) → stays last_level row ≡ true → filter (stays last_level) (row ∷ rows) ≡ row ∷ filter (stays last_level) rows
left_in last_level row rows e = ap (λ (b : Bool). if b then row ∷ filter (stays last_level) rows else filter (stays last_level) rows) e

before_filter : (last_level : Bool) (key : List ℕ) (rows : List Row) → IsBeforeAll key_lt key rows → IsBeforeAll key_lt key (filter (stays last_level) rows)
before_filter last_level key [] all = tt
before_filter last_level key (row ∷ rows) all =
    elim (stays last_level row) as (λ (b : Bool). IsBeforeAll key_lt key (if b then row ∷ filter (stays last_level) rows else filter (stays last_level) rows)) [
      | true ↦ (all.0, before_filter last_level key rows all.1)
      | false ↦ before_filter last_level key rows all.1
    ]

ascending_filter : (last_level : Bool) (rows : List Row) → AreStrictlyAscending rows → AreStrictlyAscending (filter (stays last_level) rows)
ascending_filter last_level [] all = tt
ascending_filter last_level (row ∷ rows) all =
    elim (stays last_level row) as (λ (b : Bool). AreStrictlyAscending (if b then row ∷ filter (stays last_level) rows else filter (stays last_level) rows)) [
      | true ↦ (before_filter last_level row.key rows all.0, ascending_filter last_level rows all.1)
      | false ↦ ascending_filter last_level rows all.1
    ]

pub staying_row : (last_level : Bool) (row : Row) → stays last_level row ≡ true → staying last_level (Some row) ≡ Some row
staying_row last_level row e = ap (λ (b : Bool). if b then Some row else None) e

pub staying_none : (last_level : Bool) (row : Row) → stays last_level row ≡ false → staying last_level (Some row) ≡ None
staying_none last_level row e = ap (λ (b : Bool). if b then Some row else None) e

filter_by_key : (last_level : Bool) (key : List ℕ) (row : Row) (rows : List Row) (b kept : Bool) → key_eq row.key key ≡ b → stays last_level row ≡ kept
    → IsBeforeAll key_lt row.key rows → newest key (filter (stays last_level) rows) ≡ staying last_level (newest key rows)
    → newest key (filter (stays last_level) (row ∷ rows)) ≡ staying last_level (newest key (row ∷ rows))
filter_by_key last_level key row rows true true e keeps all more =
    let none : newest key rows ≡ None = newest_none key rows (subst (λ (k : List ℕ). IsBeforeAll key_lt k rows) (eq_same row.key key e) all) in
    ap (newest key) (left_in last_level row rows keeps)
    ∙ newest_here key row (filter (stays last_level) rows) e
    ∙ ap (newer row) (more ∙ ap (staying last_level) none)
    ∙ sym (ap (staying last_level) (newest_here key row rows e ∙ ap (newer row) none) ∙ staying_row last_level row keeps)
filter_by_key last_level key row rows true false e keeps all more =
    let none : newest key rows ≡ None = newest_none key rows (subst (λ (k : List ℕ). IsBeforeAll key_lt k rows) (eq_same row.key key e) all) in
    ap (newest key) (left_out last_level row rows keeps)
    ∙ more ∙ ap (staying last_level) none
    ∙ sym (ap (staying last_level) (newest_here key row rows e ∙ ap (newer row) none) ∙ staying_none last_level row keeps)
filter_by_key last_level key row rows false true e keeps all more =
    ap (newest key) (left_in last_level row rows keeps)
    ∙ newest_behind key row (filter (stays last_level) rows) e
    ∙ more ∙ ap (staying last_level) (sym (newest_behind key row rows e))
filter_by_key last_level key row rows false false e keeps all more =
    ap (newest key) (left_out last_level row rows keeps)
    ∙ more ∙ ap (staying last_level) (sym (newest_behind key row rows e))

newest_filter : (last_level : Bool) (key : List ℕ) (rows : List Row) → AreStrictlyAscending rows
    → newest key (filter (stays last_level) rows) ≡ staying last_level (newest key rows)
newest_filter last_level key [] all = refl
newest_filter last_level key (row ∷ rows) all =
    filter_by_key last_level key row rows (key_eq row.key key) (stays last_level row) refl refl all.0 (newest_filter last_level key rows all.1)

-- the merge

pub merged_nothing : (last_level : Bool) → merged last_level [] ≡ []
unfolding merged
merged_nothing last_level = refl

pub merged_is : (last_level : Bool) (rows : List Row) → IsMergeOf rows last_level (merged last_level rows)
unfolding merged
merged_is last_level rows = record {
  ascending = ascending_filter last_level (newest_rows rows) (ascending_newest rows);
  newest_of_each = λ key. newest_filter last_level key (newest_rows rows) (ascending_newest rows) ∙ ap (staying last_level) (newest_newest key rows);
}

pub merged_behind : (last_level : Bool) (key : List ℕ) (rows : List Row) → IsBeforeAll key_lt key rows → IsBeforeAll key_lt key (merged last_level rows)
unfolding merged
merged_behind last_level key rows all = before_filter last_level key (newest_rows rows) (before_newest key rows all)
