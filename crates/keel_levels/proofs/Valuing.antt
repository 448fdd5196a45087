-- The merge of a range, and the map that all rows say.
use Rattle.std.proofs.Common.{◌≡◌, ℕ, zero, suc, ◌<◌, Bool, true, false, cond, ltb, List, [], ◌∷◌, length, get_or, map, Option, Some, None, Contains, refl, sym, ap, subst, ◌∙◌, arith}
use Rattle.std.specs.Prelude.{All, not}
use Rattle.std.proofs.lemmas.List.Elements.{All-head, All-tail}
use Rattle.std.specs.List.{AllByRecursion}
use Rattle.keel_base.specs.declared.row.Kind.{Kind}
use Rattle.keel_base.specs.declared.row.Kind.TheVariants as kinds
use Rattle.keel_base.specs.declared.row.Row.{Row}
use Rattle.keel_base.specs.Keys.{key_eq}
use Rattle.keel_base.specs.Points.{Values}
use Rattle.keel_base.specs.Rows.{IsMapOf, kept, newer, newest, value_left}
use Rattle.keel_base.proofs.KeyOrder.{eq_same}
use Rattle.keel_merge.specs.Laws.{IsKept}
use Rattle.keel_merge.specs.Merging.{stays, is_delete}
use Rattle.keel_merge.specs.Order.{AreStrictlyAscending}
use Rattle.keel_merge.proofs.Having.{has_the_newest}
use Rattle.keel_levels.specs.Laws.{RangesAreOfMaps}
use Rattle.keel_levels.specs.Ranges.{IsRowOf, Rise, between, in_range}
use Rattle.keel_levels.proofs.Listing.{kept_newest}

rises : (rows : List Row) → AreStrictlyAscending rows → Rise rows
rises [] all = tt
rises (row ∷ []) all = tt
rises (row ∷ next ∷ rows) all = (all.0.0, rises (next ∷ rows) all.1)

by_parts : {P : Row → Type 0} {Q : Row → Type 0} → ((row : Row) → P row → Q row) → (rows : List Row) → All P rows → AllByRecursion Q rows
by_parts f [] all = tt
by_parts {P} f (row ∷ rows) all = (f row (All-head P row rows all), by_parts {P = P} f rows (All-tail P row rows all))

record IsInside (r : Bool) (found : Option Row) (row : Row) : Type 0 where
  inside : r ≡ true
  is : found ≡ Some row

inside_of : (r : Bool) (found : Option Row) (row : Row) → cond r found None ≡ Some row → IsInside r found row
inside_of true found row e = record { inside = refl; is = e }
inside_of false found row e = absurd cc

put_kept : (row : Row) (kind : Kind) → row.kind ≡ kind → stays true row ≡ true → kept row.kind row.value ≡ Some row.value
put_kept row kinds.Put is e = ap (λ (k : Kind). kept k row.value) is
put_kept row kinds.Del is e = absurd (deleted row is e)
  where
    deleted : (row : Row) → row.kind ≡ kinds.Del → stays true row ≡ true → ⊥
    deleted row is e = let wrong : false ≡ true = sym (ap (λ (k : Kind). not (is_delete k)) is) ∙ e in cc

each_row : (from to : List ℕ) (all : List Row) (values : Values) → IsMapOf all values → (row : Row) → IsKept (between from to all) true row → IsRowOf values from to row
each_row from to all values is row k =
    let i = inside_of (in_range from to row.key) (newest row.key all) row (sym (kept_newest from to row.key all) ∙ k.newest_of_key) in
    record { inside = i.inside; value_is = is row.key ∙ ap value_left i.is ∙ put_kept row row.kind refl k.is_kept }

record IsPutOf (found : Option Row) (value : List ℕ) : Type 0 where
  row : Row
  is : found ≡ Some row
  put : stays true row ≡ true

put_of : (found : Option Row) (value : List ℕ) → value_left found ≡ Some value → IsPutOf found value
put_of None value e = absurd cc
put_of (Some row) value e = record { row = row; is = refl; put = by_kind row row.kind refl e }
  where
    by_kind : (row : Row) (kind : Kind) → row.kind ≡ kind → kept row.kind row.value ≡ Some value → stays true row ≡ true
    by_kind row kinds.Put is e = ap (λ (k : Kind). not (is_delete k)) is
    by_kind row kinds.Del is e = absurd (let wrong : None ≡ Some value = sym (ap (λ (k : Kind). kept k row.value) is) ∙ e in cc)

-- the newest row of a key has the key
newer_has : (key : List ℕ) (row other : Row) (found : Option Row) → key_eq row.key key ≡ true → ((x : Row) → found ≡ Some x → x.key ≡ key) → newer row found ≡ Some other → other.key ≡ key
newer_has key row other None same rest e = let is : row ≡ other = cc in ap (λ (r : Row). r.key) (sym is) ∙ eq_same row.key key same
newer_has key row other (Some next) same rest e = of_two (ltb row.seq next.seq) e
  where
    of_two : (b : Bool) → cond b (Some next) (Some row) ≡ Some other → other.key ≡ key
    of_two true e = rest other e
    of_two false e = let is : row ≡ other = cc in ap (λ (r : Row). r.key) (sym is) ∙ eq_same row.key key same

by_key : (key : List ℕ) (first row : Row) (found : Option Row) (b : Bool) → key_eq first.key key ≡ b → ((x : Row) → found ≡ Some x → x.key ≡ key) → cond b (newer first found) found ≡ Some row → row.key ≡ key
by_key key first row found true same rest e = newer_has key first row found same rest e
by_key key first row found false same rest e = rest row e

newest_has : (key : List ℕ) (rows : List Row) (row : Row) → newest key rows ≡ Some row → row.key ≡ key
newest_has key [] row e = absurd cc
newest_has key (first ∷ rows) row e = by_key key first row (newest key rows) (key_eq first.key key) refl (λ x f. newest_has key rows x f) e

abbrev keys_of : List Row → List (List ℕ)
keys_of rows = map (λ (row : Row). row.key) rows

key_at : (rows : List Row) (k : ℕ) (row : Row) (key : List ℕ) → k < length rows → get_or rows k row ≡ row → row.key ≡ key → Contains (keys_of rows) key
key_at [] k row key lt e same = absurd (omega (arith, lt))
key_at (first ∷ rows) zero row key lt e same = (0, omega arith, ap (λ (r : Row). r.key) e ∙ same)
key_at (first ∷ rows) (suc k) row key lt e same =
    let c = key_at rows k row key (omega (arith, lt)) e same in
    (suc c.0, omega (arith, c.1), c.2)

pub ranges_are_of_maps : RangesAreOfMaps
ranges_are_of_maps from to all rows values merges is = record {
  rise = rises rows merges.ascending;
  each = by_parts {P = IsKept (between from to all) true} (each_row from to all values is) rows (has_the_newest.no_other (between from to all) rows true merges);
  whole = λ key value inside has.
      let p = put_of (newest key all) value (sym (is key) ∙ has) in
      let found : newest key (between from to all) ≡ Some p.row = kept_newest from to key all ∙ ap (λ (b : Bool). cond b (newest key all) None) inside ∙ p.is in
      let same : p.row.key ≡ key = newest_has key all p.row p.is in
      let k : IsKept (between from to all) true p.row = record { newest_of_key = subst (λ (q : List ℕ). newest q (between from to all) ≡ Some p.row) (sym same) found; is_kept = p.put } in
      let there = has_the_newest.each (between from to all) rows true p.row merges k in
      key_at rows there.0 p.row key there.1 there.2 same;
}
