-- What a merge has.
use Rattle.std.proofs.Common.{◌≡◌, ℕ, zero, suc, ◌<◌, Bool, true, false, List, [], ◌∷◌, length, get_or, Option, Some, None, All, Contains, refl, ap, sym, subst, ◌∙◌, inl, inr, arith}
use Rattle.std.proofs.lemmas.Bool.{cases_lt}
use Rattle.std.proofs.lemmas.List.Elements.{All-nil, All-cons}
use Rattle.keel_base.specs.declared.row.Row.{Row}
use Rattle.keel_base.specs.Keys.{key_lt, key_eq}
use Rattle.keel_base.specs.Rows.{newer, newest}
use Rattle.keel_merge.specs.Order.{IsBeforeAll, AreStrictlyAscending}
use Rattle.keel_merge.specs.Merging.{stays, staying}
use Rattle.keel_merge.specs.Laws.{HasTheNewest}
use Rattle.keel_base.proofs.KeyOrder.{lt_differs, eq_turned}
use Rattle.keel_base.proofs.Newest.{newest_here, newest_behind, newer_is_other, newer_is_row}
use Rattle.keel_merge.proofs.Placing.{staying_row, staying_none}
use Rattle.keel_merge.proofs.Unique.{first_found}

before_get : (key : List ℕ) (rows : List Row) (k : ℕ) (d : Row) → IsBeforeAll key_lt key rows → k < length rows → key_lt key (get_or rows k d).key ≡ true
before_get key [] k d all within = absurd (omega arith)
before_get key (row ∷ rows) zero d all within = all.0
before_get key (row ∷ rows) (suc k) d all within = before_get key rows k d all.1 (omega arith)

-- of strictly ascending rows each is the newest of its key
abbrev IsNewestIn : List Row → Row → Type 0
IsNewestIn rows row = newest row.key rows ≡ Some row

own_newest : (rows : List Row) → AreStrictlyAscending rows → All (IsNewestIn rows) rows
own_newest [] all = All-nil (IsNewestIn [])
own_newest (row ∷ rows) all =
    All-cons (IsNewestIn (row ∷ rows)) row rows (first_found row rows all.0) (λ k d within.
    let differ : key_eq row.key (get_or rows k d).key ≡ false =
    eq_turned (get_or rows k d).key row.key (lt_differs row.key (get_or rows k d).key (before_get row.key rows k d all.0 within)) in
    newest_behind (get_or rows k d).key row rows differ ∙ own_newest rows all.1 k d within)

staying_by : (last_level : Bool) (other row : Row) (b : Bool) → stays last_level other ≡ b → staying last_level (Some other) ≡ Some row
    → (Some other ≡ Some row) × (stays last_level row ≡ true)
staying_by last_level other row true keeps e =
    let same : Some other ≡ Some row = sym (staying_row last_level other keeps) ∙ e in
    let rows : other ≡ row = cc in
    (same, subst (λ (r : Row). stays last_level r ≡ true) rows keeps)
staying_by last_level other row false keeps e = let wrong : None ≡ Some row = sym (staying_none last_level other keeps) ∙ e in cc

staying_some : (last_level : Bool) (found : Option Row) (row : Row) → staying last_level found ≡ Some row → (found ≡ Some row) × (stays last_level row ≡ true)
staying_some last_level None row e = cc
staying_some last_level (Some other) row e = staying_by last_level other row (stays last_level other) refl e

contains_behind : (rows : List Row) (first row : Row) → Contains rows row → Contains (first ∷ rows) row
contains_behind rows first row c = (suc c.0, omega (arith, c.1), c.2)

newest_by_key : (key : List ℕ) (first row : Row) (rows : List Row) (found : Option Row) → newer first found ≡ Some row → (found ≡ Some row → Contains rows row)
    → Contains (first ∷ rows) row
newest_by_key key first row rows None e behind = let same : first ≡ row = cc in (0, omega arith, same)
newest_by_key key first row rows (Some other) e behind =
    elim (cases_lt first.seq other.seq) [
      | inl lt ↦ contains_behind rows first row (behind (sym (newer_is_other first other lt) ∙ e))
      | inr le ↦
          let some : Some first ≡ Some row = sym (newer_is_row first other le) ∙ e in
          let same : first ≡ row = cc in
          (0, omega arith, same)
    ]

newest_in_cons : (key : List ℕ) (first row : Row) (rows : List Row) (b : Bool) → key_eq first.key key ≡ b → newest key (first ∷ rows) ≡ Some row
    → (newest key rows ≡ Some row → Contains rows row) → Contains (first ∷ rows) row
newest_in_cons key first row rows true e found behind =
    newest_by_key key first row rows (newest key rows) (sym (newest_here key first rows e) ∙ found) behind
newest_in_cons key first row rows false e found behind =
    contains_behind rows first row (behind (sym (newest_behind key first rows e) ∙ found))

newest_in : (key : List ℕ) (row : Row) (rows : List Row) → newest key rows ≡ Some row → Contains rows row
newest_in key row [] e = cc
newest_in key row (first ∷ rows) e = newest_in_cons key first row rows (key_eq first.key key) refl e (newest_in key row rows)

pub has_the_newest : HasTheNewest
has_the_newest = record {
  no_other = λ rows merged last_level is k d within.
      let found : newest (get_or merged k d).key merged ≡ Some (get_or merged k d) = own_newest merged is.ascending k d within in
      let both = staying_some last_level (newest (get_or merged k d).key rows) (get_or merged k d) (sym (is.newest_of_each (get_or merged k d).key) ∙ found) in
      record { newest_of_key = both.0; is_kept = both.1 };
  each = λ rows merged last_level row is kept.
      newest_in row.key row merged
      (is.newest_of_each row.key ∙ ap (staying last_level) kept.newest_of_key ∙ staying_row last_level row kept.is_kept);
}
