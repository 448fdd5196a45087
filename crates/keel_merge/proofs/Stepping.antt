-- The next row of a merge.
use Rattle.std.proofs.Common.{◌≡◌, ℕ, Bool, true, false, List, ◌∷◌, Some, None, refl, ap, sym, subst, ◌∙◌}
use Rattle.keel_base.specs.declared.row.Row.{Row}
use Rattle.keel_base.specs.Keys.{key_lt, key_eq}
use Rattle.keel_base.specs.Rows.{newer, newest}
use Rattle.keel_merge.specs.Order.{IsBeforeAll}
use Rattle.keel_merge.specs.Merging.{stays, staying}
use Rattle.keel_merge.specs.Placing.{merged}
use Rattle.keel_base.proofs.KeyOrder.{eq_same}
use Rattle.keel_base.proofs.Newest.{newest_here, newest_behind}
use Rattle.keel_merge.proofs.Newer.{newest_none}
use Rattle.keel_merge.proofs.Placing.{merged_is, merged_behind, staying_row, staying_none}
use Rattle.keel_merge.proofs.Unique.{one_merge}

-- the rows of the least key were taken off, of which this is the newest
pub record TakesNewest (row : Row) (old new : List Row) : Type 0 where
  pub newest_of_key : newest row.key old ≡ Some row
  pub behind : IsBeforeAll key_lt row.key new
  pub others : (other : List ℕ) → key_eq row.key other ≡ false → newest other old ≡ newest other new

stays_by_key : (last_level : Bool) (row : Row) (old new : List Row) → TakesNewest row old new → stays last_level row ≡ true
    → (key : List ℕ) (b : Bool) → key_eq row.key key ≡ b → newest key (row ∷ merged last_level new) ≡ staying last_level (newest key old)
stays_by_key last_level row old new takes keeps key true e =
    let is : row.key ≡ key = eq_same row.key key e in
    let none : newest key (merged last_level new) ≡ None =
    newest_none key (merged last_level new)
    (subst (λ (k : List ℕ). IsBeforeAll key_lt k (merged last_level new)) is (merged_behind last_level row.key new takes.behind)) in
    let found : newest key old ≡ Some row = subst (λ (k : List ℕ). newest k old ≡ Some row) is takes.newest_of_key in
    newest_here key row (merged last_level new) e ∙ ap (newer row) none
    ∙ sym (ap (staying last_level) found ∙ staying_row last_level row keeps)
stays_by_key last_level row old new takes keeps key false e =
    newest_behind key row (merged last_level new) e
    ∙ (merged_is last_level new).newest_of_each key
    ∙ ap (staying last_level) (sym (takes.others key e))

goes_by_key : (last_level : Bool) (row : Row) (old new : List Row) → TakesNewest row old new → stays last_level row ≡ false
    → (key : List ℕ) (b : Bool) → key_eq row.key key ≡ b → newest key (merged last_level new) ≡ staying last_level (newest key old)
goes_by_key last_level row old new takes goes key true e =
    let is : row.key ≡ key = eq_same row.key key e in
    let none : newest key (merged last_level new) ≡ None =
    newest_none key (merged last_level new)
    (subst (λ (k : List ℕ). IsBeforeAll key_lt k (merged last_level new)) is (merged_behind last_level row.key new takes.behind)) in
    let found : newest key old ≡ Some row = subst (λ (k : List ℕ). newest k old ≡ Some row) is takes.newest_of_key in
    none ∙ sym (ap (staying last_level) found ∙ staying_none last_level row goes)
goes_by_key last_level row old new takes goes key false e =
    (merged_is last_level new).newest_of_each key ∙ ap (staying last_level) (sym (takes.others key e))

-- rows with the same newest rows have one merge
pub merged_same : (last_level : Bool) (one other : List Row) → ((key : List ℕ) → newest key one ≡ newest key other) → merged last_level one ≡ merged last_level other
merged_same last_level one other alike =
    one_merge one (merged last_level one) (merged last_level other) last_level (merged_is last_level one) (record {
      ascending = (merged_is last_level other).ascending;
      newest_of_each = λ key. (merged_is last_level other).newest_of_each key ∙ ap (staying last_level) (sym (alike key));
    })

pub merged_next : (last_level : Bool) (row : Row) (old new : List Row) → TakesNewest row old new → stays last_level row ≡ true
    → merged last_level old ≡ row ∷ merged last_level new
merged_next last_level row old new takes keeps =
    one_merge old (merged last_level old) (row ∷ merged last_level new) last_level (merged_is last_level old) (record {
      ascending = (merged_behind last_level row.key new takes.behind, (merged_is last_level new).ascending);
      newest_of_each = λ key. stays_by_key last_level row old new takes keeps key (key_eq row.key key) refl;
    })

pub merged_past : (last_level : Bool) (row : Row) (old new : List Row) → TakesNewest row old new → stays last_level row ≡ false
    → merged last_level old ≡ merged last_level new
merged_past last_level row old new takes goes =
    one_merge old (merged last_level old) (merged last_level new) last_level (merged_is last_level old) (record {
      ascending = (merged_is last_level new).ascending;
      newest_of_each = λ key. goes_by_key last_level row old new takes goes key (key_eq row.key key) refl;
    })
