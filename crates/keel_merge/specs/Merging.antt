-- What a merge gives.
use Rattle.std.specs.Prelude.{◌≡◌, ℕ, Bool, true, false, not, ◌&&◌, List, Option, Some, None, if◌then◌else◌}
use Rattle.std.specs.List.{flat_map}
use Rattle.keel_base.specs.declared.row.Row.{Row}
use Rattle.keel_base.specs.declared.row.Kind.{Kind}
use Rattle.keel_base.specs.declared.row.Kind.TheVariants as kinds
use Rattle.keel_base.specs.Rows.{newest}
use Rattle.keel_merge.specs.Order.{AreStrictlyAscending}

-- all rows of all lists
abbrev pub rows_of : List (List Row) → List Row
rows_of lists = flat_map (λ rows. rows) lists

abbrev pub is_delete : Kind → Bool
is_delete kinds.Del = true
is_delete kinds.Put = false

-- a row stays, unless it is a delete and there is no level below
abbrev pub stays : Bool → Row → Bool
stays last_level row = not (last_level && is_delete row.kind)

-- the row, where it stays
abbrev pub staying : Bool → Option Row → Option Row
staying last_level None = None
staying last_level (Some row) = if stays last_level row then Some row else None

-- in order, for each key of the rows the newest of them, where it stays, and nothing else
pub record IsMergeOf (rows : List Row) (last_level : Bool) (merged : List Row) : Type 0 where
  pub ascending : AreStrictlyAscending merged
  pub newest_of_each : (key : List ℕ) → newest key merged ≡ staying last_level (newest key rows)
