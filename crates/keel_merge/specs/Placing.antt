-- The merge of rows as it is made: each row is put at its place, or in place of an older one of its key.
use Rattle.std.specs.Prelude.{Bool, List, [], ◌∷◌, filter, nat_lt, if◌then◌else◌}
use Rattle.std.specs.declared.cmp.Ordering.{Ordering}
use Rattle.std.specs.declared.cmp.Ordering.TheVariants.{Less, Equal, Greater}
use Rattle.keel_base.specs.declared.row.Row.{Row}
use Rattle.keel_base.specs.Keys.{key_cmp}
use Rattle.keel_merge.specs.Merging.{stays}

-- of two rows of a key the newer, and the first where they have one number
abbrev pub newer_of : Row → Row → Row
newer_of row other = if nat_lt row.seq other.seq then other else row

-- a row at its place between rows in order, or in place of one of its key, by how it compares with the first of them
abbrev pub placed : Ordering → Row → Row → List Row → List Row → List Row
placed Less row other rows behind = row ∷ other ∷ rows
placed Equal row other rows behind = newer_of row other ∷ rows
placed Greater row other rows behind = other ∷ behind

abbrev pub place : Row → List Row → List Row
place row [] = row ∷ []
place row (other ∷ rows) = placed (key_cmp row.key other.key) row other rows (place row rows)

abbrev pub newest_rows : List Row → List Row
newest_rows [] = []
newest_rows (row ∷ rows) = place row (newest_rows rows)

-- the merge of rows
unfoldable pub merged : Bool → List Row → List Row
merged last_level rows = filter (stays last_level) (newest_rows rows)
