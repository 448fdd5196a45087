-- The newest row of a key, of several lists.
use Rattle.std.specs.Prelude.{ℕ, Bool, true, ◌&&◌, List, Option, Some, None, nat_lt}
use Rattle.keel_base.specs.declared.row.Row.{Row}
use Rattle.keel_base.specs.Keys.{key_le}
use Rattle.keel_base.specs.Rows.{newer}
use Rattle.keel_edit.specs.declared.edit.Added.{Added}

-- the newest of two lists is the newest of their newest
abbrev pub newest_of_both : Option Row → Option Row → Option Row
newest_of_both None found = found
newest_of_both (Some row) found = newer row found

-- whether a key is between the least and the greatest of a table
abbrev pub has_range : Added → List ℕ → Bool
has_range entry key = key_le entry.least key && key_le key entry.greatest

-- whether rows up to a number may have one that is newer
abbrev pub may_be_newer : ℕ → Option Row → Bool
may_be_newer last None = true
may_be_newer last (Some row) = nat_lt row.seq last
