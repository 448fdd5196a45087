-- Rows by key, and of one key the newest first.
use Rattle.std.specs.Prelude.{◌≡◌, ℕ, Bool, true, List, AllPairs}
use Rattle.keel_base.specs.declared.row.Row.{Row}
use Rattle.keel_base.specs.Keys.{key_eq}
use Rattle.keel_region.specs.Order.{comes_before}

-- the lesser key comes before, and of one key the greater sequence
abbrev pub RowPrecedes : Row → Row → Type 0
RowPrecedes row other = comes_before row.key row.seq other.key other.seq ≡ true

-- each row comes before those behind it
abbrev pub AreInOrder : List Row → Type 0
AreInOrder rows = AllPairs RowPrecedes rows

-- whether a row has that key
abbrev pub row_has : List ℕ → Row → Bool
row_has key row = key_eq row.key key
