-- The rows of the keys in a range.
use Rattle.std.specs.Prelude.{◌≡◌, ℕ, Bool, true, ◌==◌, ◌&&◌, ◌||◌, not, List, [], ◌∷◌, ◌++◌, length, filter, Some, Ok, Contains, map}
use Rattle.std.specs.FinMap.{get}
use Rattle.std.specs.List.{AllByRecursion}
use Rattle.keel_base.specs.declared.row.Row.{Row}
use Rattle.keel_base.specs.Keys.{key_le, key_lt}
use Rattle.keel_base.specs.Points.{Values}
use Rattle.keel_table.specs.Opening.{Covering, block_found, nth_entry}
use Rattle.keel_table.specs.Spelling.{last_key}
use Rattle.keel_directory.specs.TableFiles.{TableFile, table_rows}

-- a key from one on and below another; an empty one is no upper bound
abbrev pub in_range : List ℕ → List ℕ → List ℕ → Bool
in_range from to key = key_le from key && ((length to == 0) || key_lt key to)

-- the same of a row's key
abbrev pub is_between : List ℕ → List ℕ → Row → Bool
is_between from to row = in_range from to row.key

-- the rows of a range
abbrev pub between : List ℕ → List ℕ → List Row → List Row
between from to rows = filter (is_between from to) rows

-- whether no key over this one is below the end of the range
abbrev pub ends_range : List ℕ → List ℕ → Bool
ends_range to key = not (length to == 0) && key_le to key

-- the block of that number in a file
abbrev pub IsBlockOf : TableFile → ℕ → List Row → Type 0
IsBlockOf file i block = (c : Covering) × (nth_entry [] file.file.entries i ≡ Some c) × (block_found c.0 c.1 file.bytes ≡ Ok block)

-- the rows of a block that are in the range stand behind those before; it tells no end that isn't there
pub record AddsBlock (from to : List ℕ) (i : ℕ) (old new : List Row) (file : TableFile) (ends : Bool) : Type 0 where
  pub block : List Row
  pub is : IsBlockOf file i block
  pub rows : new ≡ old ++ between from to block
  pub stops : ends ≡ true → (before : List ℕ) → ends_range to (last_key before block) ≡ true

-- the rows of tables that are in a range
abbrev pub lists_between : List ℕ → List ℕ → List TableFile → List (List Row)
lists_between from to files = map (λ (file : TableFile). between from to (table_rows file)) files

-- each key is over the one before
abbrev pub Rise : List Row → Type 0
Rise [] = Unit {0}
Rise (row ∷ []) = Unit {0}
Rise (row ∷ next ∷ rows) = (key_lt row.key next.key ≡ true) × Rise (next ∷ rows)

-- the row's key is in the range, and has its value
pub record IsRowOf (values : Values) (from to : List ℕ) (row : Row) : Type 0 where
  pub inside : in_range from to row.key ≡ true
  pub value_is : get values row.key ≡ Some row.value

-- The rows are those of the keys in the range that have a value, by key.
pub record AreRowsOf (values : Values) (from to : List ℕ) (rows : List Row) : Type 0 where
  pub rise : Rise rows
  pub each : AllByRecursion (IsRowOf values from to) rows
  pub whole : (key value : List ℕ) → in_range from to key ≡ true → get values key ≡ Some value → Contains (map (λ (row : Row). row.key) rows) key
