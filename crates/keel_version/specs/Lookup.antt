-- Lookup over tables: of all rows of a key in all of them, the one of the greatest sequence number counts.
use Rattle.std.specs.Prelude.{◌≡◌, ℕ, ◌≤◌, ◌↔◌, true, false, List, [], ◌∷◌, Option, Some, None, Contains, MatchOption, map}
use Rattle.std.specs.List.{flat_map}
use Rattle.keel_base.specs.declared.row.Row.{Row}
use Rattle.keel_base.specs.Keys.{key_eq}
use Rattle.keel_base.specs.Rows.{newer, newest}

-- the rows of all tables, one table behind the other
abbrev pub joined : List (List Row) → List Row
joined tables = flat_map (λ rows. rows) tables

-- a row of the key, over which no other row of the key is
pub record IsNewest (key : List ℕ) (rows : List Row) (row : Row) : Type 0 where
  pub stands : Contains rows row
  pub of_key : key_eq row.key key ≡ true
  pub greatest : (other : Row) → Contains rows other → key_eq other.key key ≡ true → other.seq ≤ row.seq

-- no row is of the key
abbrev pub HasNone : List ℕ → List Row → Type 0
HasNone key rows = (row : Row) → Contains rows row → key_eq row.key key ≡ false

-- what is found is the row of the greatest number, and nothing exactly where there is no row
abbrev pub FindsGreatest : Type 0
FindsGreatest = (key : List ℕ) (rows : List Row) → MatchOption (newest key rows) (HasNone key rows) (λ row. IsNewest key rows row)

-- of what two tables have, what counts
abbrev pub newer_of : Option Row → Option Row → Option Row
newer_of None other = other
newer_of (Some row) other = newer row other

-- of what each table has, what counts
abbrev pub newest_of : List (Option Row) → Option Row
newest_of [] = None
newest_of (found ∷ others) = newer_of found (newest_of others)

-- looking in each table alone finds what looking through all rows does
abbrev pub LooksInEach : Type 0
LooksInEach = (key : List ℕ) (tables : List (List Row)) → newest key (joined tables) ≡ newest_of (map (newest key) tables)

-- one number, one row
abbrev pub AreDistinct : List ℕ → List Row → Type 0
AreDistinct key rows =
    (one other : Row) → Contains rows one → Contains rows other
    → key_eq one.key key ≡ true → key_eq other.key key ≡ true → one.seq ≡ other.seq → one ≡ other

-- the same tables, in whatever order
abbrev pub SameTables : List (List Row) → List (List Row) → Type 0
SameTables tables others = (rows : List Row) → Contains tables rows ↔ Contains others rows

-- the order of tables makes no difference
abbrev pub AnyOrder : Type 0
AnyOrder =
    (key : List ℕ) (tables others : List (List Row))
    → SameTables tables others → AreDistinct key (joined tables) → newest key (joined others) ≡ newest key (joined tables)
