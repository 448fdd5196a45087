-- Rows in the order of their keys.
use Rattle.std.specs.Prelude.{◌≡◌, ℕ, Bool, true, List, [], ◌∷◌}
use Rattle.keel_base.specs.declared.row.Row.{Row}
use Rattle.keel_base.specs.Keys.{key_lt, key_le}

-- the key stands so before the key of each row
abbrev pub IsBeforeAll : (List ℕ → List ℕ → Bool) → List ℕ → List Row → Type 0
IsBeforeAll before key [] = Unit {0}
IsBeforeAll before key (row ∷ rows) = (before key row.key ≡ true) × IsBeforeAll before key rows

-- the key of each row stands so before those of all behind it
abbrev pub AreOrdered : (List ℕ → List ℕ → Bool) → List Row → Type 0
AreOrdered before [] = Unit {0}
AreOrdered before (row ∷ rows) = IsBeforeAll before row.key rows × AreOrdered before rows

-- in the order of keys, where rows of one key may follow one another
abbrev pub AreAscending : List Row → Type 0
AreAscending rows = AreOrdered key_le rows

-- in the order of keys, and each key has one row
abbrev pub AreStrictlyAscending : List Row → Type 0
AreStrictlyAscending rows = AreOrdered key_lt rows

-- each of the lists is ascending
abbrev pub EachIsAscending : List (List Row) → Type 0
EachIsAscending [] = Unit {0}
EachIsAscending (rows ∷ lists) = AreAscending rows × EachIsAscending lists
