-- The tables of a version, and what is open of them.
use Rattle.std.specs.Prelude.{◌≡◌, List, map, Option, Some, None}
use Rattle.keel_edit.specs.declared.edit.Added.{Added}
use Rattle.keel_levels.specs.declared.live.LiveTable.{LiveTable}
use Rattle.keel_levels.specs.Live.{tables_of}

-- tables of which none is open
abbrev pub unopened : List Added → List LiveTable
unopened entries = map (λ (entry : Added). record { entry = entry; table = None }) entries

abbrev pub lives_of : Option (List LiveTable) → List Added → List LiveTable
lives_of None entries = unopened entries
lives_of (Some levels) entries = levels

-- what is open is of these tables
abbrev pub IsOf : Option (List LiveTable) → List Added → Type 0
IsOf live entries = (levels : List LiveTable) → live ≡ Some levels → tables_of levels ≡ entries
