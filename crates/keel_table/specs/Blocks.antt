-- What the rows of a table's blocks are, whatever the device tells.
use Rattle.std.specs.Prelude.{◌≡◌, ℕ, ◌<◌, true, List, [], ◌∷◌, ◌++◌, length, Option, Some, None}
use Rattle.std.specs.List.{AllByRecursion}
use Rattle.keel_base.specs.declared.row.Row.{Row}
use Rattle.keel_base.specs.Keys.{key_lt}
use Rattle.keel_table.specs.declared.index.BlockEntry.{BlockEntry}
use Rattle.keel_base.specs.Rows.{IsRow}
use Rattle.keel_table.specs.Spelling.{Ascend, last_key, rows_of}
use Rattle.keel_table.specs.Opening.{Covering, nth_entry}

-- rows whose keys rise, from over the key of the entry before up to the entry's own
pub record FitEntry (before : List ℕ) (e : BlockEntry) (rows : List Row) : Type 0 where
  pub some : 0 < length rows
  pub each : AllByRecursion IsRow rows
  pub rise : Ascend before rows
  pub last : last_key before rows ≡ e.last

-- the same of an entry that is there, with the key of the one before
abbrev pub FitCovering : Option Covering → List Row → Type 0
FitCovering None rows = ⊥
FitCovering (Some c) rows = FitEntry c.0 c.1 rows

-- a row's key is below a key
abbrev pub IsBelow : List ℕ → Row → Type 0
IsBelow key row = key_lt row.key key ≡ true

-- so many first blocks fit the entries, each its own
abbrev pub FitEntries : List ℕ → List (List Row) → List BlockEntry → Type 0
FitEntries before [] entries = Unit {0}
FitEntries before (block ∷ blocks) [] = ⊥
FitEntries before (block ∷ blocks) (e ∷ es) = FitEntry before e block × FitEntries e.last blocks es

-- the blocks that were read, in order from the first, have rows that ascend when they are joined
pub record BlocksAscend : Type 0 where
  pub more : (before : List ℕ) (blocks : List (List Row)) (entries : List BlockEntry) (block : List Row) → FitEntries before blocks entries
      → FitCovering (nth_entry before entries (length blocks)) block → FitEntries before (blocks ++ block ∷ []) entries
  pub each : (before : List ℕ) (blocks : List (List Row)) (entries : List BlockEntry) → FitEntries before blocks entries → AllByRecursion IsRow (rows_of blocks)
  pub rise : (before : List ℕ) (blocks : List (List Row)) (entries : List BlockEntry) → FitEntries before blocks entries → Ascend before (rows_of blocks)
