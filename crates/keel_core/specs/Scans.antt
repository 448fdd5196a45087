-- What segments have of the keys in a range, and what is answered of it.
use Rattle.std.specs.Prelude.{◌≡◌, ℕ, List, [], ◌∷◌, ◌++◌, map, Result, Ok, Err}
use Rattle.keel_base.specs.declared.row.Row.{Row}
use Rattle.keel_base.specs.Rows.{newest}
use Rattle.keel_levels.specs.declared.fault.ScanFault.{ScanFault}
use Rattle.keel_levels.specs.declared.fault.ScanFault.TheVariants as scan
use Rattle.keel_levels.specs.Ranges.{between}
use Rattle.keel_machine.specs.declared.answers.Scanned.{Scanned}
use Rattle.keel_machine.specs.declared.answers.Scanned.TheVariants.{Rows, ReadFault, OutOfMemory}
use Rattle.keel_merge.specs.Order.{AreAscending}
use Rattle.keel_table.specs.declared.fault.TableFault.{TableFault}
use Rattle.keel_table.specs.declared.fault.TableFault.TheVariants as fault
use Rattle.keel_core.specs.Views.{FullSegment}

-- rows in the order of their keys, which say of each key what those of the range say
pub record IsRange (from to : List ℕ) (held rows : List Row) : Type 0 where
  pub by_key : AreAscending rows
  pub says : (key : List ℕ) → newest key rows ≡ newest key (between from to held)

-- the same of lists of rows, one by one
abbrev pub AreRanges : List ℕ → List ℕ → List (List Row) → List (List Row) → Type 0
AreRanges from to [] [] = Unit {0}
AreRanges from to (held ∷ all) (rows ∷ lists) = IsRange from to held rows × AreRanges from to all lists
AreRanges from to _ _ = ⊥

-- the rows of all segments, the active one behind the full ones
abbrev pub rows_held : List FullSegment → List Row → List (List Row)
rows_held fulls rows = map (λ (full : FullSegment). full.rows) fulls ++ rows ∷ []

-- why the table of that number wasn't read
abbrev pub table_scanned : ℕ → TableFault → Scanned
table_scanned number (fault.Device cause) = ReadFault number (fault.Device cause)
table_scanned number fault.Absent = ReadFault number fault.Absent
table_scanned number (fault.BadCheck stored computed) = ReadFault number (fault.BadCheck stored computed)
table_scanned number (fault.BadShape at) = ReadFault number (fault.BadShape at)
table_scanned number fault.OutOfMemory = OutOfMemory

-- why the range wasn't read
abbrev pub fault_scanned : ScanFault → Scanned
fault_scanned (scan.Table error) = table_scanned error.number error.fault
fault_scanned scan.OutOfMemory = OutOfMemory

-- what is answered of what tables and segments have
abbrev pub IsScannedOf : Result (List Row) ScanFault → Scanned → Type 0
IsScannedOf (Ok rows) scanned = scanned ≡ Rows rows
IsScannedOf (Err fault) scanned = scanned ≡ fault_scanned fault
