-- What segments have of a key, and what is answered of it.
use Rattle.std.specs.Prelude.{◌≡◌, ℕ, List, [], ◌∷◌, Option, Some, None, Result, Ok, Err}
use Rattle.keel_base.specs.declared.row.Row.{Row}
use Rattle.keel_base.specs.Rows.{newest, value_left}
use Rattle.keel_levels.specs.declared.fault.LevelFault.{LevelFault}
use Rattle.keel_machine.specs.declared.answers.Got.{Got}
use Rattle.keel_machine.specs.declared.answers.Got.TheVariants.{Value, Absent, ReadFault, OutOfMemory}
use Rattle.keel_table.specs.declared.fault.TableFault.{TableFault}
use Rattle.keel_table.specs.declared.fault.TableFault.TheVariants as fault
use Rattle.keel_core.specs.Views.{FullSegment}

abbrev pub else_of : Option Row → Option Row → Option Row
else_of None other = other
else_of (Some row) other = Some row

-- the newest row of a key in the last segment that has it: the full ones, and the active one behind them
abbrev pub latest : List ℕ → List FullSegment → List Row → Option Row
latest key [] rows = newest key rows
latest key (full ∷ fulls) rows = else_of (latest key fulls rows) (newest key full.rows)

-- what a key has, where memory doesn't run out
abbrev pub IsGot : Option (List ℕ) → Got → Type 0
IsGot left (Value value) = left ≡ Some value
IsGot left Absent = left ≡ None
IsGot left (ReadFault number cause) = ⊥
IsGot left OutOfMemory = Unit {0}

-- why the table of that number wasn't read
abbrev pub fault_got : ℕ → TableFault → Got
fault_got number (fault.Device cause) = ReadFault number (fault.Device cause)
fault_got number fault.Absent = ReadFault number fault.Absent
fault_got number (fault.BadCheck stored computed) = ReadFault number (fault.BadCheck stored computed)
fault_got number (fault.BadShape at) = ReadFault number (fault.BadShape at)
fault_got number fault.OutOfMemory = OutOfMemory

-- what is answered of what tables have
abbrev pub IsGotOf : Result (Option Row) LevelFault → Got → Type 0
IsGotOf (Ok row) got = IsGot (value_left row) got
IsGotOf (Err error) got = got ≡ fault_got error.number error.fault
