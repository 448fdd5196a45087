-- What a table that is open shows.
use Rattle.std.specs.Prelude.{ℕ, List}
use Rattle.keel_table.specs.declared.index.BlockEntry.{BlockEntry}
use Rattle.keel_table.specs.declared.table.Table.{Table}
use Rattle.keel_table.specs.Opening.{Opened, opened_with}

-- its footer and entries
abbrev pub shown : Table → Opened
shown t = opened_with t.footer t.entries

-- the entries of its blocks
abbrev pub entries_of : Table → List BlockEntry
entries_of t = t.entries

-- the number of its file
abbrev pub number_of : Table → ℕ
number_of t = t.number
