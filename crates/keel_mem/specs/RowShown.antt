-- What an item of a memtable's rows shows.
use Rattle.keel_base.specs.declared.row.Row.{Row}
use Rattle.keel_mem.specs.declared.rows.MemRow.{MemRow}

-- the row with the bytes that the references point to
abbrev pub row_shown : MemRow → Row
row_shown row = record { seq = row.seq; kind = row.kind; key = row.key.now; value = row.value.now }
