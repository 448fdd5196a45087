-- What contracts see of a memtable.
use Rattle.std.specs.Prelude.{ℕ, List, [], ◌∷◌, map, nat_lt, if◌then◌else◌}
use Rattle.keel_base.specs.declared.row.Row.{Row}
use Rattle.keel_region.specs.declared.span.IndexEntry.{IndexEntry}
use Rattle.keel_region.specs.Spans.{bytes_at}

-- the rows in the order of their arrival, and how many more bytes and entries have room
pub record MemShown : Type 0 where
  pub rows : List Row
  pub bytes : ℕ
  pub entries : ℕ

-- the row of an entry, whose key and value are bytes at its spans
abbrev pub row_in : List ℕ → IndexEntry → Row
row_in bytes entry = record { seq = entry.seq; kind = entry.kind; key = bytes_at bytes entry.key; value = bytes_at bytes entry.value }

-- the rows of entries
abbrev pub rows_in : List ℕ → List IndexEntry → List Row
rows_in bytes entries = map (row_in bytes) entries

-- a row put in front of the first of a greater number
abbrev pub numbered_in : Row → List Row → List Row
numbered_in row [] = row ∷ []
numbered_in row (other ∷ rows) = if nat_lt row.seq other.seq then row ∷ (other ∷ rows) else other ∷ numbered_in row rows

-- rows by rising number
abbrev pub by_number : List Row → List Row
by_number [] = []
by_number (row ∷ rows) = numbered_in row (by_number rows)

-- the rows of entries as they arrived, since each got a greater number than those before
abbrev pub rows_by_arrival : List ℕ → List IndexEntry → List Row
rows_by_arrival bytes entries = by_number (rows_in bytes entries)
