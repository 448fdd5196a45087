-- What a builder holds of the rows that were added.
use Rattle.std.specs.Prelude.{◌≡◌, ℕ, ◌+◌, ◌<◌, ◌==◌, List, [], ◌++◌, length, Option, Some, None, unwrap_or, if◌then◌else◌}
use Rattle.std.specs.List.{AllByRecursion}
use Rattle.keel_base.specs.declared.row.Row.{Row}
use Rattle.keel_base.specs.Rows.{IsRow}
use Rattle.keel_table.specs.Spelling.{Ascend, last_key, rows_bytes, IsClosed, rows_of, checked, blocks_bytes, index_bytes, entry_bytes, IsTableOf}
use Rattle.keel_table.specs.declared.index.Footer.{Footer}
use Rattle.keel_table.specs.declared.builder.Builder.{Builder}
use Rattle.keel_table.specs.declared.builder.Pieces.{Pieces}

-- the builder has taken these rows and given these bytes: the blocks that are closed, one behind the other
pub record IsBuilding (first last : ℕ) (rows : List Row) (given : List ℕ) (b : Builder) : Type 0 where
  pub each : AllByRecursion IsRow rows
  pub rise : Ascend [] rows
  pub closed : List (List Row)
  pub rest : List Row
  pub joined : rows ≡ rows_of closed ++ rest
  pub cut : AllByRecursion IsClosed closed
  pub short : length (rows_bytes rest) < 4096
  pub given_is : given ≡ blocks_bytes closed
  pub first_is : b.first ≡ first
  pub last_is : b.last ≡ last
  pub open_is : b.open_rows ≡ rows_bytes rest
  pub key_is : b.last_key ≡ last_key [] rows
  pub index_is : b.index ≡ index_bytes closed
  pub offset_is : b.offset ≡ length given
  pub blocks_is : b.blocks ≡ length closed
  pub rows_is : b.rows ≡ length rows

-- the builder behind closing a block of these rows' bytes, of which the last has that key
abbrev pub closed_by : List ℕ → List ℕ → ℕ → Builder → Builder
closed_by bytes key rows b = record b {
  open_rows = [];
  last_key = key;
  index = b.index ++ entry_bytes (record { offset = b.offset; size = length bytes; last = key });
  offset = b.offset + (length bytes + 4);
  blocks = b.blocks + 1;
  rows = rows;
}

-- the footer behind an index with these entries of so many blocks, which end at that offset
abbrev pub footer_behind : List ℕ → ℕ → ℕ → Builder → Footer
footer_behind index offset blocks b = record { index = offset; size = length index; blocks = blocks; rows = b.rows; first = b.first; last = b.last }

-- what a builder takes next has a key over this one; at the beginning it is the empty key
abbrev pub key_before : Builder → List ℕ
key_before b = b.last_key

-- how many bytes the pieces that were given have, checks included
abbrev pub bytes_given : Builder → ℕ
bytes_given b = b.offset

-- how many pieces were given, a block each
abbrev pub blocks_given : Builder → ℕ
blocks_given b = b.blocks

-- how many pieces there are
abbrev pub pieces_of : Option (List ℕ) → ℕ
pieces_of None = 0
pieces_of (Some piece) = 1

-- the bytes of the rows that are in no piece yet
abbrev pub left_over : Builder → List ℕ
left_over b = b.open_rows

-- the last block, where rows are left
abbrev pub last_block : List ℕ → Option (List ℕ)
last_block rows = if length rows == 0 then None else Some (checked rows)

-- the bytes of a piece, where there is one
abbrev pub piece_bytes : Option (List ℕ) → List ℕ
piece_bytes piece = unwrap_or piece []

-- the bytes are the table of the rows, in so many blocks
abbrev pub IsTableIn : ℕ → ℕ → ℕ → List Row → List ℕ → Type 0
IsTableIn blocks first last rows bytes = (table : IsTableOf first last rows bytes) × (length table.blocks ≡ blocks)

-- the bytes of the pieces at the end
abbrev pub pieces_bytes : Pieces → List ℕ
pieces_bytes pieces = piece_bytes pieces.block ++ pieces.end
