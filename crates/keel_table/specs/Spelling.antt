-- The table file of a list of rows: blocks of rows, an index, a footer, each with its check.
use Rattle.std.specs.Prelude.{◌≡◌, ℕ, ◌+◌, ◌^◌, ◌<◌, ◌≤◌, true, List, [], ◌∷◌, ◌++◌, length}
use Rattle.std.specs.List.{flat_map, AllByRecursion}
use Rattle.std.specs.Int.{w32, w64, to_le_bytes}
use Rattle.keel_base.specs.declared.row.Row.{Row}
use Rattle.keel_base.specs.declared.row.Kind.{Kind}
use Rattle.keel_base.specs.declared.row.Kind.TheVariants as kinds
use Rattle.keel_base.specs.Keys.{key_lt}
use Rattle.keel_base.specs.Rows.{IsRow}
use Rattle.keel_frag.specs.Checksum.{crc32c, mask}
use Rattle.keel_table.specs.declared.index.BlockEntry.{BlockEntry}
use Rattle.keel_table.specs.declared.index.Footer.{Footer}

-- a number in eight bytes, the least byte first
unfoldable pub number : ℕ → List ℕ
number n = to_le_bytes w64 n

-- a count, a length or a check in four bytes, the least byte first
unfoldable pub count : ℕ → List ℕ
count n = to_le_bytes w32 n

-- ---- rows

-- the byte of a kind
abbrev pub kind_byte : Kind → ℕ
kind_byte kinds.Put = 1
kind_byte kinds.Del = 0

-- a row: its number, its kind, the lengths of its key and value, key and value
abbrev pub row_bytes : Row → List ℕ
row_bytes r = number r.seq ++ (kind_byte r.kind ∷ (count (length r.key) ++ (count (length r.value) ++ (r.key ++ r.value))))

-- rows one behind the other
abbrev pub rows_bytes : List Row → List ℕ
rows_bytes rows = flat_map row_bytes rows

-- the keys rise, from one that is over the key before
abbrev pub Ascend : List ℕ → List Row → Type 0
Ascend before [] = Unit {0}
Ascend before (row ∷ rows) = (key_lt before row.key ≡ true) × Ascend row.key rows

-- the key of the last row, and the key before where there is none
abbrev pub last_key : List ℕ → List Row → List ℕ
last_key before [] = before
last_key before (row ∷ rows) = last_key row.key rows

-- ---- blocks

-- it has a row, and all rows but the last have fewer than 4096 bytes
pub record IsBlock (block : List Row) : Type 0 where
  pub front : List Row
  pub end : Row
  pub parts : block ≡ front ++ end ∷ []
  pub short : length (rows_bytes front) < 4096

-- a block that its last row closed
pub record IsClosed (block : List Row) : Type 0 where
  pub is_block : IsBlock block
  pub full : 4096 ≤ length (rows_bytes block)

-- every block but the last was closed by its last row
abbrev pub AreBlocks : List (List Row) → Type 0
AreBlocks [] = Unit {0}
AreBlocks (block ∷ []) = IsBlock block
AreBlocks (block ∷ next ∷ blocks) = IsClosed block × AreBlocks (next ∷ blocks)

-- the rows of blocks, in their order
abbrev pub rows_of : List (List Row) → List Row
rows_of blocks = flat_map (λ block. block) blocks

-- bytes, and their masked check
unfoldable pub checked : List ℕ → List ℕ
checked bytes = bytes ++ count (mask (crc32c bytes))

-- a block: its rows and their check
abbrev pub block_bytes : List Row → List ℕ
block_bytes block = checked (rows_bytes block)

-- blocks one behind the other
abbrev pub blocks_bytes : List (List Row) → List ℕ
blocks_bytes blocks = flat_map block_bytes blocks

-- ---- index and footer

-- an entry: where the block begins, the length of its rows, its last key
abbrev pub entry_bytes : BlockEntry → List ℕ
entry_bytes e = number e.offset ++ (count e.size ++ (count (length e.last) ++ e.last))

-- the numbers of an entry fit their fields
pub record IsEntry (e : BlockEntry) : Type 0 where
  pub offset : e.offset < 2 ^ 64
  pub size : e.size < 2 ^ 32
  pub last : length e.last < 2 ^ 32

-- the entry of a block
abbrev pub entry_of : ℕ → List Row → BlockEntry
entry_of offset block = record { offset = offset; size = length (rows_bytes block); last = last_key [] block }

-- the entries of blocks of which the first begins at that offset
abbrev pub entries_from : ℕ → List (List Row) → List BlockEntry
entries_from offset [] = []
entries_from offset (block ∷ blocks) = entry_of offset block ∷ entries_from (offset + (length (rows_bytes block) + 4)) blocks

-- the entries of all blocks
abbrev pub index_bytes : List (List Row) → List ℕ
index_bytes blocks = flat_map entry_bytes (entries_from 0 blocks)

-- `KTB1`
abbrev pub magic : List ℕ
magic = 0x4B ∷ 0x54 ∷ 0x42 ∷ 0x31 ∷ []

-- a footer's numbers, and the bytes that tell a table
abbrev pub footer_body : Footer → List ℕ
footer_body f = number f.index ++ (count f.size ++ (count f.blocks ++ (number f.rows ++ (number f.first ++ (number f.last ++ magic)))))

-- a footer, which has 48 bytes
abbrev pub footer_bytes : Footer → List ℕ
footer_bytes f = checked (footer_body f)

-- ---- the file

-- the footer of blocks, with the least and the greatest number that their rows may have
abbrev pub footer_of : ℕ → ℕ → List (List Row) → Footer
footer_of first last blocks = record {
  index = length (blocks_bytes blocks);
  size = length (index_bytes blocks);
  blocks = length blocks;
  rows = length (rows_of blocks);
  first = first;
  last = last;
}

-- a table: its blocks, their index, the footer
abbrev pub table_bytes : ℕ → ℕ → List (List Row) → List ℕ
table_bytes first last blocks = blocks_bytes blocks ++ (checked (index_bytes blocks) ++ footer_bytes (footer_of first last blocks))

-- the numbers of a footer fit their fields
pub record FooterFits (f : Footer) : Type 0 where
  pub index : f.index < 2 ^ 64
  pub size : f.size < 2 ^ 32
  pub blocks : f.blocks < 2 ^ 32
  pub rows : f.rows < 2 ^ 64
  pub first : f.first < 2 ^ 64
  pub last : f.last < 2 ^ 64

-- the bytes are the table of these rows, whose keys rise, with that range of sequence numbers
pub record IsTableOf (first last : ℕ) (rows : List Row) (bytes : List ℕ) : Type 0 where
  pub each : AllByRecursion IsRow rows
  pub rise : Ascend [] rows
  pub blocks : List (List Row)
  pub joined : rows ≡ rows_of blocks
  pub cut : AreBlocks blocks
  pub fits : FooterFits (footer_of first last blocks)
  pub spelled : bytes ≡ table_bytes first last blocks
