-- How large tables are.
use Rattle.std.specs.Prelude.{◌≡◌, ℕ, ◌+◌, ◌*◌, ◌^◌, ◌<◌, ◌≤◌, List, [], ◌∷◌, length, Ok}
use Rattle.keel_base.specs.declared.row.Row.{Row}
use Rattle.keel_disk.specs.Image.{AreBytes}
use Rattle.keel_table.specs.Spelling.{IsTableOf, rows_of}
use Rattle.keel_table.specs.Opening.{Opened, opened}
use Rattle.keel_table.specs.Laws.{AreWhole}

-- the bytes of a table of one row
abbrev pub OneRowSize : Type 0
OneRowSize = (first last : ℕ) (row : Row) (bytes : List ℕ) → IsTableOf first last (row ∷ []) bytes → length bytes ≡ 89 + 2 * length row.key + length row.value

-- the table of some rows has no more than so many bytes and rows
abbrev pub TablesAreSmall : Type 0
TablesAreSmall = (first last : ℕ) (rows : List Row) (bytes : List ℕ) → IsTableOf first last rows bytes → (length bytes ≤ 2 ^ 56) × (length rows ≤ 2 ^ 56)

-- a file that opens as a table has fewer bytes, and no more rows in blocks that are whole: its index can't tell of more
abbrev pub FilesAreSmall : Type 0
FilesAreSmall = (size : ℕ) (bytes : List ℕ) (o : Opened) → AreBytes bytes → opened size bytes ≡ Ok o
    → (size < 2 ^ 61) × ((blocks : List (List Row)) → AreWhole bytes [] o.entries blocks → length (rows_of blocks) ≤ size)
