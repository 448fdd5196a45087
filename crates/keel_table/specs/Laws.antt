-- What a table file gives that is opened and read, and what its parts are that read well.
use Rattle.std.specs.Prelude.{◌≡◌, ◌↔◌, ℕ, ◌+◌, ◌-◌, ◌<◌, true, List, [], ◌∷◌, length, Option, Some, None, Ok}
use Rattle.std.specs.List.{flat_map, AllByRecursion}
use Rattle.keel_base.specs.declared.row.Row.{Row}
use Rattle.keel_disk.specs.Image.{AreBytes}
use Rattle.keel_table.specs.declared.index.BlockEntry.{BlockEntry}
use Rattle.keel_table.specs.declared.index.Footer.{Footer}
use Rattle.keel_base.specs.Rows.{IsRow}
use Rattle.keel_table.specs.Spelling.{rows_bytes, Ascend, last_key, rows_of, checked, block_bytes, entry_bytes, IsEntry, entries_from, footer_bytes, footer_of, FooterFits, IsTableOf}
use Rattle.keel_table.specs.Fields.{in_order}
use Rattle.keel_table.specs.Opening.{part_at, footer_found, entries_found, opened_with, opened, block_found, Covering, covering, row_of, row_found}

-- each entry's block has its check, and these are its rows
abbrev pub AreWhole : List ℕ → List ℕ → List BlockEntry → List (List Row) → Type 0
AreWhole bytes before [] [] = Unit {0}
AreWhole bytes before (e ∷ es) [] = ⊥
AreWhole bytes before [] (block ∷ blocks) = ⊥
AreWhole bytes before (e ∷ es) (block ∷ blocks) = (block_found before e bytes ≡ Ok block) × AreWhole bytes e.last es blocks

-- the block of the entry that covers a key gives its row; where no entry does, there is none
abbrev pub GetGives : List ℕ → List ℕ → Option Row → Option Covering → Type 0
GetGives bytes key row None = row ≡ None
GetGives bytes key row (Some c) = row_found c key bytes ≡ Ok row

-- a table opens, with its footer and the entries of its blocks, its blocks are whole, and a get gives the row of its key among all rows
pub record OpensAs (first last : ℕ) (bytes : List ℕ) (blocks : List (List Row)) : Type 0 where
  pub opens : opened (length bytes) bytes ≡ Ok (opened_with (footer_of first last blocks) (entries_from 0 blocks))
  pub whole : AreWhole bytes [] (entries_from 0 blocks) blocks
  pub gets : (key : List ℕ) → GetGives bytes key (row_of key (rows_of blocks)) (covering [] (entries_from 0 blocks) key)

-- every table file opens as what its rows are
abbrev pub TablesOpen : Type 0
TablesOpen = (first last : ℕ) (rows : List Row) (bytes : List ℕ) (table : IsTableOf first last rows bytes) → OpensAs first last bytes table.blocks

-- ---- what is spelled

-- the part of a file that an entry tells is these rows with their check, whose keys are over the one before and rise up to the entry's
pub record IsBlockAt (before : List ℕ) (e : BlockEntry) (bytes : List ℕ) (rows : List Row) : Type 0 where
  pub spelled : part_at e.offset (e.size + 4) bytes ≡ block_bytes rows
  pub sized : length (rows_bytes rows) ≡ e.size
  pub some : 0 < length rows
  pub each : AllByRecursion IsRow rows
  pub rise : Ascend before rows
  pub last : last_key before rows ≡ e.last

-- the part of a file that a footer tells is these entries with their check, of blocks that follow each other up to it
pub record IsIndexAt (f : Footer) (bytes : List ℕ) (entries : List BlockEntry) : Type 0 where
  pub spelled : part_at f.index (f.size + 4) bytes ≡ checked (flat_map entry_bytes entries)
  pub sized : length (flat_map entry_bytes entries) ≡ f.size
  pub counted : length entries ≡ f.blocks
  pub each : AllByRecursion IsEntry entries
  pub follow : in_order f.index 0 None entries ≡ true

-- the last bytes of a file of that size are this footer, which tells the whole of it
pub record IsFooterAt (size : ℕ) (bytes : List ℕ) (f : Footer) : Type 0 where
  pub fits : FooterFits f
  pub spelled : part_at (size - 48) 48 bytes ≡ footer_bytes f
  pub whole : f.index + (f.size + 52) ≡ size

-- a block gives the rows that it spells, and no others
abbrev pub BlocksAreSpelled : Type 0
BlocksAreSpelled = (before : List ℕ) (e : BlockEntry) (bytes : List ℕ) (rows : List Row) → AreBytes bytes → (block_found before e bytes ≡ Ok rows) ↔ IsBlockAt before e bytes rows

-- an index gives the entries that it spells, and no others
abbrev pub IndexesAreSpelled : Type 0
IndexesAreSpelled = (f : Footer) (bytes : List ℕ) (entries : List BlockEntry) → AreBytes bytes → (entries_found f bytes ≡ Ok entries) ↔ IsIndexAt f bytes entries

-- the last bytes of a file give the footer that they spell, and no other
abbrev pub FootersAreSpelled : Type 0
FootersAreSpelled = (size : ℕ) (bytes : List ℕ) (f : Footer) → AreBytes bytes → (footer_found size bytes ≡ Ok f) ↔ IsFooterAt size bytes f
