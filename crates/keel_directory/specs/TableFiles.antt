-- The tables of a version in a directory.
use Rattle.std.specs.Prelude.{◌≡◌, ℕ, Bool, ◌==◌, List, [], ◌∷◌, ◌++◌, length, Option, Some, None, Result, Ok, Err, is_some, is_none, nat_lt, if◌then◌else◌}
use Rattle.keel_base.specs.declared.row.Row.{Row}
use Rattle.keel_base.specs.declared.file_name.FileName.TheVariants.{Table}
use Rattle.keel_disk.specs.Directory.{Named, find}
use Rattle.keel_edit.specs.declared.edit.Added.{Added}
use Rattle.keel_table.specs.declared.index.BlockEntry.{BlockEntry}
use Rattle.keel_table.specs.Opening.{Damage, bad_shape, Opened, opened, block_found}
use Rattle.keel_directory.specs.Refusals.{Refusal, missing_table, bad_table}

-- a table of the version with its file: the bytes, and the footer and entries that they give
pub record TableFile : Type 0 where
  pub entry : Added
  pub bytes : List ℕ
  pub file : Opened

-- ---- rows

-- the rows of a block; a bad block has none
abbrev pub rows_found : Result (List Row) Damage → List Row
rows_found (Ok rows) = rows
rows_found (Err damage) = []

-- the rows of the entries' blocks, the first of which stands behind a key
abbrev pub block_rows : List ℕ → List ℕ → List BlockEntry → List Row
block_rows bytes before [] = []
block_rows bytes before (e ∷ es) = rows_found (block_found before e bytes) ++ block_rows bytes e.last es

-- the rows of a table
abbrev pub table_rows : TableFile → List Row
table_rows t = block_rows t.bytes [] t.file.entries

-- ---- opening

-- a file of another size than the version says has no footer at its end
abbrev pub open_sized : ℕ → List ℕ → Result Opened Damage
open_sized size bytes = if length bytes == size then opened size bytes else Err (bad_shape 0)

abbrev pub damage_of : Result Opened Damage → Option Damage
damage_of (Ok file) = None
damage_of (Err damage) = Some damage

-- what is wrong with a table that is there
abbrev pub damage_in : ℕ → Option (List ℕ) → Option Damage
damage_in size None = None
damage_in size (Some bytes) = damage_of (open_sized size bytes)

abbrev pub bytes_of : Named (List ℕ) → Added → Option (List ℕ)
bytes_of image table = find (Table table.number) image

abbrev pub lesser : Added → Option Added → Option Added
lesser table None = Some table
lesser table (Some other) = if nat_lt other.number table.number then Some other else Some table

-- of the tables that a test finds the one of the least number
abbrev pub least : (Added → Bool) → List Added → Option Added
least finds [] = None
least finds (table ∷ tables) = if finds table then lesser table (least finds tables) else least finds tables

abbrev pub damage_refused : ℕ → Option Damage → Option Refusal
damage_refused number None = None
damage_refused number (Some damage) = Some (bad_table number damage)

abbrev pub refused_for_damage : Named (List ℕ) → Option Added → Option Refusal
refused_for_damage image None = None
refused_for_damage image (Some table) = damage_refused table.number (damage_in table.size (bytes_of image table))

abbrev pub refused_for_missing : Option Added → Option Refusal → Option Refusal
refused_for_missing None other = other
refused_for_missing (Some table) other = Some (missing_table table.number)

-- a table that is missing comes before each that is damaged
abbrev pub refusal_of : Named (List ℕ) → List Added → Option Refusal
refusal_of image tables =
    refused_for_missing (least (λ t. is_none (bytes_of image t)) tables)
    (refused_for_damage image (least (λ t. is_some (damage_in t.size (bytes_of image t))) tables))

-- the table's file is there with its size, and opens
pub record Opens (image : Named (List ℕ)) (table : Added) (t : TableFile) : Type 0 where
  pub entry : t.entry ≡ table
  pub there : bytes_of image table ≡ Some t.bytes
  pub opens : open_sized table.size t.bytes ≡ Ok t.file

abbrev pub AllOpen : Named (List ℕ) → List Added → List TableFile → Type 0
AllOpen image [] [] = Unit {0}
AllOpen image (table ∷ tables) (t ∷ ts) = Opens image table t × AllOpen image tables ts
AllOpen image _ _ = ⊥

abbrev pub TablesGive : Option Refusal → Named (List ℕ) → List Added → Result (List TableFile) Refusal → Type 0
TablesGive (Some refusal) image tables answer = answer ≡ Err refusal
TablesGive None image tables (Ok files) = AllOpen image tables files
TablesGive None image tables (Err refusal) = ⊥

-- the tables open, or the first refusal
abbrev pub TablesAre : Named (List ℕ) → List Added → Result (List TableFile) Refusal → Type 0
TablesAre image tables answer = TablesGive (refusal_of image tables) image tables answer
