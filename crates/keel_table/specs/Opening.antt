-- What a table file's bytes answer: footer and index first, then each block, up to the first thing that is wrong.
use Rattle.std.specs.Prelude.{ℕ, zero, suc, ◌+◌, ◌-◌, Bool, ◌==◌, List, [], ◌∷◌, length, take, drop, find, Option, Some, None, Result, Ok, Err, nat_lt, nat_le, if◌then◌else◌}
use Rattle.std.specs.Int.{w32, from_le_bytes}
use Rattle.keel_base.specs.declared.row.Row.{Row}
use Rattle.keel_base.specs.Keys.{key_lt, key_eq}
use Rattle.keel_frag.specs.Checksum.{crc32c, mask}
use Rattle.keel_fields.specs.Reading.{Read}
use Rattle.keel_table.specs.declared.index.BlockEntry.{BlockEntry}
use Rattle.keel_table.specs.declared.index.Footer.{Footer}
use Rattle.keel_table.specs.Spelling.{magic}
use Rattle.keel_table.specs.Fields.{footer_at, entries_at, all_rows_at}

-- a stored check that isn't that of the bytes, or an offset where the shape is wrong
pub data Damage : Type 0 where
  bad_check : ℕ → ℕ → Damage
  bad_shape : ℕ → Damage

-- what is read next, if nothing was wrong
abbrev pub and_then : {A B : Type 0} → Result A Damage → (A → Result B Damage) → Result B Damage
and_then (Ok x) next = next x
and_then (Err damage) next = Err damage

-- goes on where the test holds; else the shape is wrong at that offset
abbrev pub needs : {A : Type 0} → Bool → ℕ → Result A Damage → Result A Damage
needs test at next = if test then next else Err (bad_shape at)

-- what fields that end at an offset give
abbrev pub ending_at : {A : Type 0} → ℕ → Result A ℕ → Result A Damage
ending_at end (Ok x) = Ok x
ending_at end (Err left) = Err (bad_shape (end - left))

-- ---- checks

-- bytes, against the check that is stored
unfoldable pub compared : List ℕ → ℕ → Result (List ℕ) Damage
compared body stored = if stored == mask (crc32c body) then Ok body else Err (bad_check stored (mask (crc32c body)))

-- so many bytes from an offset on and the check behind them; where not all are there, the shape is wrong at that offset
unfoldable pub tested : ℕ → ℕ → List ℕ → Result (List ℕ) Damage
tested offset size part = if nat_lt (length part) (size + 4) then Err (bad_shape offset) else compared (take size part) (from_le_bytes w32 (take 4 (drop size part)))

-- so many bytes of the file from an offset on
abbrev pub part_at : ℕ → ℕ → List ℕ → List ℕ
part_at offset size bytes = take size (drop offset bytes)

-- the same, with their check behind them
abbrev pub checked_at : ℕ → ℕ → List ℕ → Result (List ℕ) Damage
checked_at offset size bytes = tested offset size (part_at offset (size + 4) bytes)

-- ---- footer and index

-- the footer's bytes tell a table, and with blocks and index they are the whole of it
unfoldable pub footer_of_size : ℕ → Read Footer → Result Footer Damage
footer_of_size size (Err left) = Err (bad_shape (size - 48))
footer_of_size size (Ok f) =
    needs (key_eq f.1 magic) (size - 48 + 40) (needs (f.0.index + (f.0.size + 52) == size) (size - 48) (Ok f.0))

-- the footer of a file of that size
unfoldable pub footer_found : ℕ → List ℕ → Result Footer Damage
footer_found size bytes = and_then (checked_at (size - 48) 44 bytes) (λ body. footer_of_size size (footer_at body))

-- the entries in the bytes of the index that the footer tells
abbrev pub entries_in : Footer → List ℕ → Result (List BlockEntry) Damage
entries_in footer index = ending_at (footer.index + footer.size) (entries_at footer.index footer.blocks 0 None index)

-- the entries of the index that the footer tells
unfoldable pub entries_found : Footer → List ℕ → Result (List BlockEntry) Damage
entries_found footer bytes = and_then (checked_at footer.index footer.size bytes) (entries_in footer)

-- what opening finds
pub record Opened : Type 0 where
  pub footer : Footer
  pub entries : List BlockEntry

-- a footer with its entries
abbrev pub opened_with : Footer → List BlockEntry → Opened
opened_with footer entries = record { footer = footer; entries = entries }

-- what opening a table of that size answers for the file's bytes
unfoldable pub opened : ℕ → List ℕ → Result Opened Damage
opened size bytes =
    needs (nat_le 52 size) 0 (and_then (footer_found size bytes) (λ footer. and_then (entries_found footer bytes) (λ entries. Ok (opened_with footer entries))))

-- ---- blocks

-- the rows in the bytes of a block, behind the last key of the entry before
abbrev pub rows_in : List ℕ → BlockEntry → List ℕ → Result (List Row) Damage
rows_in before e body = ending_at (e.offset + e.size) (all_rows_at before e.last body)

-- the rows of the block of an entry
unfoldable pub block_found : List ℕ → BlockEntry → List ℕ → Result (List Row) Damage
block_found before e bytes = and_then (checked_at e.offset e.size bytes) (rows_in before e)

-- the row of a key, where there is one
abbrev pub row_of : List ℕ → List Row → Option Row
row_of key rows = find (λ row. key_eq row.key key) rows

-- an entry, with the last key of the one before; at the first it is the empty key, which every key is over
abbrev pub Covering : Type 0
Covering = List ℕ × BlockEntry

-- the last key of the last entry, and the key before where there is none
abbrev pub last_key_of : List ℕ → List BlockEntry → List ℕ
last_key_of before [] = before
last_key_of before (e ∷ es) = last_key_of e.last es

-- an entry by its number
abbrev pub nth_entry : List ℕ → List BlockEntry → ℕ → Option Covering
nth_entry before [] i = None
nth_entry before (e ∷ es) zero = Some (before, e)
nth_entry before (e ∷ es) (suc i) = nth_entry e.last es i

-- the first entry whose last key isn't below a key
abbrev pub covering : List ℕ → List BlockEntry → List ℕ → Option Covering
covering before [] key = None
covering before (e ∷ es) key = if key_lt e.last key then covering e.last es key else Some (before, e)

-- the row of a key in the block of an entry
unfoldable pub row_found : Covering → List ℕ → List ℕ → Result (Option Row) Damage
row_found c key bytes = and_then (block_found c.0 c.1 bytes) (λ rows. Ok (row_of key rows))
