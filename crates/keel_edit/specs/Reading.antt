-- An edit read from left to right, up to the first field that isn't there in full or isn't allowed. A count,
-- a key's length and a key's bytes are fields of their own.
use Rattle.keel_base.specs.declared.limits.TheConstants.{LAST_NUMBER, LONGEST_KEY}
use Rattle.std.specs.Prelude.{◌≡◌, ℕ, ◌-◌, List, length, Result, Ok, Err, nat_le, ◌&&◌, if◌then◌else◌}
use Rattle.std.specs.Int.{w32, w64}
use Rattle.keel_base.specs.Keys.{key_le}
use Rattle.keel_fields.specs.Reading.{Read, ◌>>=◌, bounded_at, bytes_at, sized_at, byte_at, linked, both, made, counted_at, alone}
use Rattle.keel_edit.specs.declared.edit.Added.{Added}
use Rattle.keel_edit.specs.declared.edit.Removed.{Removed}
use Rattle.keel_edit.specs.declared.edit.Edit.{Edit}
use Rattle.keel_edit.specs.declared.edit.EditError.{EditError}
use Rattle.keel_edit.specs.declared.edit.EditError.TheVariants as errors

-- one byte between two bounds
unfoldable pub bounded_byte_at : ℕ → ℕ → List ℕ → Read ℕ
bounded_byte_at least most bytes = do
  b ← byte_at bytes
  if nat_le least b.0 && nat_le b.0 most then Ok b else Err (length bytes)

-- the byte 1
abbrev pub format_at : List ℕ → Read ℕ
format_at bytes = bounded_byte_at 1 1 bytes

-- a level, 0 to 3
abbrev pub level_at : List ℕ → Read ℕ
level_at bytes = bounded_byte_at 0 3 bytes

-- the number of a file
abbrev pub file_number_at : List ℕ → Read ℕ
file_number_at bytes = bounded_at w64 1 LAST_NUMBER bytes

-- another number
abbrev pub any_number_at : List ℕ → Read ℕ
any_number_at bytes = bounded_at w64 0 LAST_NUMBER bytes

-- the length of a key
abbrev pub key_length_at : List ℕ → Read ℕ
key_length_at bytes = bounded_at w32 1 LONGEST_KEY bytes

-- a key behind its length
unfoldable pub key_at : List ℕ → Read (List ℕ)
key_at bytes = sized_at key_length_at bytes

-- the greatest key; one that is below the least is found at its bytes
unfoldable pub greatest_at : List ℕ → List ℕ → Read (List ℕ)
greatest_at least bytes = do
  size ← key_length_at bytes
  key ← bytes_at size.0 size.1
  if key_le least key.0 then Ok key else Err (length size.1)

abbrev pub make_removed : ℕ × ℕ → Removed
make_removed p = record { level = p.0; number = p.1 }

-- a table that goes
unfoldable pub removed_at : List ℕ → Read Removed
removed_at bytes = made make_removed (both level_at file_number_at) bytes

abbrev pub Numbers : Type 0
Numbers = ((((ℕ × ℕ) × ℕ) × ℕ) × ℕ) × ℕ

-- level, number, size, rows, first and last sequence
unfoldable pub numbers_at : List ℕ → Read Numbers
numbers_at bytes =
    both (both (both (both (both level_at file_number_at) any_number_at) any_number_at) any_number_at) any_number_at bytes

abbrev pub make_added : (Numbers × List ℕ) × List ℕ → Added
make_added p = record {
  level = p.0.0.0.0.0.0.0;
  number = p.0.0.0.0.0.0.1;
  size = p.0.0.0.0.0.1;
  rows = p.0.0.0.0.1;
  first = p.0.0.0.1;
  last = p.0.0.1;
  least = p.0.1;
  greatest = p.1;
}

-- a table that comes
unfoldable pub added_at : List ℕ → Read Added
added_at bytes = made make_added (linked (both numbers_at key_at) (λ p. greatest_at p.1)) bytes

abbrev pub make_edit : ((((ℕ × ℕ) × ℕ) × ℕ) × List Removed) × List Added → Edit
make_edit p = record { min_log = p.0.0.0.0.1; next_file = p.0.0.0.1; last_seq = p.0.0.1; removed = p.0.1; added = p.1 }

-- the format, three numbers, the tables that go, the tables that come
unfoldable pub edit_at : List ℕ → Read Edit
edit_at bytes =
    made make_edit
    (both (both (both (both (both format_at any_number_at) file_number_at) any_number_at) (counted_at w32 removed_at))
    (counted_at w32 added_at)) bytes

-- the edit that the bytes are, or how many bytes are left where the first bad field begins
abbrev pub edit_of : List ℕ → Result Edit ℕ
edit_of bytes = alone (edit_at bytes)

-- what decoding answers for the bytes; a refusal names the place where the first bad field begins
abbrev pub Decodes : List ℕ → Result Edit EditError → Type 0
Decodes bytes (Ok found) = edit_of bytes ≡ Ok found
Decodes bytes (Err (errors.BadShape at)) = (left : ℕ) × (edit_of bytes ≡ Err left) × (at ≡ length bytes - left)
Decodes bytes (Err errors.OutOfMemory) = Unit {0}

-- that edit, unless memory ran out
abbrev pub Is : Result Edit EditError → Edit → Type 0
Is (Ok found) edit = found ≡ edit
Is (Err errors.OutOfMemory) edit = Unit {0}
Is (Err (errors.BadShape at)) edit = ⊥
