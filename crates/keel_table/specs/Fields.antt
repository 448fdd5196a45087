-- The parts of a table read from left to right, up to the first that is wrong.
use Rattle.std.specs.Prelude.{ℕ, zero, suc, ◌+◌, Bool, true, false, ◌&&◌, ◌==◌, List, [], ◌∷◌, length, Option, Some, None, Result, Ok, Err, nat_lt, nat_le, if◌then◌else◌}
use Rattle.std.specs.Int.{w32, w64}
use Rattle.std.specs.declared.cmp.Ordering.{Ordering}
use Rattle.std.specs.declared.cmp.Ordering.TheVariants.{Less, Equal, Greater}
use Rattle.keel_base.specs.declared.limits.TheConstants.{LONGEST_KEY}
use Rattle.keel_base.specs.declared.row.Row.{Row}
use Rattle.keel_base.specs.declared.row.Kind.{Kind}
use Rattle.keel_base.specs.declared.row.Kind.TheVariants as kinds
use Rattle.keel_base.specs.Keys.{key_cmp, key_lt}
use Rattle.keel_fields.specs.Reading.{Read, ◌>>=◌, number_at, bounded_at, bytes_at, sized_at, linked, both, made}
use Rattle.keel_table.specs.declared.index.BlockEntry.{BlockEntry}
use Rattle.keel_table.specs.declared.index.Footer.{Footer}
use Rattle.keel_base.specs.Rows.{most_value}

-- ---- rows

-- a kind, by its byte
unfoldable pub kind_at : List ℕ → Read Kind
kind_at [] = Err 0
kind_at (zero ∷ rest) = Ok (kinds.Del, rest)
kind_at (suc zero ∷ rest) = Ok (kinds.Put, rest)
kind_at (suc (suc b) ∷ rest) = Err (suc (length rest))

-- a number, a kind, the lengths of key and value
abbrev pub Header : Type 0
Header = ((ℕ × Kind) × ℕ) × ℕ

-- what stands before a row's key, with lengths within their limits
unfoldable pub header_at : List ℕ → Read Header
header_at bytes = linked (both (both (number_at w64) kind_at) (bounded_at w32 1 LONGEST_KEY)) (λ h. bounded_at w32 0 (most_value h.0.1)) bytes

-- the row of a header, a key and a value
abbrev pub make_row : (Header × List ℕ) × List ℕ → Row
make_row p = record { seq = p.0.0.0.0.0; kind = p.0.0.0.0.1; key = p.0.1; value = p.1 }

-- a row
unfoldable pub row_at : List ℕ → Read Row
row_at bytes = made make_row (linked (linked header_at (λ h. bytes_at h.0.1)) (λ p. bytes_at p.0.1)) bytes

-- whether a row may stand whose key compares so with the block's last key: one that is below it has another behind it
abbrev pub may_stand : Ordering → ℕ → Bool
may_stand Less left = nat_lt 0 left
may_stand Equal left = true
may_stand Greater left = false

-- whether a key is over the one before and at most the last, and is the last where nothing is left behind
abbrev pub has_offset : List ℕ → List ℕ → List ℕ → ℕ → Bool
has_offset before last key left = key_lt before key && may_stand (key_cmp key last) left

-- what a row's reading gives; anything wrong is found where the row begins
abbrev pub placed_row : ℕ → List ℕ → List ℕ → Read Row → Read Row
placed_row left before last (Err at) = Err left
placed_row left before last (Ok r) = if has_offset before last r.0.key (length r.1) then Ok r else Err left

-- a row with a key behind the one before, up to the last
unfoldable pub next_row_at : List ℕ → List ℕ → List ℕ → Read Row
next_row_at before last bytes = placed_row (length bytes) before last (row_at bytes)

-- rows up to the end of the bytes, so many at most
unfoldable pub rows_at : ℕ → List ℕ → List ℕ → List ℕ → Result (List Row) ℕ
rows_at zero before last bytes = Err (length bytes)
rows_at (suc n) before last bytes = do
  row ← next_row_at before last bytes
  if length row.1 == 0 then Ok (row.0 ∷ []) else (rows_at n row.0.key last row.1 >>= λ others. Ok (row.0 ∷ others))

-- rows that the bytes are, with keys behind the one before, up to the last; a row has a byte at least
abbrev pub all_rows_at : List ℕ → List ℕ → List ℕ → Result (List Row) ℕ
all_rows_at before last bytes = rows_at (length bytes) before last bytes

-- ---- the index

-- the entry of an offset, a size and a key
abbrev pub make_entry : (ℕ × ℕ) × List ℕ → BlockEntry
make_entry p = record { offset = p.0.0; size = p.0.1; last = p.1 }

-- an entry
unfoldable pub entry_at : List ℕ → Read BlockEntry
entry_at bytes = made make_entry (both (both (number_at w64) (number_at w32)) (sized_at (number_at w32))) bytes

-- whether a key is over the one before, where there is one
abbrev pub is_over : Option (List ℕ) → List ℕ → Bool
is_over None key = true
is_over (Some before) key = key_lt before key

-- whether an entry is that of a block at this offset, up to the index at most, with a key over the one before
abbrev pub entry_fits : ℕ → ℕ → Option (List ℕ) → BlockEntry → Bool
entry_fits index offset before e = (e.offset == offset) && (nat_le (offset + (e.size + 4)) index && is_over before e.last)

-- what an entry's reading gives; anything wrong is found where the entry begins
abbrev pub fitting_entry : ℕ → ℕ → ℕ → Option (List ℕ) → Read BlockEntry → Read BlockEntry
fitting_entry left index offset before (Err at) = Err left
fitting_entry left index offset before (Ok e) = if entry_fits index offset before e.0 then Ok e else Err left

-- an entry of the block at an offset
unfoldable pub next_entry_at : ℕ → ℕ → Option (List ℕ) → List ℕ → Read BlockEntry
next_entry_at index offset before bytes = fitting_entry (length bytes) index offset before (entry_at bytes)

-- so many entries of blocks that follow each other from an offset up to the index, and nothing behind them
unfoldable pub entries_at : ℕ → ℕ → ℕ → Option (List ℕ) → List ℕ → Result (List BlockEntry) ℕ
entries_at index zero offset before bytes = if (length bytes == 0) && (offset == index) then Ok [] else Err (length bytes)
entries_at index (suc n) offset before bytes = do
  e ← next_entry_at index offset before bytes
  others ← entries_at index n (offset + (e.0.size + 4)) (Some e.0.last) e.1
  Ok (e.0 ∷ others)

-- ---- the footer

-- the numbers of a footer
abbrev pub FooterParts : Type 0
FooterParts = ((((ℕ × ℕ) × ℕ) × ℕ) × ℕ) × ℕ

-- the footer of its numbers
abbrev pub make_footer : FooterParts → Footer
make_footer p = record { index = p.0.0.0.0.0; size = p.0.0.0.0.1; blocks = p.0.0.0.1; rows = p.0.0.1; first = p.0.1; last = p.1 }

-- a footer's numbers, and the bytes behind them
unfoldable pub footer_at : List ℕ → Read Footer
footer_at bytes = made make_footer (both (both (both (both (both (number_at w64) (number_at w32)) (number_at w32)) (number_at w64)) (number_at w64)) (number_at w64)) bytes

-- whether entries are those of blocks that follow each other from an offset up to the index, with keys that rise
abbrev pub in_order : ℕ → ℕ → Option (List ℕ) → List BlockEntry → Bool
in_order index offset before [] = offset == index
in_order index offset before (e ∷ es) = entry_fits index offset before e && in_order index (offset + (e.size + 4)) (Some e.last) es

-- the last key of entries, where there is one
abbrev pub last_of : Option (List ℕ) → List BlockEntry → Option (List ℕ)
last_of before [] = before
last_of before (e ∷ es) = last_of (Some e.last) es
