-- How many bytes the parts of a table have.
use Rattle.std.proofs.Common.{◌≡◌, ℕ, ◌+◌, List, ◌∷◌, ◌++◌, length, refl, arith}
use Rattle.std.proofs.lemmas.List.{length-append}
use Rattle.keel_base.specs.declared.row.Row.{Row}
use Rattle.keel_frag.specs.Checksum.{crc32c, mask}
use Rattle.keel_table.specs.Spelling.{number, count, kind_byte, row_bytes, checked}

pub length-number : (n : ℕ) → length (number n) ≡ 8
unfolding number
length-number n = refl

pub length-count : (n : ℕ) → length (count n) ≡ 4
unfolding count
length-count n = refl

pub length-row : (r : Row) → length (row_bytes r) ≡ 17 + length r.key + length r.value
length-row r =
    let texts : List ℕ = r.key ++ r.value in
    let behind : List ℕ = count (length r.value) ++ texts in
    let lengths : List ℕ = count (length r.key) ++ behind in
    omega (
      arith,
      length-append (number r.seq) (kind_byte r.kind ∷ lengths),
      length-append (count (length r.key)) behind,
      length-append (count (length r.value)) texts,
      length-append r.key r.value,
      length-number r.seq,
      length-count (length r.key),
      length-count (length r.value),
    )

pub length-checked : (bytes : List ℕ) → length (checked bytes) ≡ length bytes + 4
unfolding checked
length-checked bytes = omega (arith, length-append bytes (count (mask (crc32c bytes))), length-count (mask (crc32c bytes)))
