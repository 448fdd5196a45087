-- Rows summed up.
use Rattle.std.specs.Prelude.{ℕ, ◌+◌, ◌^◌, List, [], ◌∷◌, length, sum_by, min, max}
use Rattle.keel_base.specs.declared.row.Row.{Row}

-- the bytes of a row's key and value
abbrev pub row_bytes : Row → ℕ
row_bytes row = length row.key + length row.value

-- the bytes of all keys and values, and 16 for each row
abbrev pub weight_of : List Row → ℕ
weight_of rows = sum_by (λ row. 16 + row_bytes row) rows

-- the most that the rows may weigh
abbrev pub most_weight : ℕ
most_weight = 2 ^ 56

-- the least sequence number, 0 where there is no row
abbrev pub least_seq : List Row → ℕ
least_seq [] = 0
least_seq (row ∷ []) = row.seq
least_seq (row ∷ (other ∷ rows)) = min row.seq (least_seq (other ∷ rows))

-- the greatest one, 0 where there is no row
abbrev pub greatest_seq : List Row → ℕ
greatest_seq [] = 0
greatest_seq (row ∷ rows) = max row.seq (greatest_seq rows)

-- the least sequence number, or that one where there is no row
abbrev pub first_of : List Row → ℕ → ℕ
first_of [] seq = seq
first_of (row ∷ rows) seq = least_seq (row ∷ rows)
