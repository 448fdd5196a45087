-- What a walk over the rows of a block takes along.
use Rattle.std.specs.Prelude.{ℕ, Bool, true, List, filter, Option, Some, None, Result, Ok, Err, option_map}
use Rattle.std.specs.Borrow.{Bor}
use Rattle.keel_base.specs.declared.row.Row.{Row}
use Rattle.keel_base.specs.Keys.{key_eq}
use Rattle.keel_table.specs.declared.view.RowView.{RowView}
use Rattle.keel_table.specs.Opening.{Damage, and_then, row_of}

-- the row with the bytes that the references point to
abbrev pub row_shown : RowView → Row
row_shown view = record { seq = view.seq; kind = view.kind; key = view.key.now; value = view.value.now }

-- the key that is asked for, if any
abbrev pub key_asked : Option (Bor (List ℕ)) → Option (List ℕ)
key_asked key = option_map (λ k. k.now) key

-- whether a row is taken along: that of the key that is asked for, and each where none is
abbrev pub is_asked : Option (List ℕ) → Row → Bool
is_asked None row = true
is_asked (Some key) row = key_eq row.key key

-- of rows that are read those that are taken along
abbrev pub asked_rows : Option (List ℕ) → Result (List Row) ℕ → Result (List Row) ℕ
asked_rows key (Ok rows) = Ok (filter (is_asked key) rows)
asked_rows key (Err left) = Err left

-- the same of rows that are found
abbrev pub asked_found : Option (List ℕ) → Result (List Row) Damage → Result (List Row) Damage
asked_found key (Ok rows) = Ok (filter (is_asked key) rows)
asked_found key (Err damage) = Err damage

-- the row of a key among rows that are found
abbrev pub row_among : List ℕ → Result (List Row) Damage → Result (Option Row) Damage
row_among key found = and_then found (λ rows. Ok (row_of key rows))
