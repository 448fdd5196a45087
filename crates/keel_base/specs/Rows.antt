-- What a row is, and what rows say of keys: of all rows of a key, the one of the greatest sequence number counts.
use Rattle.std.specs.Prelude.{◌≡◌, ℕ, ◌+◌, ◌^◌, ◌<◌, ◌≤◌, List, [], ◌∷◌, length, Option, Some, None, nat_lt, if◌then◌else◌}
use Rattle.std.specs.FinMap.{get}
use Rattle.keel_base.specs.declared.limits.TheConstants.{LONGEST_KEY, LONGEST_VALUE}
use Rattle.keel_base.specs.declared.op.Op.{Op}
use Rattle.keel_base.specs.declared.op.Op.TheVariants.{Put, Del}
use Rattle.keel_base.specs.declared.row.Row.{Row}
use Rattle.keel_base.specs.declared.row.Kind.{Kind}
use Rattle.keel_base.specs.declared.row.Kind.TheVariants as kinds
use Rattle.keel_base.specs.Keys.{key_eq}
use Rattle.keel_base.specs.Points.{Values}

-- how many bytes the value of a row of that kind may have
abbrev pub most_value : Kind → ℕ
most_value kinds.Put = LONGEST_VALUE
most_value kinds.Del = 0

-- a key and a value within their limits; a delete has an empty value
pub record IsRow (r : Row) : Type 0 where
  pub seq : r.seq < 2 ^ 64
  pub least : 1 ≤ length r.key
  pub most : length r.key ≤ LONGEST_KEY
  pub value : length r.value ≤ most_value r.kind

-- what an op of that number leaves
abbrev pub op_row : ℕ → Op → Row
op_row seq (Put key value) = record { seq = seq; kind = kinds.Put; key = key; value = value }
op_row seq (Del key) = record { seq = seq; kind = kinds.Del; key = key; value = [] }

-- the rows of ops that are numbered from a number on
abbrev pub op_rows : ℕ → List Op → List Row
op_rows seq [] = []
op_rows seq (op ∷ ops) = op_row seq op ∷ op_rows (seq + 1) ops

-- of two rows the one of the greater number
abbrev pub newer : Row → Option Row → Option Row
newer row None = Some row
newer row (Some other) = if nat_lt row.seq other.seq then Some other else Some row

-- of the rows of a key the one of the greatest number
abbrev pub newest : List ℕ → List Row → Option Row
newest key [] = None
newest key (row ∷ rows) = if key_eq row.key key then newer row (newest key rows) else newest key rows

abbrev pub kept : Kind → List ℕ → Option (List ℕ)
kept kinds.Put value = Some value
kept kinds.Del value = None

-- the value that a row leaves, where it leaves one
abbrev pub value_left : Option Row → Option (List ℕ)
value_left None = None
value_left (Some row) = kept row.kind row.value

-- the map has for each key what the newest of its rows leaves
abbrev pub IsMapOf : List Row → Values → Type 0
IsMapOf rows values = (key : List ℕ) → get values key ≡ value_left (newest key rows)
