-- What a store contains at a moment, and what batches make of it.
use Rattle.std.specs.Prelude.{ℕ, ◌+◌, List, [], ◌∷◌, length}
use Rattle.std.specs.FinMap.{FinMap, insert, remove, empty}
use Rattle.keel_base.specs.declared.op.Op.{Op}
use Rattle.keel_base.specs.declared.op.Op.TheVariants.{Put, Del}
use Rattle.keel_base.specs.Keys.{key_cmp}

-- a value for each of some keys
abbrev pub Values : Type 0
Values = FinMap key_cmp (List ℕ)

-- a map, and the sequence number of the last op that made it
pub record Point : Type 0 where
  pub values : Values
  pub seq : ℕ

-- the empty map, before the first op
abbrev pub origin : Point
origin = record { values = empty; seq = 0 }

-- a put sets its key, a delete takes it away
abbrev pub after_op : Op → Values → Values
after_op (Put key value) values = insert values key value
after_op (Del key) values = remove values key

abbrev pub after_ops : List Op → Values → Values
after_ops [] values = values
after_ops (op ∷ ops) values = after_ops ops (after_op op values)

-- the point behind the ops of one batch
abbrev pub after_batch : Point → List Op → Point
after_batch point ops = record { values = after_ops ops point.values; seq = point.seq + length ops }

-- the point behind batches in order
abbrev pub fold_batches : Point → List (List Op) → Point
fold_batches point [] = point
fold_batches point (ops ∷ batches) = fold_batches (after_batch point ops) batches
