-- The points that a crash may leave.
use Rattle.std.specs.Prelude.{◌≡◌, ℕ, ◌+◌, ◌≤◌, List, ◌++◌, length, take}
use Rattle.keel_base.specs.declared.op.Op.{Op}
use Rattle.keel_base.specs.Points.{Point, fold_batches}

-- The point is behind the first so many batches of those that were published and of those that were handed to a log and
-- weren't, in their order, and behind at least so many.
pub record InPrefixes (start : Point) (log limbo : List (List Op)) (least : ℕ) (point : Point) : Type 0 where
  pub count : ℕ
  pub enough : least ≤ count
  pub within : count ≤ length log + length limbo
  pub point_is : point ≡ fold_batches start (take count (log ++ limbo))
