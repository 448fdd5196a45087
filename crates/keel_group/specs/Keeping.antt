-- What holds of every queue.
use Rattle.std.specs.Prelude.{◌≡◌, ℕ, ◌≤◌, List, length}
use Rattle.keel_base.specs.declared.op.Batch.{Batch}
use Rattle.keel_group.specs.declared.formed.TheConstants.{MAX_WAITING}
use Rattle.keel_group.specs.Forming.{EachIsAdmissible}

-- as many tickets as batches, no more than may wait, each batch admissible
pub record IsKeptQueue (tickets : List ℕ) (batches : List Batch) : Type 0 where
  pub as_many : length tickets ≡ length batches
  pub few : length batches ≤ MAX_WAITING
  pub each : EachIsAdmissible batches
