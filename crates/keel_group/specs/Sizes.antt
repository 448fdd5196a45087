-- How many batches from the front of the queue form the next group.
use Rattle.std.specs.Prelude.{ℕ, suc, ◌-◌, ◌<◌, ◌≤◌, List, [], ◌∷◌, length, take, sum_by, max, nat_le, if◌then◌else◌}
use Rattle.keel_base.specs.declared.op.Batch.{Batch}
use Rattle.keel_base.specs.Weight.{weight_of}
use Rattle.keel_group.specs.declared.formed.TheConstants.{MAX_GROUP_WEIGHT}

abbrev pub batch_weight : Batch → ℕ
batch_weight batch = weight_of batch.ops

-- what the batches weigh together
abbrev pub weight_together : List Batch → ℕ
weight_together batches = sum_by batch_weight batches

-- how many batches from the front fit into so much weight together
abbrev pub fitting : ℕ → List Batch → ℕ
fitting room [] = 0
fitting room (batch ∷ batches) =
    if nat_le (batch_weight batch) room then suc (fitting (room - batch_weight batch) batches) else 0

-- as many batches as fit into a group, and at least the first
abbrev pub group_size : List Batch → ℕ
group_size [] = 0
group_size (batch ∷ batches) = max 1 (fitting MAX_GROUP_WEIGHT (batch ∷ batches))

-- so many batches from the front are the longest list of them that is light enough for a group, or the first alone
pub record IsNextGroup (batches : List Batch) (count : ℕ) : Type 0 where
  pub within : count ≤ length batches
  pub some : 0 < length batches → 0 < count
  pub light : 1 < count → weight_together (take count batches) ≤ MAX_GROUP_WEIGHT
  pub longest : (other : ℕ) → other ≤ length batches → weight_together (take other batches) ≤ MAX_GROUP_WEIGHT → other ≤ count
