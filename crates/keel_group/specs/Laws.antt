-- Laws of groups.
use Rattle.std.specs.Prelude.{◌≡◌, ℕ, ◌+◌, ◌≤◌, List, ◌++◌, length, take, drop}
use Rattle.keel_base.specs.declared.op.Batch.{Batch}
use Rattle.keel_group.specs.Queue.{Ticketed, batches_of, tickets_of, ops_count}
use Rattle.keel_group.specs.Sizes.{group_size, IsNextGroup}
use Rattle.keel_group.specs.Forming.{next_size, next_batches}

-- the size of a group is that of the longest prefix, and of no other
pub record IsLongestPrefix : Type 0 where
  pub is_next : (batches : List Batch) → IsNextGroup batches (group_size batches)
  pub only_one : (batches : List Batch) (one other : ℕ) → IsNextGroup batches one → IsNextGroup batches other → one ≡ other

-- a group and the rest are the queue, with all its ops
pub record AreAllOf (queue : List Ticketed) : Type 0 where
  pub within : next_size queue ≤ length queue
  pub group : length (next_batches queue) ≡ next_size queue
  pub rest : length (drop (next_size queue) queue) + next_size queue ≡ length queue
  pub batches : next_batches queue ++ batches_of (drop (next_size queue) queue) ≡ batches_of queue
  pub tickets : take (next_size queue) (tickets_of queue) ++ tickets_of (drop (next_size queue) queue) ≡ tickets_of queue
  pub ops : ops_count (next_batches queue) + ops_count (batches_of (drop (next_size queue) queue)) ≡ ops_count (batches_of queue)

abbrev pub GroupAndRest : Type 0
GroupAndRest = (queue : List Ticketed) → AreAllOf queue
