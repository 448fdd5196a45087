-- Slots of a pool and their nodes.
use Rattle.std.specs.Prelude.{◌≡◌, ◌≢◌, ℕ, ◌+◌, ◌<◌, ◌≤◌, List, length, All, AllPairs, count_by, Option, None, is_some, slice_index_or}
use Rattle.keel_region.specs.declared.pool.Node.{Node}

-- what each slot holds, and how many more nodes have room
pub record PoolShown : Type 0 where
  pub slots : List (Option Node)
  pub spare : ℕ

-- the node of a slot, none where it isn't taken
abbrev pub node_at : List (Option Node) → ℕ → Option Node
node_at slots place = slice_index_or slots place None

-- every slot holds what it held
abbrev pub KeepsNodes : List (Option Node) → List (Option Node) → Type 0
KeepsNodes old new = (place : ℕ) → node_at new place ≡ node_at old place

-- a slot that is there and not taken
pub record IsVacant (slots : List (Option Node)) (place : ℕ) : Type 0 where
  pub there : place < length slots
  pub empty : node_at slots place ≡ None

-- the free slots are all that aren't taken, each once
pub record IsPool (slots : List (Option Node)) (free : List ℕ) : Type 0 where
  pub vacant : All (IsVacant slots) free
  pub apart : AllPairs (λ place other. place ≢ other) free
  pub count : length free + count_by is_some slots ≡ length slots

-- and there is room for all slots among the free ones
pub record IsRoomy (slots : List (Option Node)) (free : List ℕ) (capacity : ℕ) : Type 0 where
  pub pool : IsPool slots free
  pub room : length slots ≤ capacity
