-- The way down a tree to the place of a key and sequence.
use Rattle.std.specs.Prelude.{◌≡◌, ℕ, ◌+◌, ◌≤◌, List, ◌++◌, length, slice_get, Option, Some, if◌then◌else◌}
use Rattle.keel_region.specs.declared.pool.Node.{Node}
use Rattle.keel_region.specs.declared.pool.Slot.{Slot}
use Rattle.keel_region.specs.Order.{entry_before}
use Rattle.keel_region.specs.Slots.{node_at}
use Rattle.keel_region.specs.Trees.{height_of, tree_at}

-- the child on whose side the place is: right where the node's entry comes before, and else left
abbrev pub child_towards : List ℕ → List ℕ → ℕ → Node → Option Slot
child_towards bytes key seq node = if entry_before bytes key (Some seq) node.entry then node.right else node.left

-- a slot of the way holds a node, and behind it comes the child towards the place, or nothing where there is none
pub record IsStepOfWay (bytes key : List ℕ) (seq : ℕ) (slots : List (Option Node)) (way : List Slot) (k : ℕ) (slot : Slot) : Type 0 where
  pub node : Node
  pub there : node_at slots slot.place ≡ Some node
  pub next : slice_get way (k + 1) ≡ child_towards bytes key seq node

-- the way begins at the root, and each slot of it says what comes next
pub record IsSearchWay (bytes key : List ℕ) (seq : ℕ) (slots : List (Option Node)) (root : Option Slot) (way : List Slot) : Type 0 where
  pub first : slice_get way 0 ≡ root
  pub steps : (k : ℕ) (slot : Slot) → slice_get way k ≡ Some slot → IsStepOfWay bytes key seq slots way k slot

-- the way from that root on was added
pub record AddsWay (bytes key : List ℕ) (seq : ℕ) (slots : List (Option Node)) (root : Option Slot) (old new : List Slot) : Type 0 where
  pub way : List Slot
  pub is : new ≡ old ++ way
  pub follows : IsSearchWay bytes key seq slots root way
  pub low : length way ≤ height_of (tree_at slots root)
