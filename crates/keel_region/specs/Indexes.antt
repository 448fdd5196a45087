-- What an index keeps of its tree, and what contracts know of it.
use Rattle.std.specs.Prelude.{◌≡◌, ◌≢◌, ℕ, ◌+◌, ◌≤◌, List, length, AllPairs, Contains, Option, IsSome}
use Rattle.keel_region.specs.declared.pool.Node.{Node}
use Rattle.keel_region.specs.declared.pool.Slot.{Slot}
use Rattle.keel_region.specs.Shown.{IndexShown}
use Rattle.keel_region.specs.Slots.{node_at}
use Rattle.keel_region.specs.Trees.{Tree, root_of, walk, places, height_of, IsBalanced, IsStored, tree_at}
use Rattle.keel_region.specs.Turns.{greatest_height}

-- each slot that is taken is reached, and none is reached twice
pub record IsReachedOnce (slots : List (Option Node)) (tree : Tree) : Type 0 where
  pub all : (place : ℕ) → IsSome (node_at slots place) → Contains (places tree) place
  pub once : AllPairs (λ place other. place ≢ other) (places tree)

-- what an index keeps: its balanced tree, whose nodes are all that are taken
pub record IsIndex (slots : List (Option Node)) (spare : ℕ) (root : Option Slot) : Type 0 where
  pub rooted : root_of (tree_at slots root) ≡ root
  pub stands : IsStored slots (tree_at slots root)
  pub count : length (walk (tree_at slots root)) + spare ≡ length slots
  pub balanced : IsBalanced (tree_at slots root)
  pub low : height_of (tree_at slots root) ≤ greatest_height
  pub reached : IsReachedOnce slots (tree_at slots root)

-- the tree that stands below an index's root: its walk is the entries, it is balanced, and it has each slot that is taken once
pub record HasBalancedTree (index : IndexShown) : Type 0 where
  pub tree : Tree
  pub rooted : root_of tree ≡ index.root
  pub stands : IsStored index.slots tree
  pub entries : walk tree ≡ index.entries
  pub balanced : IsBalanced tree
  pub reached : IsReachedOnce index.slots tree
