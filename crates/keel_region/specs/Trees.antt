-- Search trees whose nodes lie in the slots of a pool.
use Rattle.std.specs.Prelude.{◌≡◌, ℕ, zero, suc, ◌+◌, ◌≤◌, max, Bool, true, false, List, [], ◌∷◌, ◌++◌, length, All, Contains, Option, Some, None, IsSome, if◌then◌else◌}
use Rattle.keel_region.specs.declared.span.IndexEntry.{IndexEntry}
use Rattle.keel_region.specs.declared.pool.Node.{Node}
use Rattle.keel_region.specs.declared.pool.Slot.{Slot}
use Rattle.keel_region.specs.Order.{entry_before, AreInOrder}
use Rattle.keel_region.specs.Slots.{node_at}
use Rattle.keel_region.specs.Spans.{bytes_at}

-- a tree of nodes: the place, entry and height of each, and its subtrees
pub data Tree : Type 0 where
  Leaf : Tree
  Fork : ℕ → IndexEntry → ℕ → Tree → Tree → Tree

-- the slot of its root
abbrev pub root_of : Tree → Option Slot
root_of Leaf = None
root_of (Fork place entry height left right) = Some (record { place = place })

-- its entries from left to right
abbrev pub walk : Tree → List IndexEntry
walk Leaf = []
walk (Fork place entry height left right) = walk left ++ entry ∷ walk right

-- the slots of its nodes, in the same order
abbrev pub places : Tree → List ℕ
places Leaf = []
places (Fork place entry height left right) = places left ++ place ∷ places right

-- the height that its root keeps
abbrev pub height_of : Tree → ℕ
height_of Leaf = 0
height_of (Fork place entry height left right) = height

-- two subtrees whose heights differ by at most one
pub record AreEven (left right : Tree) : Type 0 where
  pub left_low : height_of left ≤ height_of right + 1
  pub right_low : height_of right ≤ height_of left + 1

-- each node keeps its height, one more than the greater of its children's, which are even
abbrev pub IsBalanced : Tree → Type 0
IsBalanced Leaf = Unit {0}
IsBalanced (Fork place entry height left right) =
    (height ≡ suc (max (height_of left) (height_of right))) × AreEven left right × IsBalanced left × IsBalanced right

-- its nodes stand in their slots
abbrev pub IsStored : List (Option Node) → Tree → Type 0
IsStored slots Leaf = Unit {0}
IsStored slots (Fork place entry height left right) =
    (node_at slots place ≡ Some (record { entry = entry; left = root_of left; right = root_of right; height = height })) × IsStored slots left × IsStored slots right

-- the node of a root
abbrev pub node_below : List (Option Node) → Option Slot → Option Node
node_below slots None = None
node_below slots (Some slot) = node_at slots slot.place

-- the height that a root keeps
abbrev pub height_at : List (Option Node) → Option Slot → ℕ
height_at slots root = elim (node_below slots root) [ None ↦ 0 | Some node ↦ node.height ]

-- the tree below a root, so many nodes deep
unfoldable pub grown : ℕ → List (Option Node) → Option Slot → Tree
grown zero slots root = Leaf
grown (suc n) slots None = Leaf
grown (suc n) slots (Some slot) =
    elim (node_at slots slot.place) [ None ↦ Leaf | Some node ↦ Fork slot.place node.entry node.height (grown n slots node.left) (grown n slots node.right) ]

-- the tree below a root, which is no deeper than there are slots
abbrev pub tree_at : List (Option Node) → Option Slot → Tree
tree_at slots root = grown (length slots) slots root

-- a tree stands below the root, with no more nodes than slots, and that holds of its entries
pub record HasTree (holds : IndexEntry → Type 0) (slots : List (Option Node)) (root : Option Slot) : Type 0 where
  pub tree : Tree
  pub rooted : root_of tree ≡ root
  pub stands : IsStored slots tree
  pub few : length (walk tree) ≤ length slots
  pub held : All holds (walk tree)

-- the slot's node has that entry
pub record HasEntry (slots : List (Option Node)) (place : ℕ) (entry : IndexEntry) : Type 0 where
  pub node : Node
  pub there : node_at slots place ≡ Some node
  pub is : node.entry ≡ entry

-- nodes of entries beside these stay
abbrev pub KeepsOthers : List (Option Node) → List (Option Node) → List IndexEntry → Type 0
KeepsOthers old new entries = (place : ℕ) (node : Node) → node_at old place ≡ Some node → (Contains entries node.entry → ⊥) → node_at new place ≡ Some node

-- slots that were taken are taken still
abbrev pub KeepsTaken : List (Option Node) → List (Option Node) → Type 0
KeepsTaken old new = (place : ℕ) → IsSome (node_at old place) → IsSome (node_at new place)

-- a tree of these entries stands below the root now, of which that is known, and nodes of other entries stay
pub record Makes (known : Tree → Type 0) (old new : List (Option Node)) (entries : List IndexEntry) (root : Option Slot) : Type 0 where
  pub tree : Tree
  pub rooted : root_of tree ≡ root
  pub stands : IsStored new tree
  pub is : walk tree ≡ entries
  pub shape : known tree
  pub others : KeepsOthers old new entries

-- the trees below a node's children and its entry between them are the tree below the root now, of which that is known
abbrev pub Joins : (Tree → Tree → Tree → Type 0) → List (Option Node) → List (Option Node) → ℕ → Node → Slot → Type 0
Joins known old new place node root = (bytes : List ℕ) (left right : Tree) → IsStored old left → root_of left ≡ node.left → IsStored old right → root_of right ≡ node.right
    → HasEntry old place node.entry → AreInOrder bytes (walk left ++ node.entry ∷ walk right) → Makes (known left right) old new (walk left ++ node.entry ∷ walk right) (Some root)

-- the tree below the old root has the same entries below the new one, and that is known of both
abbrev pub Rebuilds : (Tree → Tree → Type 0) → List (Option Node) → List (Option Node) → Option Slot → Option Slot → Type 0
Rebuilds known old new root next = (bytes : List ℕ) (tree : Tree) → IsStored old tree → root_of tree ≡ root → AreInOrder bytes (walk tree) → Makes (known tree) old new (walk tree) next

-- an entry put in front of the first that fails the test
abbrev pub put_in : (IndexEntry → Bool) → IndexEntry → List IndexEntry → List IndexEntry
put_in test entry [] = entry ∷ []
put_in test entry (other ∷ entries) = if test other then other ∷ put_in test entry entries else entry ∷ (other ∷ entries)

-- the first entry that fails the test, or else that one
abbrev pub failing_or : (IndexEntry → Bool) → List IndexEntry → Option IndexEntry → Option IndexEntry
failing_or test [] best = best
failing_or test (entry ∷ entries) best = if test entry then failing_or test entries best else Some entry

-- whether an entry doesn't come behind this one
abbrev pub is_up_to : List ℕ → IndexEntry → IndexEntry → Bool
is_up_to bytes entry other = if entry_before bytes (bytes_at bytes other.key) (Some other.seq) entry then false else true
