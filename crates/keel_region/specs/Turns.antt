-- What the steps of an insert make of the heights of trees.
use Rattle.std.specs.Prelude.{◌≡◌, ℕ, suc, ◌+◌, ◌-◌, ◌^◌, ◌<◌, ◌≤◌, min, max}
use Rattle.keel_region.specs.declared.span.IndexEntry.{IndexEntry}
use Rattle.keel_region.specs.Trees.{Tree, Leaf, Fork, height_of, AreEven, IsBalanced}

-- no balanced tree of less than 2^57 entries is higher
abbrev pub greatest_height : ℕ
greatest_height = 96

-- a root over two trees keeps the height that they give it, as far as a byte goes
pub record IsOver (left right tree : Tree) : Type 0 where
  pub place : ℕ
  pub entry : IndexEntry
  pub is : tree ≡ Fork place entry (min (2 ^ 8 - 1) (suc (max (height_of left) (height_of right)))) left right

-- the first two below a root of their own on the left
pub record IsLowerLeft (first second third tree : Tree) : Type 0 where
  pub below : Tree
  pub pair : IsOver first second below
  pub whole : IsOver below third tree

-- the last two below a root of their own on the right
pub record IsLowerRight (first second third tree : Tree) : Type 0 where
  pub below : Tree
  pub pair : IsOver second third below
  pub whole : IsOver first below tree

-- the root of the left tree, where there is one, stands over all
abbrev pub RaisesLeft : Tree → Tree → Tree → Type 0
RaisesLeft Leaf right tree = IsOver Leaf right tree
RaisesLeft (Fork place entry height outer inner) right tree = IsLowerRight outer inner right tree

-- and that of the right tree
abbrev pub RaisesRight : Tree → Tree → Tree → Type 0
RaisesRight left Leaf tree = IsOver left Leaf tree
RaisesRight left (Fork place entry height inner outer) tree = IsLowerLeft left inner outer tree

-- the right root stands over all where the right side is higher, and else nothing changes
pub record LeansLeftBy (left right old new : Tree) : Type 0 where
  pub turned : height_of left < height_of right → RaisesRight left right new
  pub same : height_of right ≤ height_of left → new ≡ old

abbrev pub LeansLeft : Tree → Tree → Type 0
LeansLeft Leaf new = new ≡ Leaf
LeansLeft (Fork place entry height left right) new = LeansLeftBy left right (Fork place entry height left right) new

-- the left root stands over all where the left side is higher
pub record LeansRightBy (left right old new : Tree) : Type 0 where
  pub turned : height_of right < height_of left → RaisesLeft left right new
  pub same : height_of left ≤ height_of right → new ≡ old

abbrev pub LeansRight : Tree → Tree → Type 0
LeansRight Leaf new = new ≡ Leaf
LeansRight (Fork place entry height left right) new = LeansRightBy left right (Fork place entry height left right) new

-- balanced trees whose heights differ by at most two, and which aren't too high
pub record AreNear (left right : Tree) : Type 0 where
  pub left_balanced : IsBalanced left
  pub right_balanced : IsBalanced right
  pub left_near : height_of left ≤ height_of right + 2
  pub right_near : height_of right ≤ height_of left + 2
  pub left_low : height_of left ≤ greatest_height + 1
  pub right_low : height_of right ≤ greatest_height + 1

-- of such trees a balanced one is made, and of even ones it is higher by one
pub record IsEvenedOf (left right tree : Tree) : Type 0 where
  pub balanced : IsBalanced tree
  pub least : max (height_of left) (height_of right) ≤ height_of tree
  pub most : height_of tree ≤ suc (max (height_of left) (height_of right))
  pub over : AreEven left right → height_of tree ≡ suc (max (height_of left) (height_of right))

abbrev pub Evens : Tree → Tree → Tree → Type 0
Evens left right tree = AreNear left right → IsEvenedOf left right tree

-- a tree that isn't too high stays balanced, and grows by one at most
pub record IsGrownOf (old new : Tree) : Type 0 where
  pub balanced : IsBalanced new
  pub least : height_of old ≤ height_of new
  pub most : height_of new ≤ height_of old + 1

abbrev pub Grows : Tree → Tree → Type 0
Grows old new = IsBalanced old → height_of old ≤ greatest_height → IsGrownOf old new
