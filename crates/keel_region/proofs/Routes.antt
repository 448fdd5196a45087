-- The way down a tree, one slot longer at each step.
use Rattle.std.proofs.Common.{◌≡◌, ℕ, zero, suc, ◌+◌, ◌≤◌, List, [], ◌∷◌, ◌++◌, length, Option, Some, None, append_assoc, sym, ap, subst, ◌∙◌, arith}
use Rattle.std.specs.Prelude.{slice_get}
use Rattle.std.proofs.lemmas.List.{length-append}
use Rattle.keel_region.specs.declared.span.IndexEntry.{IndexEntry}
use Rattle.keel_region.specs.declared.pool.Node.{Node}
use Rattle.keel_region.specs.declared.pool.Slot.{Slot}
use Rattle.keel_region.specs.Slots.{node_at}
use Rattle.keel_region.specs.Trees.{Fork, walk, height_of, IsBalanced, tree_at, HasTree}
use Rattle.keel_region.specs.Ways.{child_towards, IsStepOfWay, IsSearchWay, AddsWay}
use Rattle.keel_region.proofs.Growing.{tree_is}
use Rattle.keel_region.proofs.Trees.{halves}

-- the tree below a child of a balanced one is balanced and lower
pub record IsLowerThan (slots : List (Option Node)) (child root : Option Slot) : Type 0 where
  pub balanced : IsBalanced (tree_at slots child)
  pub lower : height_of (tree_at slots child) + 1 ≤ height_of (tree_at slots root)

module _ (holds : IndexEntry → Type 0) (slots : List (Option Node)) (root : Option Slot) (slot : Slot) (node : Node) (has : HasTree holds slots root) (is : root ≡ Some slot)
    (there : node_at slots slot.place ≡ Some node) (balanced : IsBalanced (tree_at slots root)) where
  pub left_lower : IsLowerThan slots node.left root
  left_lower =
      let half = halves slots has.tree slot node has.stands (has.rooted ∙ is) there in
      let size = ap length half.is ∙ length-append (walk half.left) (node.entry ∷ walk half.right) in
      let whole : tree_at slots root ≡ Fork slot.place node.entry node.height half.left half.right = tree_is slots root has.tree has.stands has.rooted has.few ∙ half.fork in
      let part = tree_is slots node.left half.left half.stands_left half.root_left (omega (arith, has.few, size)) in
      let own : IsBalanced (Fork slot.place node.entry node.height half.left half.right) = subst IsBalanced whole balanced in
      record { balanced = subst IsBalanced (sym part) own.2; lower = omega (arith, ap height_of whole, ap height_of part, own.0) }

  pub right_lower : IsLowerThan slots node.right root
  right_lower =
      let half = halves slots has.tree slot node has.stands (has.rooted ∙ is) there in
      let size = ap length half.is ∙ length-append (walk half.left) (node.entry ∷ walk half.right) in
      let whole : tree_at slots root ≡ Fork slot.place node.entry node.height half.left half.right = tree_is slots root has.tree has.stands has.rooted has.few ∙ half.fork in
      let part = tree_is slots node.right half.right half.stands_right half.root_right (omega (arith, has.few, size)) in
      let own : IsBalanced (Fork slot.place node.entry node.height half.left half.right) = subst IsBalanced whole balanced in
      record { balanced = subst IsBalanced (sym part) own.3; lower = omega (arith, ap height_of whole, ap height_of part, own.0) }

  -- so there is room for its root
  pub room : (n bound : ℕ) → n + height_of (tree_at slots root) ≤ bound → n + 1 ≤ bound
  room n bound le = omega (arith, left_lower.lower, le)

same_slot : (a b : Slot) → Some a ≡ Some b → a ≡ b
same_slot a b e = ap (λ (o : Option Slot). elim o [ None ↦ a | Some n ↦ n ]) e

module _ (bytes key : List ℕ) (seq : ℕ) (slots : List (Option Node)) (slot : Slot) (node : Node) (there : node_at slots slot.place ≡ Some node) (child : Option Slot)
    (towards : child_towards bytes key seq node ≡ child) where
  step : (way : List Slot) → IsSearchWay bytes key seq slots child way → (k : ℕ) (at : Slot) → slice_get (slot ∷ way) k ≡ Some at → IsStepOfWay bytes key seq slots (slot ∷ way) k at
  step way follows zero at is = record {
    node = node;
    there = subst (λ (s : Slot). node_at slots s.place ≡ Some node) (same_slot slot at is) there;
    next = follows.first ∙ sym towards;
  }
  step way follows (suc k) at is =
      let next = follows.steps k at is in
      let count : suc k + 1 ≡ suc (k + 1) = omega arith in
      record { node = next.node; there = next.there; next = ap (slice_get (slot ∷ way)) count ∙ next.next }

  pub longer_way : (root : Option Slot) (old mid new : List Slot) → root ≡ Some slot → mid ≡ old ++ slot ∷ [] → height_of (tree_at slots child) + 1 ≤ height_of (tree_at slots root)
      → AddsWay bytes key seq slots child mid new → AddsWay bytes key seq slots root old new
  longer_way root old mid new is pushed lower adds = record {
    way = slot ∷ adds.way;
    is = adds.is ∙ ap (λ (xs : List Slot). xs ++ adds.way) pushed ∙ append_assoc old (slot ∷ []) adds.way;
    follows = record { first = sym is; steps = step adds.way adds.follows };
    low = omega (arith, adds.low, lower);
  }

-- a way that is added to none is the whole way
pub whole_way : (bytes key : List ℕ) (seq : ℕ) (slots : List (Option Node)) (root : Option Slot) (old new : List Slot) → old ≡ [] → AddsWay bytes key seq slots root old new
    → IsSearchWay bytes key seq slots root new
whole_way bytes key seq slots root old new none adds =
    subst (IsSearchWay bytes key seq slots root) (sym (adds.is ∙ ap (λ (xs : List Slot). xs ++ adds.way) none)) adds.follows

pub whole_low : (bytes key : List ℕ) (seq : ℕ) (slots : List (Option Node)) (root : Option Slot) (old new : List Slot) → old ≡ [] → AddsWay bytes key seq slots root old new
    → length new ≤ height_of (tree_at slots root)
whole_low bytes key seq slots root old new none adds =
    omega (arith, ap length adds.is, length-append old adds.way, ap length none, adds.low)
