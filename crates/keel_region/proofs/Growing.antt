-- The tree below a root is the one that stands there.
use Rattle.std.proofs.Common.{◌≡◌, ℕ, zero, suc, ◌<◌, ◌≤◌, List, [], ◌∷◌, ◌++◌, length, Option, Some, None, refl, sym, ap, subst, ◌∙◌, arith}
use Rattle.std.proofs.lemmas.List.{length-append}
use Rattle.std.proofs.lemmas.List.Elements.{All-contains}
use Rattle.keel_region.specs.declared.span.IndexEntry.{IndexEntry}
use Rattle.keel_region.specs.declared.pool.Node.{Node}
use Rattle.keel_region.specs.declared.pool.Slot.{Slot}
use Rattle.keel_region.specs.Slots.{node_at}
use Rattle.keel_region.specs.Trees.{Tree, Leaf, Fork, root_of, walk, IsStored, grown, tree_at, HasTree}
use Rattle.std.specs.Prelude.{All}
use Rattle.keel_region.proofs.Trees.{halves, middle, all_front, all_back}

unfold_some : (n : ℕ) (slots : List (Option Node)) (slot : Slot) (node : Node) → node_at slots slot.place ≡ Some node
    → grown (suc n) slots (Some slot) ≡ Fork slot.place node.entry node.height (grown n slots node.left) (grown n slots node.right)
unfolding grown
unfold_some n slots slot node e =
    ap (λ (o : Option Node). elim o [ None ↦ Leaf | Some m ↦ Fork slot.place m.entry m.height (grown n slots m.left) (grown n slots m.right) ]) e

pub unfold_none : (n : ℕ) (slots : List (Option Node)) → grown n slots None ≡ Leaf
unfolding grown
unfold_none zero slots = refl
unfold_none (suc n) slots = refl

-- a tree that stands is what grows from its root
pub grows : (n : ℕ) (slots : List (Option Node)) (tree : Tree) → IsStored slots tree → length (walk tree) ≤ n → grown n slots (root_of tree) ≡ tree
grows n slots Leaf stands le = unfold_none n slots
grows zero slots (Fork place entry height left right) stands le = absurd (omega (arith, length-append (walk left) (entry ∷ walk right)))
grows (suc n) slots (Fork place entry height left right) stands le =
    let size = length-append (walk left) (entry ∷ walk right) in
    let first = grows n slots left stands.1 (omega (arith, size)) in
    let second = grows n slots right stands.2 (omega (arith, size)) in
    unfold_some n slots (record { place = place }) (record { entry = entry; left = root_of left; right = root_of right; height = height }) stands.0
    ∙ (λ i. Fork place entry height (first i) (second i))

pub tree_is : (slots : List (Option Node)) (root : Option Slot) (tree : Tree) → IsStored slots tree → root_of tree ≡ root → length (walk tree) ≤ length slots
    → tree_at slots root ≡ tree
tree_is slots root tree stands rooted few = ap (λ (r : Option Slot). grown (length slots) slots r) (sym rooted) ∙ grows (length slots) slots tree stands few

-- what stands below a node's children
pub has_left : (holds : IndexEntry → Type 0) (slots : List (Option Node)) (root : Option Slot) (slot : Slot) (node : Node) → HasTree holds slots root → root ≡ Some slot → node_at slots slot.place ≡ Some node
    → HasTree holds slots node.left
has_left holds slots root slot node has is there =
    let half = halves slots has.tree slot node has.stands (has.rooted ∙ is) there in
    record {
      tree = half.left;
      rooted = half.root_left;
      stands = half.stands_left;
      few = omega (arith, has.few, ap length half.is, length-append (walk half.left) (node.entry ∷ walk half.right));
      held = all_front holds (walk half.left) (node.entry ∷ walk half.right) (subst (All holds) half.is has.held);
    }

pub has_right : (holds : IndexEntry → Type 0) (slots : List (Option Node)) (root : Option Slot) (slot : Slot) (node : Node) → HasTree holds slots root → root ≡ Some slot → node_at slots slot.place ≡ Some node
    → HasTree holds slots node.right
has_right holds slots root slot node has is there =
    let half = halves slots has.tree slot node has.stands (has.rooted ∙ is) there in
    record {
      tree = half.right;
      rooted = half.root_right;
      stands = half.stands_right;
      few = omega (arith, has.few, ap length half.is, length-append (walk half.left) (node.entry ∷ walk half.right));
      held = all_back holds (node.entry ∷ []) (walk half.right) (all_back holds (walk half.left) (node.entry ∷ walk half.right) (subst (All holds) half.is has.held));
    }

-- the bytes of the root's own entry lie among the bytes
pub own_held : (holds : IndexEntry → Type 0) (slots : List (Option Node)) (root : Option Slot) (slot : Slot) (node : Node) → HasTree holds slots root → root ≡ Some slot → node_at slots slot.place ≡ Some node
    → holds node.entry
own_held holds slots root slot node has is there =
    let half = halves slots has.tree slot node has.stands (has.rooted ∙ is) there in
    All-contains holds (walk half.left ++ node.entry ∷ walk half.right) node.entry (subst (All holds) half.is has.held) (middle node.entry (walk half.left) (walk half.right))

-- and has fewer nodes
pub left_less : (holds : IndexEntry → Type 0) (slots : List (Option Node)) (root : Option Slot) (slot : Slot) (node : Node) → HasTree holds slots root → root ≡ Some slot → node_at slots slot.place ≡ Some node
    → length (walk (tree_at slots node.left)) < length (walk (tree_at slots root))
left_less holds slots root slot node has is there =
    let half = halves slots has.tree slot node has.stands (has.rooted ∙ is) there in
    let size = ap length half.is ∙ length-append (walk half.left) (node.entry ∷ walk half.right) in
    let whole = ap (λ (t : Tree). length (walk t)) (tree_is slots root has.tree has.stands has.rooted has.few) in
    let part = ap (λ (t : Tree). length (walk t)) (tree_is slots node.left half.left half.stands_left half.root_left (omega (arith, has.few, size))) in
    omega (arith, size, whole, part)

pub right_less : (holds : IndexEntry → Type 0) (slots : List (Option Node)) (root : Option Slot) (slot : Slot) (node : Node) → HasTree holds slots root → root ≡ Some slot → node_at slots slot.place ≡ Some node
    → length (walk (tree_at slots node.right)) < length (walk (tree_at slots root))
right_less holds slots root slot node has is there =
    let half = halves slots has.tree slot node has.stands (has.rooted ∙ is) there in
    let size = ap length half.is ∙ length-append (walk half.left) (node.entry ∷ walk half.right) in
    let whole = ap (λ (t : Tree). length (walk t)) (tree_is slots root has.tree has.stands has.rooted has.few) in
    let part = ap (λ (t : Tree). length (walk t)) (tree_is slots node.right half.right half.stands_right half.root_right (omega (arith, has.few, size))) in
    omega (arith, size, whole, part)

-- a root whose slot isn't taken has no tree
none_some : (node : Node) → None ≡ Some node → ⊥
none_some node e = cc

none_slot : (s : Slot) → None ≡ Some s → ⊥
none_slot s e = cc

same_slot : (a b : Slot) → Some a ≡ Some b → a ≡ b
same_slot a b e = ap (λ (o : Option Slot). elim o [ None ↦ a | Some n ↦ n ]) e

missing : (slots : List (Option Node)) (tree : Tree) (slot : Slot) → IsStored slots tree → root_of tree ≡ Some slot → node_at slots slot.place ≡ None → ⊥
missing slots Leaf slot stands root there = none_slot slot root
missing slots (Fork place entry height left right) slot stands root there =
    none_some (record { entry = entry; left = root_of left; right = root_of right; height = height })
    (sym there ∙ ap (node_at slots) (sym (ap (λ (s : Slot). s.place) (same_slot (record { place = place }) slot root))) ∙ stands.0)

pub no_tree : (holds : IndexEntry → Type 0) (slots : List (Option Node)) (root : Option Slot) (slot : Slot) → HasTree holds slots root → root ≡ Some slot → node_at slots slot.place ≡ None → ⊥
no_tree holds slots root slot has is there = missing slots has.tree slot has.stands (has.rooted ∙ is) there
