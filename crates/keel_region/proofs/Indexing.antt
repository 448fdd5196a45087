-- What an index keeps, as room is taken and as an entry is put in.
use Rattle.std.proofs.Common.{◌≡◌, ℕ, ◌+◌, ◌^◌, ◌<◌, ◌≤◌, List, length, Option, Some, None, refl, sym, ap, subst, ◌∙◌, arith}
use Rattle.std.specs.Prelude.{All, IsSome, is_some, count_by}
use Rattle.std.proofs.lemmas.List.Edits.{length-insert}
use Rattle.keel_region.specs.declared.span.IndexEntry.{IndexEntry}
use Rattle.keel_region.specs.declared.pool.Node.{Node}
use Rattle.keel_region.specs.declared.pool.Slot.{Slot}
use Rattle.keel_region.specs.Order.{AreInOrder, IsNew, IsPutIn}
use Rattle.keel_region.specs.Slots.{node_at, KeepsNodes}
use Rattle.keel_region.specs.Spans.{bytes_at}
use Rattle.keel_region.specs.Trees.{Tree, Leaf, root_of, walk, height_of, height_at, IsBalanced, IsStored, tree_at, HasTree, Makes, put_in}
use Rattle.keel_region.specs.Indexes.{IsIndex, IsReachedOnce, HasBalancedTree}
use Rattle.keel_region.specs.Turns.{Grows}
use Rattle.keel_region.proofs.Growing.{tree_is, unfold_none}
use Rattle.keel_region.proofs.Planting.{own_test, put_order, has_place}
use Rattle.keel_region.proofs.Bounds.{low_tree}
use Rattle.keel_region.proofs.Reaching.{reached_once, none_reached}
use Rattle.keel_region.proofs.Trees.{stay, height_reads}

pub empty_tree : (slots : List (Option Node)) → tree_at slots None ≡ Leaf
empty_tree slots = unfold_none (length slots) slots

pub empty_index : (slots : List (Option Node)) (spare : ℕ) → ((place : ℕ) → node_at slots place ≡ None) → length slots ≡ 0 → spare ≡ 0 → IsIndex slots spare None
empty_index slots spare vacant none nothing = record {
  rooted = ap root_of (empty_tree slots);
  stands = subst (IsStored slots) (sym (empty_tree slots)) tt;
  count = omega (arith, ap (λ (t : Tree). length (walk t)) (empty_tree slots));
  balanced = subst IsBalanced (sym (empty_tree slots)) tt;
  low = omega (arith, ap height_of (empty_tree slots));
  reached = subst (IsReachedOnce slots) (sym (empty_tree slots)) (none_reached slots vacant);
}

-- its tree, for a call that goes down
pub has_tree : (holds : IndexEntry → Type 0) (slots : List (Option Node)) (spare : ℕ) (root : Option Slot) → IsIndex slots spare root → All holds (walk (tree_at slots root)) → HasTree holds slots root
has_tree holds slots spare root index held = record { tree = tree_at slots root; rooted = index.rooted; stands = index.stands; few = omega (arith, index.count); held = held }

pub more_room : (old new : List (Option Node)) (spare more : ℕ) (root : Option Slot) → IsIndex old spare root → KeepsNodes old new → length new + spare ≡ length old + more → spare ≤ more
    → tree_at new root ≡ tree_at old root
more_room old new spare more root index keeps size le =
    tree_is new root (tree_at old root) (stay old new (tree_at old root) index.stands (λ p n e h. keeps p ∙ e)) index.rooted (omega (arith, index.count))

pub more_index : (old new : List (Option Node)) (spare more : ℕ) (root : Option Slot) → IsIndex old spare root → KeepsNodes old new → length new + spare ≡ length old + more → spare ≤ more
    → IsIndex new more root
more_index old new spare more root index keeps size le =
    let same = more_room old new spare more root index keeps size le in
    record {
      rooted = ap root_of same ∙ index.rooted;
      stands = subst (IsStored new) (sym same) (stay old new (tree_at old root) index.stands (λ p n e h. keeps p ∙ e));
      count = omega (arith, index.count, size, ap (λ (t : Tree). length (walk t)) same);
      balanced = subst IsBalanced (sym same) index.balanced;
      low = omega (arith, index.low, ap height_of same);
      reached = subst (IsReachedOnce new) (sym same) (record { all = λ place some. index.reached.all place (subst IsSome (keeps place) some); once = index.reached.once });
    }

-- an entry put in
module _ (bytes : List ℕ) (old new : List (Option Node)) (spare : ℕ) (root : Option Slot) (entry : IndexEntry) (index : IsIndex old spare root)
    (order : AreInOrder bytes (walk (tree_at old root))) (fresh : IsNew bytes (walk (tree_at old root)) entry) (next : ℕ) (result : Slot)
    (room : next + 1 ≡ spare) (size : length new ≡ length old)
    (taken : ℕ) (counted : taken ≡ count_by is_some new) (total : taken + next ≡ length new) (bound : taken < 2 ^ 57)
    (makes : Makes (Grows (tree_at old root)) old new (put_in (own_test bytes entry) entry (walk (tree_at old root))) (Some result)) where
  pub put_is : IsPutIn (walk (tree_at old root)) (put_in (own_test bytes entry) entry (walk (tree_at old root))) entry
  put_is =
      let has = has_place bytes (bytes_at bytes entry.key) (Some entry.seq) (walk (tree_at old root)) order in
      record { place = has.place; within = has.at.within; is = has.is entry }

  longer : length (walk makes.tree) ≡ length (walk (tree_at old root)) + 1
  longer = ap length makes.is ∙ ap length put_is.is ∙ length-insert (walk (tree_at old root)) put_is.place entry put_is.within

  pub put_tree : tree_at new (Some result) ≡ makes.tree
  put_tree = tree_is new (Some result) makes.tree makes.stands makes.rooted (omega (arith, longer, index.count))

  pub put_walk : walk (tree_at new (Some result)) ≡ put_in (own_test bytes entry) entry (walk (tree_at old root))
  put_walk = ap walk put_tree ∙ makes.is

  pub put_entries : IsPutIn (walk (tree_at old root)) (walk (tree_at new (Some result))) entry
  put_entries = subst (λ (xs : List IndexEntry). IsPutIn (walk (tree_at old root)) xs entry) (sym put_walk) put_is

  pub put_ordered : AreInOrder bytes (walk (tree_at new (Some result)))
  put_ordered = subst (AreInOrder bytes) (sym put_walk) (put_order bytes (walk (tree_at old root)) entry order fresh)

  pub put_index : IsIndex new next (Some result)
  put_index =
      let many = ap (λ (t : Tree). length (walk t)) put_tree in
      let balanced : IsBalanced (tree_at new (Some result)) = subst IsBalanced (sym put_tree) (makes.shape index.balanced index.low).balanced in
      let stands : IsStored new (tree_at new (Some result)) = subst (IsStored new) (sym put_tree) makes.stands in
      record {
        rooted = ap root_of put_tree ∙ makes.rooted;
        stands = stands;
        count = omega (arith, longer, index.count, many);
        balanced = balanced;
        low = low_tree (tree_at new (Some result)) balanced (omega (arith, longer, index.count, many, total, bound));
        reached = reached_once bytes new (tree_at new (Some result)) stands put_ordered (omega (arith, longer, index.count, many, total, counted));
      }

-- what contracts know of an index
pub balanced_tree : (slots : List (Option Node)) (spare : ℕ) (root : Option Slot) → IsIndex slots spare root
    → HasBalancedTree (record { entries = walk (tree_at slots root); spare = spare; root = root; slots = slots })
balanced_tree slots spare root index = record {
  tree = tree_at slots root;
  rooted = index.rooted;
  stands = index.stands;
  entries = refl;
  balanced = index.balanced;
  reached = index.reached;
}

pub height_is : (slots : List (Option Node)) (spare : ℕ) (root : Option Slot) → IsIndex slots spare root → height_of (tree_at slots root) ≡ height_at slots root
height_is slots spare root index = height_reads slots (tree_at slots root) root index.stands index.rooted
