-- An entry put in: at its place in the list, and in the tree.
use Rattle.std.proofs.Common.{◌≡◌, ◌≢◌, ℕ, zero, suc, ◌<◌, ◌≤◌, Bool, true, false, List, [], ◌∷◌, ◌++◌, length, get_or, Option, Some, None, refl, sym, ap, subst, ◌∙◌, arith}
use Rattle.std.specs.Prelude.{insert}
use Rattle.std.proofs.lemmas.List.{get_or_default}
use Rattle.keel_region.specs.declared.span.IndexEntry.{IndexEntry}
use Rattle.keel_region.specs.declared.pool.Node.{Node}
use Rattle.keel_region.specs.declared.pool.Slot.{Slot}
use Rattle.keel_region.specs.Order.{Precedes, AreInOrder, IsNew, entry_before}
use Rattle.keel_region.specs.Places.{IsPlaceOf}
use Rattle.keel_region.specs.Slots.{node_at}
use Rattle.keel_region.specs.Spans.{bytes_at}
use Rattle.keel_region.specs.Trees.{Tree, Leaf, Fork, root_of, walk, height_of, height_at, IsStored, Makes, Joins, put_in}
use Rattle.keel_region.specs.Turns.{Evens, Grows}
use Rattle.keel_region.proofs.Adding.{put_in_order}
use Rattle.keel_region.proofs.Halves.{fails_from}
use Rattle.keel_region.proofs.Heights.{grows_left, grows_right, grows_still_left, grows_still_right, grows_first}
use Rattle.keel_region.proofs.Orders.{Precedes-before}
use Rattle.keel_region.proofs.Trees.{all_front, all_back, back_order, front_order, cross_order, Halves, halves, height_reads, no_walk, leaf_is, after_left, after_right, kept_left, kept_right}

left_by : (test : IndexEntry → Bool) (x y : IndexEntry) (xs : List IndexEntry) (e : IndexEntry) (ys : List IndexEntry) (b : Bool) → test y ≡ b
    → put_in test x (xs ++ e ∷ ys) ≡ put_in test x xs ++ e ∷ ys → put_in test x (y ∷ (xs ++ e ∷ ys)) ≡ put_in test x (y ∷ xs) ++ e ∷ ys
left_by test x y xs e ys true h more = rw h (ap (λ (l : List IndexEntry). y ∷ l) more)
left_by test x y xs e ys false h more = rw h refl

-- the entry is put in in front of one that fails the test, or behind those that pass it
pub put_in_left : (test : IndexEntry → Bool) (x : IndexEntry) (xs : List IndexEntry) (e : IndexEntry) (ys : List IndexEntry) → test e ≡ false
    → put_in test x (xs ++ e ∷ ys) ≡ put_in test x xs ++ e ∷ ys
put_in_left test x [] e ys h = rw h refl
put_in_left test x (y ∷ xs) e ys h = left_by test x y xs e ys (test y) refl (put_in_left test x xs e ys h)

pub put_in_right : (test : IndexEntry → Bool) (x : IndexEntry) (xs : List IndexEntry) (e : IndexEntry) (ys : List IndexEntry)
    → ((k : ℕ) (d : IndexEntry) → k < length xs → test (get_or xs k d) ≡ true) → test e ≡ true → put_in test x (xs ++ e ∷ ys) ≡ xs ++ e ∷ put_in test x ys
put_in_right test x [] e ys all h = rw h refl
put_in_right test x (y ∷ xs) e ys all h =
    let first : test y ≡ true = all 0 y (omega arith) in
    rw first (ap (λ (l : List IndexEntry). y ∷ l) (put_in_right test x xs e ys (λ k d lt. all (suc k) d (omega arith)) h))

pub record HasPlace (test : IndexEntry → Bool) (xs : List IndexEntry) : Type 0 where
  pub place : ℕ
  pub at : IsPlaceOf test xs place
  pub is : (x : IndexEntry) → put_in test x xs ≡ insert xs place x

module _ (bytes key : List ℕ) (seq : Option ℕ) where
  abbrev test : IndexEntry → Bool
  test = entry_before bytes key seq

  here : (y : IndexEntry) (ys : List IndexEntry) → AreInOrder bytes (y ∷ ys) → test y ≡ false → HasPlace test (y ∷ ys)
  here y ys order h = record {
    place = 0;
    at = record {
      within = omega arith;
      before = λ k d lt. absurd (omega arith);
      behind = λ k d le lt. fails_from (Precedes bytes) test (y ∷ ys) 0 y (Precedes-before bytes key seq) order h k d (omega arith) lt;
    };
    is = λ x. rw h refl;
  }

  before_next : (y : IndexEntry) (ys : List IndexEntry) (place : ℕ) → test y ≡ true → IsPlaceOf test ys place → (k : ℕ) (d : IndexEntry) → k < suc place → test (get_or (y ∷ ys) k d) ≡ true
  before_next y ys place h at zero d lt = h
  before_next y ys place h at (suc k) d lt = at.before k d (omega arith)

  behind_next : (y : IndexEntry) (ys : List IndexEntry) (place : ℕ) → IsPlaceOf test ys place → (k : ℕ) (d : IndexEntry) → suc place ≤ k → k < length (y ∷ ys) → test (get_or (y ∷ ys) k d) ≡ false
  behind_next y ys place at zero d le lt = absurd (omega arith)
  behind_next y ys place at (suc k) d le lt = at.behind k d (omega arith) (omega arith)

  next : (y : IndexEntry) (ys : List IndexEntry) → test y ≡ true → HasPlace test ys → HasPlace test (y ∷ ys)
  next y ys h has = record {
    place = suc has.place;
    at = record {
      within = omega (arith, has.at.within);
      before = before_next y ys has.place h has.at;
      behind = behind_next y ys has.place has.at;
    };
    is = λ x. rw h (ap (λ (l : List IndexEntry). y ∷ l) (has.is x));
  }

  step : (y : IndexEntry) (ys : List IndexEntry) → AreInOrder bytes (y ∷ ys) → (b : Bool) → test y ≡ b → HasPlace test ys → HasPlace test (y ∷ ys)
  step y ys order true h has = next y ys h has
  step y ys order false h has = here y ys order h

  pub has_place : (xs : List IndexEntry) → AreInOrder bytes xs → HasPlace test xs
  has_place [] order = record {
    place = 0;
    at = record { within = omega arith; before = λ k d lt. absurd (omega arith); behind = λ k d le lt. absurd (omega arith) };
    is = λ x. refl;
  }
  has_place (y ∷ ys) order = step y ys order (test y) refl (has_place ys (back_order bytes (y ∷ []) ys order))

abbrev pub own_test : List ℕ → IndexEntry → IndexEntry → Bool
own_test bytes entry = entry_before bytes (bytes_at bytes entry.key) (Some entry.seq)

pub put_order : (bytes : List ℕ) (xs : List IndexEntry) (entry : IndexEntry) → AreInOrder bytes xs → IsNew bytes xs entry → AreInOrder bytes (put_in (own_test bytes entry) entry xs)
put_order bytes xs entry order fresh =
    let has = has_place bytes (bytes_at bytes entry.key) (Some entry.seq) xs order in
    subst (AreInOrder bytes) (sym (has.is entry)) (put_in_order bytes xs entry has.place order fresh has.at)

pub get_or_self : (xs : List IndexEntry) (k : ℕ) (d : IndexEntry) → k < length xs → get_or xs k (get_or xs k d) ≡ get_or xs k d
get_or_self xs k d lt = get_or_default xs k (get_or xs k d) d lt

abbrev pub Puts : List ℕ → List (Option Node) → List (Option Node) → IndexEntry → Option Slot → Slot → Type 0
Puts bytes old new entry root result = (tree : Tree) → IsStored old tree → root_of tree ≡ root → AreInOrder bytes (walk tree) → IsNew bytes (walk tree) entry
    → Makes (Grows tree) old new (put_in (own_test bytes entry) entry (walk tree)) (Some result)

module _ (bytes : List ℕ) (old mid new : List (Option Node)) (entry : IndexEntry) (slot : Slot) (node : Node) (there : node_at old slot.place ≡ Some node) (lower root : Slot) where
  -- how the node's tree goes on from its right side, where the entry was put in
  abbrev FinishRight : Type 0
  FinishRight = (tree : Tree) (half : Halves old tree slot node) → Makes (Grows half.right) old mid (put_in (own_test bytes entry) entry (walk half.right)) (Some lower)
      → AreInOrder bytes (walk half.left ++ node.entry ∷ put_in (own_test bytes entry) entry (walk half.right))
      → Makes (Grows tree) old new (walk half.left ++ node.entry ∷ put_in (own_test bytes entry) entry (walk half.right)) (Some root)

  by_right : own_test bytes entry node.entry ≡ true → Puts bytes old mid entry node.right lower → FinishRight → Puts bytes old new entry (Some slot) root
  by_right before puts finish tree stands rooted order fresh =
      let half = halves old tree slot node stands rooted there in
      let test = own_test bytes entry in
      let whole : AreInOrder bytes (walk half.left ++ node.entry ∷ walk half.right) = subst (AreInOrder bytes) half.is order in
      let fresh_whole : IsNew bytes (walk half.left ++ node.entry ∷ walk half.right) entry = subst (λ (xs : List IndexEntry). IsNew bytes xs entry) half.is fresh in
      let right_order = back_order bytes (node.entry ∷ []) (walk half.right) (back_order bytes (walk half.left) (node.entry ∷ walk half.right) whole) in
      let P : IndexEntry → Type 0 = λ other. bytes_at bytes other.key ≡ bytes_at bytes entry.key → other.seq ≢ entry.seq in
      let right_fresh : IsNew bytes (walk half.right) entry = all_back P (node.entry ∷ []) (walk half.right) (all_back P (walk half.left) (node.entry ∷ walk half.right) fresh_whole) in
      let same : put_in test entry (walk half.left ++ node.entry ∷ walk half.right) ≡ walk half.left ++ node.entry ∷ put_in test entry (walk half.right) =
      put_in_right test entry (walk half.left) node.entry (walk half.right)
      (λ k d lt. Precedes-before bytes (bytes_at bytes entry.key) (Some entry.seq) (get_or (walk half.left) k d) node.entry
      (cross_order bytes (walk half.left) (node.entry ∷ walk half.right) whole (get_or (walk half.left) k d) node.entry
      (k, lt, get_or_self (walk half.left) k d lt) (0, omega arith, refl)) before) before in
      let after : AreInOrder bytes (walk half.left ++ node.entry ∷ put_in test entry (walk half.right)) =
      subst (AreInOrder bytes) same (put_order bytes (walk half.left ++ node.entry ∷ walk half.right) entry whole fresh_whole) in
      subst (λ (xs : List IndexEntry). Makes (Grows tree) old new xs (Some root)) (sym (ap (put_in test entry) half.is ∙ same))
      (finish tree half (puts half.right half.stands_right half.root_right right_order right_fresh) after)

  pub put_right : own_test bytes entry node.entry ≡ true → Puts bytes old mid entry node.right lower
      → Joins Evens mid new slot.place (record { entry = node.entry; left = node.left; right = Some lower; height = node.height }) root → Puts bytes old new entry (Some slot) root
  put_right before puts joins = by_right before puts (λ tree half made after.
      after_right (Grows half.right) (Grows tree) Evens old mid new bytes (put_in (own_test bytes entry) entry (walk half.right)) half.left slot.place
      (record { entry = node.entry; left = node.left; right = Some lower; height = node.height }) root
      made half.stands_left half.root_left (record { node = node; there = there; is = refl }) after joins
      (λ lower grown more evens.
      subst (λ (t : Tree). Grows t grown) (sym half.fork) (grows_right slot.place node.entry node.height half.left half.right lower grown more evens)))

  -- the same from its left side
  abbrev FinishLeft : Type 0
  FinishLeft = (tree : Tree) (half : Halves old tree slot node) → Makes (Grows half.left) old mid (put_in (own_test bytes entry) entry (walk half.left)) (Some lower)
      → AreInOrder bytes (put_in (own_test bytes entry) entry (walk half.left) ++ node.entry ∷ walk half.right)
      → Makes (Grows tree) old new (put_in (own_test bytes entry) entry (walk half.left) ++ node.entry ∷ walk half.right) (Some root)

  by_left : own_test bytes entry node.entry ≡ false → Puts bytes old mid entry node.left lower → FinishLeft → Puts bytes old new entry (Some slot) root
  by_left behind puts finish tree stands rooted order fresh =
      let half = halves old tree slot node stands rooted there in
      let test = own_test bytes entry in
      let whole : AreInOrder bytes (walk half.left ++ node.entry ∷ walk half.right) = subst (AreInOrder bytes) half.is order in
      let fresh_whole : IsNew bytes (walk half.left ++ node.entry ∷ walk half.right) entry = subst (λ (xs : List IndexEntry). IsNew bytes xs entry) half.is fresh in
      let P : IndexEntry → Type 0 = λ other. bytes_at bytes other.key ≡ bytes_at bytes entry.key → other.seq ≢ entry.seq in
      let left_fresh : IsNew bytes (walk half.left) entry = all_front P (walk half.left) (node.entry ∷ walk half.right) fresh_whole in
      let same : put_in test entry (walk half.left ++ node.entry ∷ walk half.right) ≡ put_in test entry (walk half.left) ++ node.entry ∷ walk half.right =
      put_in_left test entry (walk half.left) node.entry (walk half.right) behind in
      let after : AreInOrder bytes (put_in test entry (walk half.left) ++ node.entry ∷ walk half.right) =
      subst (AreInOrder bytes) same (put_order bytes (walk half.left ++ node.entry ∷ walk half.right) entry whole fresh_whole) in
      subst (λ (xs : List IndexEntry). Makes (Grows tree) old new xs (Some root)) (sym (ap (put_in test entry) half.is ∙ same))
      (finish tree half (puts half.left half.stands_left half.root_left (front_order bytes (walk half.left) (node.entry ∷ walk half.right) whole) left_fresh) after)

  pub put_left : own_test bytes entry node.entry ≡ false → Puts bytes old mid entry node.left lower
      → Joins Evens mid new slot.place (record { entry = node.entry; left = Some lower; right = node.right; height = node.height }) root → Puts bytes old new entry (Some slot) root
  put_left behind puts joins = by_left behind puts (λ tree half made after.
      after_left (Grows half.left) (Grows tree) Evens old mid new bytes (put_in (own_test bytes entry) entry (walk half.left)) half.right slot.place
      (record { entry = node.entry; left = Some lower; right = node.right; height = node.height }) root
      made half.stands_right half.root_right (record { node = node; there = there; is = refl }) after joins
      (λ lower grown more evens.
      subst (λ (t : Tree). Grows t grown) (sym half.fork) (grows_left slot.place node.entry node.height half.left half.right lower grown more evens)))

-- a child that keeps its slot and its height leaves its parent's node as it is
module _ (bytes : List ℕ) (old new : List (Option Node)) (entry : IndexEntry) (slot : Slot) (node : Node) (there : node_at old slot.place ≡ Some node) (lower : Slot) where
  level : (before after : Tree) (root : Option Slot) → IsStored old before → root_of before ≡ root → IsStored new after → root_of after ≡ root
      → height_at new root ≡ height_at old root → height_of after ≡ height_of before
  level before after root stands rooted stands_after rooted_after same =
      height_reads new after root stands_after rooted_after ∙ same ∙ sym (height_reads old before root stands rooted)

  pub keep_right : own_test bytes entry node.entry ≡ true → Puts bytes old new entry node.right lower → node.right ≡ Some lower
      → height_at new node.right ≡ height_at old node.right → Puts bytes old new entry (Some slot) slot
  keep_right before puts is high = by_right bytes old new new entry slot node there lower slot before puts (λ tree half made after.
      let rooted = made.rooted ∙ sym is in
      kept_right (Grows half.right) (Grows tree) old new bytes (put_in (own_test bytes entry) entry (walk half.right)) half.left slot.place node
      made rooted half.stands_left half.root_left there after
      (λ grown. subst (λ (t : Tree). Grows t (Fork slot.place node.entry node.height half.left made.tree)) (sym half.fork)
      (grows_still_right slot.place node.entry node.height half.left half.right made.tree grown
      (level half.right made.tree node.right half.stands_right half.root_right made.stands rooted high))))

  pub keep_left : own_test bytes entry node.entry ≡ false → Puts bytes old new entry node.left lower → node.left ≡ Some lower
      → height_at new node.left ≡ height_at old node.left → Puts bytes old new entry (Some slot) slot
  keep_left behind puts is high = by_left bytes old new new entry slot node there lower slot behind puts (λ tree half made after.
      let rooted = made.rooted ∙ sym is in
      kept_left (Grows half.left) (Grows tree) old new bytes (put_in (own_test bytes entry) entry (walk half.left)) half.right slot.place node
      made rooted half.stands_right half.root_right there after
      (λ grown. subst (λ (t : Tree). Grows t (Fork slot.place node.entry node.height made.tree half.right)) (sym half.fork)
      (grows_still_left slot.place node.entry node.height half.left half.right made.tree grown
      (level half.left made.tree node.left half.stands_left half.root_left made.stands rooted high))))

none_node : (old : List (Option Node)) (place : ℕ) (node : Node) → node_at old place ≡ None → node_at old place ≡ Some node → ⊥
none_node old place node e f = cc

-- the first node of a tree
pub put_first : (bytes : List ℕ) (old new : List (Option Node)) (entry : IndexEntry) (slot : Slot) → node_at old slot.place ≡ None
    → node_at new slot.place ≡ Some (record { entry = entry; left = None; right = None; height = 1 })
    → ((place : ℕ) → place ≢ slot.place → node_at new place ≡ node_at old place) → Puts bytes old new entry None slot
put_first bytes old new entry slot free taken others tree stands rooted order fresh =
    subst (λ (xs : List IndexEntry). Makes (Grows tree) old new (put_in (own_test bytes entry) entry xs) (Some slot)) (sym (no_walk tree rooted))
    (record {
      tree = Fork slot.place entry 1 Leaf Leaf;
      rooted = refl;
      stands = (taken, tt, tt);
      is = refl;
      shape = subst (λ (t : Tree). Grows t (Fork slot.place entry 1 Leaf Leaf)) (sym (leaf_is tree rooted)) (grows_first slot.place entry);
      others = λ p n e out. others p (λ same. none_node old p n (ap (node_at old) same ∙ free) e) ∙ e;
    })
