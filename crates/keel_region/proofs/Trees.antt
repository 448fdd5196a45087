-- Trees in a pool, as nodes are written: what stays, what is joined, and what turns.
use Rattle.std.proofs.Common.{◌≡◌, ◌≢◌, ℕ, zero, suc, ◌+◌, ◌-◌, ◌^◌, List, [], ◌∷◌, ◌++◌, length, get_or, Option, Some, None, append_assoc, refl, sym, ap, subst, ◌∙◌, arith}
use Rattle.std.specs.Prelude.{All, Contains, min, max}
use Rattle.std.proofs.lemmas.Bool.{false≢true}
use Rattle.std.proofs.lemmas.List.{get_or_default, get_or_append_left, get_or-append-add, length-append}
use Rattle.std.proofs.lemmas.List.Elements.{Contains-append_left, Contains-append_right}
use Rattle.keel_region.specs.declared.span.IndexEntry.{IndexEntry}
use Rattle.keel_region.specs.declared.pool.Node.{Node}
use Rattle.keel_region.specs.declared.pool.Slot.{Slot}
use Rattle.keel_region.specs.Order.{Precedes, AreInOrder}
use Rattle.keel_region.specs.Slots.{node_at}
use Rattle.keel_region.specs.Spans.{bytes_at}
use Rattle.keel_region.specs.Trees.{Tree, Leaf, Fork, root_of, walk, height_of, node_below, height_at, IsStored, HasEntry, KeepsOthers, Makes, Joins, Rebuilds}
use Rattle.keel_region.specs.Turns.{IsOver, RaisesLeft, RaisesRight}
use Rattle.keel_region.proofs.Orders.{comes_before-itself}

-- what holds of all holds of a part
pub all_front : {X : Type 0} (P : X → Type 0) (xs ys : List X) → All P (xs ++ ys) → All P xs
all_front P xs ys all k d lt = subst P (get_or_append_left xs ys d k lt) (all k d (omega (arith, length-append xs ys)))

pub all_back : {X : Type 0} (P : X → Type 0) (xs ys : List X) → All P (xs ++ ys) → All P ys
all_back P xs ys all k d lt = subst P (get_or-append-add xs ys k d) (all (length xs + k) d (omega (arith, length-append xs ys)))

-- entries in order, cut in two
pub front_order : (bytes : List ℕ) (xs ys : List IndexEntry) → AreInOrder bytes (xs ++ ys) → AreInOrder bytes xs
front_order bytes xs ys order i j d less lt =
    let size = length-append xs ys in
    let first : get_or (xs ++ ys) i d ≡ get_or xs i d = get_or_append_left xs ys d i (omega arith) in
    let second : get_or (xs ++ ys) j d ≡ get_or xs j d = get_or_append_left xs ys d j lt in
    subst (λ (e : IndexEntry). Precedes bytes e (get_or xs j d)) first
    (subst (λ (e : IndexEntry). Precedes bytes (get_or (xs ++ ys) i d) e) second (order i j d less (omega (arith, size))))

pub back_order : (bytes : List ℕ) (xs ys : List IndexEntry) → AreInOrder bytes (xs ++ ys) → AreInOrder bytes ys
back_order bytes xs ys order i j d less lt =
    let size = length-append xs ys in
    subst (λ (e : IndexEntry). Precedes bytes e (get_or ys j d)) (get_or-append-add xs ys i d)
    (subst (λ (e : IndexEntry). Precedes bytes (get_or (xs ++ ys) (length xs + i) d) e) (get_or-append-add xs ys j d)
    (order (length xs + i) (length xs + j) d (omega arith) (omega (arith, size))))

pub cross_order : (bytes : List ℕ) (xs ys : List IndexEntry) → AreInOrder bytes (xs ++ ys) → (x y : IndexEntry) → Contains xs x → Contains ys y → Precedes bytes x y
cross_order bytes xs ys order x y (i, lt, is) (j, below, eq) =
    let size = length-append xs ys in
    subst (λ (e : IndexEntry). Precedes bytes e y) (get_or_append_left xs ys x i lt ∙ is)
    (subst (λ (e : IndexEntry). Precedes bytes (get_or (xs ++ ys) i x) e)
    (get_or-append-add xs ys j x ∙ get_or_default ys j x y below ∙ eq)
    (order i (length xs + j) x (omega arith) (omega (arith, size))))

-- no entry stands on both sides
pub cross_apart : (bytes : List ℕ) (xs ys : List IndexEntry) → AreInOrder bytes (xs ++ ys) → (x : IndexEntry) → Contains xs x → Contains ys x → ⊥
cross_apart bytes xs ys order x a b =
    false≢true (sym (comes_before-itself (bytes_at bytes x.key) x.seq) ∙ cross_order bytes xs ys order x x a b)

-- a tree whose entries' nodes stay stands still
pub stay : (old new : List (Option Node)) (tree : Tree) → IsStored old tree → ((place : ℕ) (node : Node) → node_at old place ≡ Some node → Contains (walk tree) node.entry → node_at new place ≡ Some node)
    → IsStored new tree
stay old new Leaf stands keep = tt
stay old new (Fork place entry height left right) stands keep = (
  keep place (record { entry = entry; left = root_of left; right = root_of right; height = height }) stands.0 (Contains-append_right (walk left) (entry ∷ walk right) entry (0, omega arith, refl)),
  stay old new left stands.1 (λ p n e h. keep p n e (Contains-append_left (walk left) (entry ∷ walk right) n.entry h)),
  stay old new right stands.2 (λ p n e h. keep p n e (Contains-append_right (walk left) (entry ∷ walk right) n.entry (Contains-append_right (entry ∷ []) (walk right) n.entry h))),
)

pub stands_still : (old new : List (Option Node)) (tree : Tree) (entries : List IndexEntry) → IsStored old tree → KeepsOthers old new entries
    → ((x : IndexEntry) → Contains (walk tree) x → Contains entries x → ⊥) → IsStored new tree
stands_still old new tree entries stands others apart = stay old new tree stands (λ p n e h. others p n e (λ g. apart n.entry h g))

pub entry_still : (old new : List (Option Node)) (place : ℕ) (entry : IndexEntry) (entries : List IndexEntry) → HasEntry old place entry → KeepsOthers old new entries
    → (Contains entries entry → ⊥) → HasEntry new place entry
entry_still old new place entry entries has others out =
    record { node = has.node; there = others place has.node has.there (λ h. out (subst (Contains entries) has.is h)); is = has.is }

in_one : (y x : IndexEntry) → Contains (y ∷ []) x → y ≡ x
in_one y x (zero, lt, is) = is
in_one y x (suc k, lt, is) = absurd (omega arith)

pub middle : (x : IndexEntry) (xs ys : List IndexEntry) → Contains (xs ++ x ∷ ys) x
middle x xs ys = Contains-append_right xs (x ∷ ys) x (0, omega arith, refl)

in_front : (x y : IndexEntry) (xs ys : List IndexEntry) → Contains xs y → Contains (xs ++ x ∷ ys) y
in_front x y xs ys h = Contains-append_left xs (x ∷ ys) y h

in_back : (x y : IndexEntry) (xs ys : List IndexEntry) → Contains ys y → Contains (xs ++ x ∷ ys) y
in_back x y xs ys h = Contains-append_right xs (x ∷ ys) y (Contains-append_right (x ∷ []) ys y h)

-- the parts of entries in order stand apart
pub front_apart : (bytes : List ℕ) (xs ys : List IndexEntry) (e : IndexEntry) → AreInOrder bytes (xs ++ e ∷ ys) → (x : IndexEntry) → Contains xs x → Contains (e ∷ ys) x → ⊥
front_apart bytes xs ys e order = cross_apart bytes xs (e ∷ ys) order

pub own_apart : (bytes : List ℕ) (xs ys : List IndexEntry) (e : IndexEntry) → AreInOrder bytes (xs ++ e ∷ ys) → (x : IndexEntry) → Contains ys x → Contains (e ∷ []) x → ⊥
own_apart bytes xs ys e order x h g = cross_apart bytes (e ∷ []) ys (back_order bytes xs (e ∷ ys) order) x g h

same_node : (a b : Node) → Some a ≡ Some b → a ≡ b
same_node a b e = ap (λ (o : Option Node). elim o [ None ↦ a | Some n ↦ n ]) e

written_entry : (old : List (Option Node)) (place : ℕ) (entry : IndexEntry) (node : Node) → HasEntry old place entry → node_at old place ≡ Some node → entry ≡ node.entry
written_entry old place entry node has e = sym has.is ∙ ap (λ (n : Node). n.entry) (same_node has.node node (sym has.there ∙ e))

-- the height that a root keeps is its tree's
pub height_reads : (slots : List (Option Node)) (tree : Tree) (root : Option Slot) → IsStored slots tree → root_of tree ≡ root → height_of tree ≡ height_at slots root
height_reads slots Leaf root stands rooted = ap (height_at slots) rooted
height_reads slots (Fork place entry height left right) root stands rooted =
    ap (λ (o : Option Node). elim o [ None ↦ 0 | Some node ↦ node.height ]) (sym stands.0) ∙ ap (height_at slots) rooted

-- a node that is written joins its subtrees
pub written : (old new : List (Option Node)) (place : ℕ) (node : Node) (height : ℕ)
    → height ≡ min (2 ^ 8 - 1) (suc (max (height_at old node.left) (height_at old node.right))) → node_at new place ≡ Some (record { entry = node.entry; left = node.left; right = node.right; height = height })
    → ((other : ℕ) → other ≢ place → node_at new other ≡ node_at old other) → Joins IsOver old new place node (record { place = place })
written old new place node height size there others bytes left right stands_left root_left stands_right root_right has order =
    let keeps : KeepsOthers old new (node.entry ∷ []) =
    λ p n e out. others p (λ same. out (0, omega arith, written_entry old place node.entry n has (subst (λ (q : ℕ). node_at old q ≡ Some n) same e))) ∙ e in
    record {
      tree = Fork place node.entry height left right;
      rooted = refl;
      stands = (
        there ∙ (λ i. Some (record { entry = node.entry; left = sym root_left i; right = sym root_right i; height = height })),
        stands_still old new left (node.entry ∷ []) stands_left keeps
            (λ x h g. front_apart bytes (walk left) (walk right) node.entry order x h (Contains-append_left (node.entry ∷ []) (walk right) x g)),
        stands_still old new right (node.entry ∷ []) stands_right keeps (own_apart bytes (walk left) (walk right) node.entry order),
      );
      is = refl;
      shape = record {
        place = place;
        entry = node.entry;
        is = ap (λ (h : ℕ). Fork place node.entry h left right)
            (size ∙ (λ i. min (2 ^ 8 - 1) (suc (max (sym (height_reads old left node.left stands_left root_left) i) (sym (height_reads old right node.right stands_right root_right) i)))));
      };
      others = λ p n e out. keeps p n e (λ g. out (subst (Contains (walk left ++ node.entry ∷ walk right)) (in_one node.entry n.entry g) (middle node.entry (walk left) (walk right))));
    }

-- a tree whose root's node is known
pub record Halves (slots : List (Option Node)) (tree : Tree) (slot : Slot) (node : Node) : Type 0 where
  pub left : Tree
  pub right : Tree
  pub stands_left : IsStored slots left
  pub root_left : root_of left ≡ node.left
  pub stands_right : IsStored slots right
  pub root_right : root_of right ≡ node.right
  pub is : walk tree ≡ walk left ++ node.entry ∷ walk right
  pub fork : tree ≡ Fork slot.place node.entry node.height left right

same_slot : (a b : Slot) → Some a ≡ Some b → a ≡ b
same_slot a b e = ap (λ (o : Option Slot). elim o [ None ↦ a | Some n ↦ n ]) e

none_slot : (s : Slot) → None ≡ Some s → ⊥
none_slot s e = cc

pub halves : (slots : List (Option Node)) (tree : Tree) (slot : Slot) (node : Node) → IsStored slots tree → root_of tree ≡ Some slot → node_at slots slot.place ≡ Some node → Halves slots tree slot node
halves slots Leaf slot node stands root there = absurd (none_slot slot root)
halves slots (Fork place entry height left right) slot node stands root there =
    let at : place ≡ slot.place = ap (λ (s : Slot). s.place) (same_slot (record { place = place }) slot root) in
    let own : Node = record { entry = entry; left = root_of left; right = root_of right; height = height } in
    let same : own ≡ node = same_node own node (sym stands.0 ∙ ap (node_at slots) at ∙ there) in
    record {
      left = left;
      right = right;
      stands_left = stands.1;
      root_left = ap (λ (n : Node). n.left) same;
      stands_right = stands.2;
      root_right = ap (λ (n : Node). n.right) same;
      is = ap (λ (n : Node). walk left ++ n.entry ∷ walk right) same;
      fork = (λ i. Fork (at i) (same i).entry (same i).height left right);
    }

-- where the root's slot isn't taken there is no tree
none_node : (node : Node) → None ≡ Some node → ⊥
none_node node e = cc

pub leaf_below : (slots : List (Option Node)) (tree : Tree) (root : Option Slot) → IsStored slots tree → root_of tree ≡ root → node_below slots root ≡ None → tree ≡ Leaf
leaf_below slots Leaf root stands rooted none = refl
leaf_below slots (Fork place entry height left right) root stands rooted none =
    absurd (none_node (record { entry = entry; left = root_of left; right = root_of right; height = height }) (sym none ∙ ap (node_below slots) (sym rooted) ∙ stands.0))

pub leaf_is : (tree : Tree) → root_of tree ≡ None → tree ≡ Leaf
leaf_is Leaf e = refl
leaf_is (Fork place entry height left right) e = absurd (none_slot (record { place = place }) (sym e))

pub no_walk : (tree : Tree) → root_of tree ≡ None → walk tree ≡ []
no_walk Leaf e = refl
no_walk (Fork place entry height left right) e = absurd (none_slot (record { place = place }) (sym e))

-- a subtree that was changed, and then a node over it
pub after_left : (given known : Tree → Type 0) (joined : Tree → Tree → Tree → Type 0) (old mid new : List (Option Node)) (bytes : List ℕ) (entries : List IndexEntry) (right : Tree) (place : ℕ) (node : Node) (root : Slot)
    → Makes given old mid entries node.left → IsStored old right → root_of right ≡ node.right → HasEntry old place node.entry
    → AreInOrder bytes (entries ++ node.entry ∷ walk right) → Joins joined mid new place node root
    → ((lower tree : Tree) → given lower → joined lower right tree → known tree) → Makes known old new (entries ++ node.entry ∷ walk right) (Some root)
after_left given known joined old mid new bytes entries right place node root made stands_right root_right has order joins combine =
    let apart = front_apart bytes entries (walk right) node.entry order in
    let whole : AreInOrder bytes (walk made.tree ++ node.entry ∷ walk right) = subst (λ (xs : List IndexEntry). AreInOrder bytes (xs ++ node.entry ∷ walk right)) (sym made.is) order in
    let next = joins bytes made.tree right made.stands made.rooted
    (stands_still old mid right entries stands_right made.others (λ x h g. apart x g (Contains-append_right (node.entry ∷ []) (walk right) x h)))
    root_right
    (entry_still old mid place node.entry entries has made.others (λ h. apart node.entry h (0, omega arith, refl))) whole in
    let same : walk made.tree ++ node.entry ∷ walk right ≡ entries ++ node.entry ∷ walk right = ap (λ (xs : List IndexEntry). xs ++ node.entry ∷ walk right) made.is in
    record {
      tree = next.tree;
      rooted = next.rooted;
      stands = next.stands;
      is = next.is ∙ same;
      shape = combine made.tree next.tree made.shape next.shape;
      others = λ p n e out. next.others p n (made.others p n e (λ h. out (in_front node.entry n.entry entries (walk right) h)))
          (λ h. out (subst (λ (xs : List IndexEntry). Contains xs n.entry) same h));
    }

pub after_right : (given known : Tree → Type 0) (joined : Tree → Tree → Tree → Type 0) (old mid new : List (Option Node)) (bytes : List ℕ) (entries : List IndexEntry) (left : Tree) (place : ℕ) (node : Node) (root : Slot)
    → Makes given old mid entries node.right → IsStored old left → root_of left ≡ node.left → HasEntry old place node.entry
    → AreInOrder bytes (walk left ++ node.entry ∷ entries) → Joins joined mid new place node root
    → ((lower tree : Tree) → given lower → joined left lower tree → known tree) → Makes known old new (walk left ++ node.entry ∷ entries) (Some root)
after_right given known joined old mid new bytes entries left place node root made stands_left root_left has order joins combine =
    let apart = front_apart bytes (walk left) entries node.entry order in
    let own = own_apart bytes (walk left) entries node.entry order in
    let whole : AreInOrder bytes (walk left ++ node.entry ∷ walk made.tree) = subst (λ (xs : List IndexEntry). AreInOrder bytes (walk left ++ node.entry ∷ xs)) (sym made.is) order in
    let next = joins bytes left made.tree
    (stands_still old mid left entries stands_left made.others (λ x h g. apart x h (Contains-append_right (node.entry ∷ []) entries x g)))
    root_left made.stands made.rooted
    (entry_still old mid place node.entry entries has made.others (λ h. own node.entry h (0, omega arith, refl))) whole in
    let same : walk left ++ node.entry ∷ walk made.tree ≡ walk left ++ node.entry ∷ entries = ap (λ (xs : List IndexEntry). walk left ++ node.entry ∷ xs) made.is in
    record {
      tree = next.tree;
      rooted = next.rooted;
      stands = next.stands;
      is = next.is ∙ same;
      shape = combine made.tree next.tree made.shape next.shape;
      others = λ p n e out. next.others p n (made.others p n e (λ h. out (in_back node.entry n.entry (walk left) entries h)))
          (λ h. out (subst (λ (xs : List IndexEntry). Contains xs n.entry) same h));
    }

-- a node that stays over a subtree in which entries were put in, and which keeps its root
pub kept_left : (given known : Tree → Type 0) (old new : List (Option Node)) (bytes : List ℕ) (entries : List IndexEntry) (right : Tree) (place : ℕ) (node : Node) {root : Option Slot}
    → (made : Makes given old new entries root) → root_of made.tree ≡ node.left → IsStored old right → root_of right ≡ node.right → node_at old place ≡ Some node
    → AreInOrder bytes (entries ++ node.entry ∷ walk right) → (given made.tree → known (Fork place node.entry node.height made.tree right))
    → Makes known old new (entries ++ node.entry ∷ walk right) (Some (record { place = place }))
kept_left given known old new bytes entries right place node made rooted stands_right root_right there order combine =
    let apart = front_apart bytes entries (walk right) node.entry order in
    record {
      tree = Fork place node.entry node.height made.tree right;
      rooted = refl;
      stands = (
        made.others place node there (λ h. apart node.entry h (0, omega arith, refl))
            ∙ (λ i. Some (record { entry = node.entry; left = sym rooted i; right = sym root_right i; height = node.height })),
        made.stands,
        stands_still old new right entries stands_right made.others (λ x h g. apart x g (Contains-append_right (node.entry ∷ []) (walk right) x h)),
      );
      is = ap (λ (xs : List IndexEntry). xs ++ node.entry ∷ walk right) made.is;
      shape = combine made.shape;
      others = λ p n e out. made.others p n e (λ h. out (in_front node.entry n.entry entries (walk right) h));
    }

pub kept_right : (given known : Tree → Type 0) (old new : List (Option Node)) (bytes : List ℕ) (entries : List IndexEntry) (left : Tree) (place : ℕ) (node : Node) {root : Option Slot}
    → (made : Makes given old new entries root) → root_of made.tree ≡ node.right → IsStored old left → root_of left ≡ node.left → node_at old place ≡ Some node
    → AreInOrder bytes (walk left ++ node.entry ∷ entries) → (given made.tree → known (Fork place node.entry node.height left made.tree))
    → Makes known old new (walk left ++ node.entry ∷ entries) (Some (record { place = place }))
kept_right given known old new bytes entries left place node made rooted stands_left root_left there order combine =
    let apart = front_apart bytes (walk left) entries node.entry order in
    let own = own_apart bytes (walk left) entries node.entry order in
    record {
      tree = Fork place node.entry node.height left made.tree;
      rooted = refl;
      stands = (
        made.others place node there (λ h. own node.entry h (0, omega arith, refl))
            ∙ (λ i. Some (record { entry = node.entry; left = sym root_left i; right = sym rooted i; height = node.height })),
        stands_still old new left entries stands_left made.others (λ x h g. apart x h (Contains-append_right (node.entry ∷ []) entries x g)),
        made.stands,
      );
      is = ap (λ (xs : List IndexEntry). walk left ++ node.entry ∷ xs) made.is;
      shape = combine made.shape;
      others = λ p n e out. made.others p n e (λ h. out (in_back node.entry n.entry (walk left) entries h));
    }

-- the same tree under a list that is equal
makes_as : (known : Tree → Type 0) (old new : List (Option Node)) (xs ys : List IndexEntry) (root : Option Slot) → xs ≡ ys → Makes known old new xs root → Makes known old new ys root
makes_as known old new xs ys root e made = subst (λ (l : List IndexEntry). Makes known old new l root) e made

-- the left child comes up
pub raised_left : (old mid new : List (Option Node)) (slot child : Slot) (node lower : Node) → node.left ≡ Some child → node_at old child.place ≡ Some lower
    → Joins IsOver old mid slot.place (record { entry = node.entry; left = lower.right; right = node.right; height = node.height }) slot
    → Joins IsOver mid new child.place (record { entry = lower.entry; left = lower.left; right = Some slot; height = lower.height }) child
    → Joins RaisesLeft old new slot.place node child
raised_left old mid new slot child node lower is there first second bytes left right stands_left root_left stands_right root_right has order =
    let half = halves old left child lower stands_left (root_left ∙ is) there in
    let upper = walk half.right ++ node.entry ∷ walk right in
    let turned : walk left ++ node.entry ∷ walk right ≡ walk half.left ++ lower.entry ∷ upper =
    ap (λ (xs : List IndexEntry). xs ++ node.entry ∷ walk right) half.is ∙ append_assoc (walk half.left) (lower.entry ∷ walk half.right) (node.entry ∷ walk right) in
    let all : AreInOrder bytes (walk half.left ++ lower.entry ∷ upper) = subst (AreInOrder bytes) turned order in
    let above : AreInOrder bytes upper = back_order bytes (lower.entry ∷ []) upper (back_order bytes (walk half.left) (lower.entry ∷ upper) all) in
    let made = first bytes half.right right half.stands_right half.root_right stands_right root_right has above in
    makes_as (RaisesLeft left right) old new (walk half.left ++ lower.entry ∷ upper) (walk left ++ node.entry ∷ walk right) (Some child) (sym turned)
    (after_right (IsOver half.right right) (RaisesLeft left right) IsOver old mid new bytes upper half.left child.place
    (record { entry = lower.entry; left = lower.left; right = Some slot; height = lower.height }) child
    made half.stands_left half.root_left (record { node = lower; there = there; is = refl }) all second
    (λ below tree pair whole. subst (λ (t : Tree). RaisesLeft t right tree) (sym half.fork) (record { below = below; pair = pair; whole = whole })))

-- the right child comes up
pub raised_right : (old mid new : List (Option Node)) (slot child : Slot) (node lower : Node) → node.right ≡ Some child → node_at old child.place ≡ Some lower
    → Joins IsOver old mid slot.place (record { entry = node.entry; left = node.left; right = lower.left; height = node.height }) slot
    → Joins IsOver mid new child.place (record { entry = lower.entry; left = Some slot; right = lower.right; height = lower.height }) child
    → Joins RaisesRight old new slot.place node child
raised_right old mid new slot child node lower is there first second bytes left right stands_left root_left stands_right root_right has order =
    let half = halves old right child lower stands_right (root_right ∙ is) there in
    let below = walk left ++ node.entry ∷ walk half.left in
    let turned : walk left ++ node.entry ∷ walk right ≡ below ++ lower.entry ∷ walk half.right =
    ap (λ (xs : List IndexEntry). walk left ++ node.entry ∷ xs) half.is ∙ sym (append_assoc (walk left) (node.entry ∷ walk half.left) (lower.entry ∷ walk half.right)) in
    let all : AreInOrder bytes (below ++ lower.entry ∷ walk half.right) = subst (AreInOrder bytes) turned order in
    let above : AreInOrder bytes below = front_order bytes below (lower.entry ∷ walk half.right) all in
    let made = first bytes left half.left stands_left root_left half.stands_left half.root_left has above in
    makes_as (RaisesRight left right) old new (below ++ lower.entry ∷ walk half.right) (walk left ++ node.entry ∷ walk right) (Some child) (sym turned)
    (after_left (IsOver left half.left) (RaisesRight left right) IsOver old mid new bytes below half.right child.place
    (record { entry = lower.entry; left = Some slot; right = lower.right; height = lower.height }) child
    made half.stands_right half.root_right (record { node = lower; there = there; is = refl }) all second
    (λ lower_tree tree pair whole. subst (λ (t : Tree). RaisesRight left t tree) (sym half.fork) (record { below = lower_tree; pair = pair; whole = whole })))

-- a node without a child there is only written
pub unraised_left : (old new : List (Option Node)) (slot : Slot) (node : Node) (root : Slot) → node_below old node.left ≡ None → Joins IsOver old new slot.place node root → Joins RaisesLeft old new slot.place node root
unraised_left old new slot node root none joins bytes left right stands_left root_left stands_right root_right has order =
    let made = joins bytes left right stands_left root_left stands_right root_right has order in
    let leaf = leaf_below old left node.left stands_left root_left none in
    record {
      tree = made.tree;
      rooted = made.rooted;
      stands = made.stands;
      is = made.is;
      shape = subst (λ (t : Tree). RaisesLeft t right made.tree) (sym leaf) (subst (λ (t : Tree). IsOver t right made.tree) leaf made.shape);
      others = made.others;
    }

pub unraised_right : (old new : List (Option Node)) (slot : Slot) (node : Node) (root : Slot) → node_below old node.right ≡ None → Joins IsOver old new slot.place node root → Joins RaisesRight old new slot.place node root
unraised_right old new slot node root none joins bytes left right stands_left root_left stands_right root_right has order =
    let made = joins bytes left right stands_left root_left stands_right root_right has order in
    let leaf = leaf_below old right node.right stands_right root_right none in
    record {
      tree = made.tree;
      rooted = made.rooted;
      stands = made.stands;
      is = made.is;
      shape = subst (λ (t : Tree). RaisesRight left t made.tree) (sym leaf) (subst (λ (t : Tree). IsOver left t made.tree) leaf made.shape);
      others = made.others;
    }

-- a node that joins its own subtrees turns its tree
pub turned : (joined : Tree → Tree → Tree → Type 0) (known : Tree → Tree → Type 0) (old new : List (Option Node)) (slot : Slot) (node : Node) (root : Slot)
    → node_at old slot.place ≡ Some node → Joins joined old new slot.place node root
    → ((left right tree : Tree) → height_of left ≡ height_at old node.left → height_of right ≡ height_at old node.right → joined left right tree
    → known (Fork slot.place node.entry node.height left right) tree)
    → Rebuilds known old new (Some slot) (Some root)
turned joined known old new slot node root there joins combine bytes tree stands rooted order =
    let half = halves old tree slot node stands rooted there in
    let made = joins bytes half.left half.right half.stands_left half.root_left half.stands_right half.root_right (record { node = node; there = there; is = refl })
    (subst (AreInOrder bytes) half.is order) in
    let low = height_reads old half.left node.left half.stands_left half.root_left in
    let high = height_reads old half.right node.right half.stands_right half.root_right in
    makes_as (known tree) old new (walk half.left ++ node.entry ∷ walk half.right) (walk tree) (Some root) (sym half.is)
    (record {
      tree = made.tree;
      rooted = made.rooted;
      stands = made.stands;
      is = made.is;
      shape = subst (λ (t : Tree). known t made.tree) (sym half.fork) (combine half.left half.right made.tree low high made.shape);
      others = made.others;
    })

-- nothing is written
pub unturned : (known : Tree → Tree → Type 0) (old : List (Option Node)) (root : Option Slot) → ((tree : Tree) → IsStored old tree → root_of tree ≡ root → known tree tree)
    → Rebuilds known old old root root
unturned known old root kept bytes tree stands rooted order =
    record { tree = tree; rooted = rooted; stands = stands; is = refl; shape = kept tree stands rooted; others = λ p n e out. e }

-- a node that isn't higher on one side stays
pub unturned_at : (known : Tree → Tree → Type 0) (old : List (Option Node)) (slot : Slot) (node : Node) → node_at old slot.place ≡ Some node
    → ((left right : Tree) → height_of left ≡ height_at old node.left → height_of right ≡ height_at old node.right
    → known (Fork slot.place node.entry node.height left right) (Fork slot.place node.entry node.height left right))
    → Rebuilds known old old (Some slot) (Some slot)
unturned_at known old slot node there kept = unturned known old (Some slot) (λ tree stands rooted.
    let half = halves old tree slot node stands rooted there in
    let low = height_reads old half.left node.left half.stands_left half.root_left in
    let high = height_reads old half.right node.right half.stands_right half.root_right in
    subst (λ (t : Tree). known t t) (sym half.fork) (kept half.left half.right low high))

-- a subtree is turned, and then the node joins
pub turned_left : (turns : Tree → Tree → Type 0) (joined known : Tree → Tree → Tree → Type 0) (old mid new : List (Option Node)) (place : ℕ) (node next : Node) (root : Slot)
    → next.entry ≡ node.entry → next.right ≡ node.right → Rebuilds turns old mid node.left next.left → Joins joined mid new place next root
    → ((left right lower tree : Tree) → height_of left ≡ height_at old node.left → height_of right ≡ height_at old node.right → turns left lower → joined lower right tree
    → known left right tree)
    → Joins known old new place node root
turned_left turns joined known old mid new place node next root same_entry same_right rebuilds joins combine bytes left right stands_left root_left stands_right root_right has order =
    let as_next : (e : IndexEntry) → e ≡ node.entry → AreInOrder bytes (walk left ++ e ∷ walk right) = λ e q. subst (λ (x : IndexEntry). AreInOrder bytes (walk left ++ x ∷ walk right)) (sym q) order in
    let made = rebuilds bytes left stands_left root_left (front_order bytes (walk left) (node.entry ∷ walk right) order) in
    makes_as (known left right) old new (walk left ++ next.entry ∷ walk right) (walk left ++ node.entry ∷ walk right) (Some root) (ap (λ (e : IndexEntry). walk left ++ e ∷ walk right) same_entry)
    (after_left (turns left) (known left right) joined old mid new bytes (walk left) right place next root made stands_right (root_right ∙ sym same_right)
    (subst (HasEntry old place) (sym same_entry) has) (as_next next.entry same_entry) joins
    (λ lower tree turn join.
    combine left right lower tree (height_reads old left node.left stands_left root_left) (height_reads old right node.right stands_right root_right) turn join))

pub turned_right : (turns : Tree → Tree → Type 0) (joined known : Tree → Tree → Tree → Type 0) (old mid new : List (Option Node)) (place : ℕ) (node next : Node) (root : Slot)
    → next.entry ≡ node.entry → next.left ≡ node.left → Rebuilds turns old mid node.right next.right → Joins joined mid new place next root
    → ((left right lower tree : Tree) → height_of left ≡ height_at old node.left → height_of right ≡ height_at old node.right → turns right lower → joined left lower tree
    → known left right tree)
    → Joins known old new place node root
turned_right turns joined known old mid new place node next root same_entry same_left rebuilds joins combine bytes left right stands_left root_left stands_right root_right has order =
    let as_next : (e : IndexEntry) → e ≡ node.entry → AreInOrder bytes (walk left ++ e ∷ walk right) = λ e q. subst (λ (x : IndexEntry). AreInOrder bytes (walk left ++ x ∷ walk right)) (sym q) order in
    let made = rebuilds bytes right stands_right root_right (back_order bytes (node.entry ∷ []) (walk right) (back_order bytes (walk left) (node.entry ∷ walk right) order)) in
    makes_as (known left right) old new (walk left ++ next.entry ∷ walk right) (walk left ++ node.entry ∷ walk right) (Some root) (ap (λ (e : IndexEntry). walk left ++ e ∷ walk right) same_entry)
    (after_right (turns right) (known left right) joined old mid new bytes (walk right) left place next root made stands_left (root_left ∙ sym same_left)
    (subst (HasEntry old place) (sym same_entry) has) (as_next next.entry same_entry) joins
    (λ lower tree turn join.
    combine left right lower tree (height_reads old left node.left stands_left root_left) (height_reads old right node.right stands_right root_right) turn join))

-- the node alone joins
pub rejoined : (joined known : Tree → Tree → Tree → Type 0) (old new : List (Option Node)) (place : ℕ) (node : Node) (root : Slot) → Joins joined old new place node root
    → ((left right tree : Tree) → height_of left ≡ height_at old node.left → height_of right ≡ height_at old node.right → joined left right tree → known left right tree)
    → Joins known old new place node root
rejoined joined known old new place node root joins combine bytes left right stands_left root_left stands_right root_right has order =
    let made = joins bytes left right stands_left root_left stands_right root_right has order in
    record {
      tree = made.tree;
      rooted = made.rooted;
      stands = made.stands;
      is = made.is;
      shape = combine left right made.tree (height_reads old left node.left stands_left root_left) (height_reads old right node.right stands_right root_right) made.shape;
      others = made.others;
    }
