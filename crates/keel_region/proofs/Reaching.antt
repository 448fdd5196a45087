-- Each slot that is taken is reached once.
use Rattle.std.proofs.Common.{◌≡◌, ◌≢◌, ℕ, zero, suc, ◌<◌, ◌≤◌, cond, List, [], ◌∷◌, ◌++◌, length, map, get_or, set, Option, Some, None, inl, inr, refl, sym, ap, subst, ◌∙◌, arith}
use Rattle.std.specs.Prelude.{All, AllPairs, Contains, IsSome, is_some, count_by, ◌⊎◌}
use Rattle.std.proofs.lemmas.Bool.{cases_lt, false≢true}
use Rattle.std.proofs.lemmas.List.{map-append, length-map, get_or-map, get_or-set_other}
use Rattle.std.proofs.lemmas.List.Sums.{sum_by-set}
use Rattle.keel_base.specs.declared.row.Kind.TheVariants.{Put}
use Rattle.keel_region.specs.declared.span.IndexEntry.{IndexEntry}
use Rattle.keel_region.specs.declared.pool.Node.{Node}
use Rattle.keel_region.specs.Indexes.{IsReachedOnce}
use Rattle.keel_region.specs.Order.{Precedes, AreInOrder}
use Rattle.keel_region.specs.Slots.{node_at}
use Rattle.keel_region.specs.Spans.{bytes_at}
use Rattle.keel_region.specs.Trees.{Tree, Leaf, Fork, root_of, walk, places, IsStored}
use Rattle.keel_region.proofs.Orders.{comes_before-itself}
use Rattle.keel_region.proofs.Vacancies.{taken_there}

-- the entry of a slot
blank : IndexEntry
blank = record { seq = 0; kind = Put; key = record { start = 0; length = 0 }; value = record { start = 0; length = 0 } }

abbrev entry_in : Option Node → IndexEntry
entry_in None = blank
entry_in (Some node) = node.entry

abbrev entry_at : List (Option Node) → ℕ → IndexEntry
entry_at slots place = entry_in (node_at slots place)

entries_at : (slots : List (Option Node)) (tree : Tree) → IsStored slots tree → map (entry_at slots) (places tree) ≡ walk tree
entries_at slots Leaf stands = refl
entries_at slots (Fork place entry height left right) stands =
    let own : entry_at slots place ≡ entry = ap entry_in stands.0 in
    map-append (entry_at slots) (places left) (place ∷ places right)
    ∙ (λ i. entries_at slots left stands.1 i ++ own i ∷ entries_at slots right stands.2 i)

-- entries in order stand in slots of their own
stand_apart : (bytes : List ℕ) (slots : List (Option Node)) (tree : Tree) → IsStored slots tree → AreInOrder bytes (walk tree) → AllPairs (λ place other. place ≢ other) (places tree)
stand_apart bytes slots tree stands order i j d less lt same =
    let is = entries_at slots tree stands in
    let size : length (walk tree) ≡ length (places tree) = ap length (sym is) ∙ length-map (places tree) (entry_at slots) in
    let at : (k : ℕ) → k < length (places tree) → get_or (walk tree) k blank ≡ entry_at slots (get_or (places tree) k d) =
    λ k below. ap (λ (xs : List IndexEntry). get_or xs k blank) (sym is) ∙ get_or-map (entry_at slots) (places tree) k d blank below in
    let first = at i (omega (arith, less, lt)) in
    let second = at j lt in
    let twin : get_or (walk tree) i blank ≡ get_or (walk tree) j blank = first ∙ ap (entry_at slots) same ∙ sym second in
    let x = get_or (walk tree) j blank in
    false≢true (sym (comes_before-itself (bytes_at bytes x.key) x.seq)
    ∙ subst (λ (e : IndexEntry). Precedes bytes e x) twin (order i j blank less (omega (arith, lt, size))))

-- slots that are taken and apart are no more than all that are taken
abbrev held : Option Node → ℕ
held slot = cond (is_some slot) 1 0

held_some : (slot : Option Node) → IsSome slot → held slot ≡ 1
held_some None some = absurd cc
held_some (Some node) some = refl

few : (xs : List ℕ) (slots : List (Option Node)) → AllPairs (λ place other. place ≢ other) xs → All (λ place. IsSome (node_at slots place)) xs → length xs ≤ count_by is_some slots
few [] slots apart taken = omega arith
few (x ∷ xs) slots apart taken =
    let own : IsSome (node_at slots x) = taken 0 x (omega arith) in
    let there : x < length slots = taken_there slots x own in
    let rest = few xs (set slots x None) (λ i j d less lt. apart (suc i) (suc j) d (omega (arith, less)) (omega (arith, lt)))
    (λ k d lt.
    let other : get_or xs k d ≢ x = λ e. apart 0 (suc k) d (omega arith) (omega (arith, lt)) (sym e) in
    subst IsSome (sym (get_or-set_other slots x (get_or xs k d) None None other)) (taken (suc k) d (omega (arith, lt)))) in
    omega (arith, rest, sum_by-set held slots x None None there, held_some (node_at slots x) own)

-- a number is in a list, or stands apart from all of it
Contains-next : (y : ℕ) (xs : List ℕ) (x : ℕ) → Contains xs x → Contains (y ∷ xs) x
Contains-next y xs x (k, lt, is) = (suc k, omega (arith, lt), is)

apart_next : (y : ℕ) (xs : List ℕ) (x : ℕ) → y ≢ x → All (λ z. z ≢ x) xs → All (λ z. z ≢ x) (y ∷ xs)
apart_next y xs x own all zero d lt = own
apart_next y xs x own all (suc k) d lt = all k d (omega (arith, lt))

same_or : (a b : ℕ) → (a ≡ b) ⊎ (a ≢ b)
same_or a b = elim (cases_lt a b) [
  | inl less ↦ inr (λ e. absurd (omega (arith, less, e)))
  | inr le ↦ elim (cases_lt b a) [
    | inl less ↦ inr (λ e. absurd (omega (arith, less, e)))
    | inr more ↦ inl (omega (arith, le, more))
  ]
]

in_or_apart : (xs : List ℕ) (x : ℕ) → Contains xs x ⊎ All (λ z. z ≢ x) xs
in_or_apart [] x = inr (λ k d lt. absurd (omega (arith, lt)))
in_or_apart (y ∷ xs) x = elim (same_or y x) [
  | inl same ↦ inl (0, omega arith, same)
  | inr own ↦ elim (in_or_apart xs x) [
    | inl there ↦ inl (Contains-next y xs x there)
    | inr all ↦ inr (apart_next y xs x own all)
  ]
]

pairs_front : (xs : List ℕ) (x : ℕ) → All (λ z. z ≢ x) xs → AllPairs (λ place other. place ≢ other) xs → AllPairs (λ place other. place ≢ other) (x ∷ xs)
pairs_front xs x all apart i zero d less lt = absurd (omega (arith, less))
pairs_front xs x all apart zero (suc j) d less lt = λ e. all j d (omega (arith, lt)) (sym e)
pairs_front xs x all apart (suc i) (suc j) d less lt = apart i j d (omega (arith, less)) (omega (arith, lt))

all_front : (slots : List (Option Node)) (xs : List ℕ) (x : ℕ) → IsSome (node_at slots x) → All (λ place. IsSome (node_at slots place)) xs → All (λ place. IsSome (node_at slots place)) (x ∷ xs)
all_front slots xs x own all zero d lt = own
all_front slots xs x own all (suc k) d lt = all k d (omega (arith, lt))

each_there : (xs : List ℕ) (slots : List (Option Node)) → AllPairs (λ place other. place ≢ other) xs → All (λ place. IsSome (node_at slots place)) xs → length xs ≡ count_by is_some slots
    → (place : ℕ) → IsSome (node_at slots place) → Contains xs place
each_there xs slots apart taken count place own =
    elim (in_or_apart xs place) [
      | inl there ↦ there
      | inr all ↦ absurd (omega (arith, few (place ∷ xs) slots (pairs_front xs place all apart) (all_front slots xs place own taken), count))
    ]

-- the slots of a tree that stands are taken
some_node : (slot : Option Node) (node : Node) → slot ≡ Some node → IsSome slot
some_node slot node e = subst IsSome (sym e) refl

all_both : (P : ℕ → Type 0) (xs ys : List ℕ) (y : ℕ) → All P xs → P y → All P ys → All P (xs ++ y ∷ ys)
all_both P [] ys y front own back zero d lt = own
all_both P [] ys y front own back (suc k) d lt = back k d (omega (arith, lt))
all_both P (x ∷ xs) ys y front own back zero d lt = front 0 d (omega arith)
all_both P (x ∷ xs) ys y front own back (suc k) d lt = all_both P xs ys y (λ j e below. front (suc j) e (omega (arith, below))) own back k d (omega (arith, lt))

places_taken : (slots : List (Option Node)) (tree : Tree) → IsStored slots tree → All (λ place. IsSome (node_at slots place)) (places tree)
places_taken slots Leaf stands = λ k d lt. absurd (omega (arith, lt))
places_taken slots (Fork place entry height left right) stands =
    all_both (λ p. IsSome (node_at slots p)) (places left) (places right) place (places_taken slots left stands.1)
    (some_node (node_at slots place) (record { entry = entry; left = root_of left; right = root_of right; height = height }) stands.0) (places_taken slots right stands.2)

pub reached_once : (bytes : List ℕ) (slots : List (Option Node)) (tree : Tree) → IsStored slots tree → AreInOrder bytes (walk tree) → length (walk tree) ≡ count_by is_some slots
    → IsReachedOnce slots tree
reached_once bytes slots tree stands order count =
    let apart = stand_apart bytes slots tree stands order in
    let size : length (walk tree) ≡ length (places tree) = ap length (sym (entries_at slots tree stands)) ∙ length-map (places tree) (entry_at slots) in
    record { all = each_there (places tree) slots apart (places_taken slots tree stands) (sym size ∙ count); once = apart }

none_taken : (slot : Option Node) → slot ≡ None → IsSome slot → ⊥
none_taken None e some = absurd cc
none_taken (Some node) e some = absurd cc

pub none_reached : (slots : List (Option Node)) → ((place : ℕ) → node_at slots place ≡ None) → IsReachedOnce slots Leaf
none_reached slots vacant = record {
  all = λ place some. absurd (none_taken (node_at slots place) (vacant place) some);
  once = λ i j d less lt. absurd (omega (arith, lt));
}
