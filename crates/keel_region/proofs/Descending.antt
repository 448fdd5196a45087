-- Going down a tree to the first entry that fails a test.
use Rattle.std.proofs.Common.{◌≡◌, ℕ, zero, suc, ◌+◌, ◌<◌, ◌≤◌, Bool, true, false, List, [], ◌∷◌, ◌++◌, length, get_or, Option, Some, None, inl, inr, refl, sym, ap, subst, ◌∙◌, arith}
use Rattle.std.specs.Prelude.{find, slice_get, if◌then◌else◌}
use Rattle.std.proofs.lemmas.Bool.{cases_lt, false≢true}
use Rattle.std.proofs.lemmas.List.{get_or_default}
use Rattle.keel_region.specs.declared.span.IndexEntry.{IndexEntry}
use Rattle.keel_region.specs.declared.pool.Node.{Node}
use Rattle.keel_region.specs.declared.pool.Slot.{Slot}
use Rattle.keel_region.specs.Order.{Precedes, AreInOrder, entry_before, has_key}
use Rattle.keel_region.specs.Places.{IsPlaceOf}
use Rattle.keel_region.specs.Slots.{node_at}
use Rattle.keel_region.specs.Spans.{bytes_at, IsHeld, AreHeld}
use Rattle.keel_region.specs.Trees.{Tree, root_of, walk, IsStored, failing_or, is_up_to}
use Rattle.keel_region.proofs.Orders.{comes_before-itself, comes_before-trans}
use Rattle.keel_region.proofs.Seeking.{slice_get_some, found_past, found_here, found_other}
use Rattle.keel_region.proofs.Trees.{back_order, front_order, cross_order, halves, no_walk}
use Rattle.keel_region.proofs.Planting.{get_or_self, has_place}

left_by : (test : IndexEntry → Bool) (x : IndexEntry) (xs : List IndexEntry) (e : IndexEntry) (ys : List IndexEntry) (best : Option IndexEntry) (b : Bool) → test x ≡ b
    → failing_or test (xs ++ e ∷ ys) best ≡ failing_or test xs (Some e) → failing_or test (x ∷ (xs ++ e ∷ ys)) best ≡ failing_or test (x ∷ xs) (Some e)
left_by test x xs e ys best true h more = rw h more
left_by test x xs e ys best false h more = rw h refl

-- where the root's entry fails, it is the best of its right side
pub failing_left : (test : IndexEntry → Bool) (xs : List IndexEntry) (e : IndexEntry) (ys : List IndexEntry) (best : Option IndexEntry) → test e ≡ false
    → failing_or test (xs ++ e ∷ ys) best ≡ failing_or test xs (Some e)
failing_left test [] e ys best h = rw h refl
failing_left test (x ∷ xs) e ys best h = left_by test x xs e ys best (test x) refl (failing_left test xs e ys best h)

-- where it passes, so do those on its left
pub failing_right : (test : IndexEntry → Bool) (xs : List IndexEntry) (e : IndexEntry) (ys : List IndexEntry) (best : Option IndexEntry)
    → ((k : ℕ) (d : IndexEntry) → k < length xs → test (get_or xs k d) ≡ true) → test e ≡ true → failing_or test (xs ++ e ∷ ys) best ≡ failing_or test ys best
failing_right test [] e ys best all h = rw h refl
failing_right test (x ∷ xs) e ys best all h =
    let first : test x ≡ true = all 0 x (omega arith) in
    rw first (failing_right test xs e ys best (λ k d lt. all (suc k) d (omega arith)) h)

-- it is the entry at the test's place
pub failing_at : (test : IndexEntry → Bool) (xs : List IndexEntry) (place : ℕ) → IsPlaceOf test xs place → failing_or test xs None ≡ slice_get xs place
failing_at test [] place at = refl
failing_at test (x ∷ xs) zero at =
    let h : test x ≡ false = at.behind 0 x (omega arith) (omega arith) in
    rw h refl
failing_at test (x ∷ xs) (suc place) at =
    let h : test x ≡ true = at.before 0 x (omega arith) in
    rw h (failing_at test xs place (record {
      within = omega (arith, at.within);
      before = λ k d lt. at.before (suc k) d (omega arith);
      behind = λ k d le lt. at.behind (suc k) d (omega arith) (omega arith);
    }))

abbrev pub Answers : List ℕ → List (Option Node) → (IndexEntry → Bool) → Option Slot → Option IndexEntry → Option IndexEntry → Type 0
Answers bytes slots test root best result = (tree : Tree) → IsStored slots tree → root_of tree ≡ root → AreInOrder bytes (walk tree) → result ≡ failing_or test (walk tree) best

module _ (bytes : List ℕ) (slots : List (Option Node)) (test : IndexEntry → Bool) (slot : Slot) (node : Node) (there : node_at slots slot.place ≡ Some node) (best result : Option IndexEntry) where
  pub go_left : test node.entry ≡ false → Answers bytes slots test node.left (Some node.entry) result → Answers bytes slots test (Some slot) best result
  go_left h answers tree stands rooted order =
      let half = halves slots tree slot node stands rooted there in
      let whole : AreInOrder bytes (walk half.left ++ node.entry ∷ walk half.right) = subst (AreInOrder bytes) half.is order in
      answers half.left half.stands_left half.root_left (front_order bytes (walk half.left) (node.entry ∷ walk half.right) whole)
      ∙ sym (failing_left test (walk half.left) node.entry (walk half.right) best h)
      ∙ ap (λ (xs : List IndexEntry). failing_or test xs best) (sym half.is)

  pub go_right : test node.entry ≡ true → ((x y : IndexEntry) → Precedes bytes x y → test y ≡ true → test x ≡ true) → Answers bytes slots test node.right best result
      → Answers bytes slots test (Some slot) best result
  go_right h down answers tree stands rooted order =
      let half = halves slots tree slot node stands rooted there in
      let whole : AreInOrder bytes (walk half.left ++ node.entry ∷ walk half.right) = subst (AreInOrder bytes) half.is order in
      answers half.right half.stands_right half.root_right (back_order bytes (node.entry ∷ []) (walk half.right) (back_order bytes (walk half.left) (node.entry ∷ walk half.right) whole))
      ∙ sym (failing_right test (walk half.left) node.entry (walk half.right) best
      (λ k d lt. down (get_or (walk half.left) k d) node.entry
      (cross_order bytes (walk half.left) (node.entry ∷ walk half.right) whole (get_or (walk half.left) k d) node.entry
      (k, lt, get_or_self (walk half.left) k d lt) (0, omega arith, refl)) h) h)
      ∙ ap (λ (xs : List IndexEntry). failing_or test xs best) (sym half.is)

pub nothing : (bytes : List ℕ) (slots : List (Option Node)) (test : IndexEntry → Bool) (best : Option IndexEntry) → Answers bytes slots test None best best
nothing bytes slots test best tree stands rooted order = ap (λ (xs : List IndexEntry). failing_or test xs best) (sym (no_walk tree rooted))

-- the leftmost
pub most_left : (slots : List (Option Node)) (slot : Slot) (node : Node) → node_at slots slot.place ≡ Some node → (best result : Option IndexEntry)
    → ((tree : Tree) → IsStored slots tree → root_of tree ≡ node.left → result ≡ failing_or (λ entry. false) (walk tree) (Some node.entry))
    → (tree : Tree) → IsStored slots tree → root_of tree ≡ Some slot → result ≡ failing_or (λ entry. false) (walk tree) best
most_left slots slot node there best result answers tree stands rooted =
    let half = halves slots tree slot node stands rooted there in
    answers half.left half.stands_left half.root_left
    ∙ sym (failing_left (λ entry. false) (walk half.left) node.entry (walk half.right) best refl)
    ∙ ap (λ (xs : List IndexEntry). failing_or (λ entry. false) xs best) (sym half.is)

pub failing_first : (xs : List IndexEntry) → failing_or (λ entry. false) xs None ≡ slice_get xs 0
failing_first [] = refl
failing_first (x ∷ xs) = refl

-- an entry that comes behind one comes behind those in front of it
up_to_is : (b : Bool) → (if b then false else true) ≡ true → b ≡ false
up_to_is true h = sym h
up_to_is false h = refl

is_up : (b : Bool) → b ≡ false → (if b then false else true) ≡ true
is_up b h = rw h refl

isnt_up : (b : Bool) → b ≡ true → (if b then false else true) ≡ false
isnt_up b h = rw h refl

never : (b : Bool) → (b ≡ true → ⊥) → b ≡ false
never true h = absurd (h refl)
never false h = refl

pub up_to_down : (bytes : List ℕ) (entry x y : IndexEntry) → Precedes bytes x y → is_up_to bytes entry y ≡ true → is_up_to bytes entry x ≡ true
up_to_down bytes entry x y less h =
    is_up (entry_before bytes (bytes_at bytes x.key) (Some x.seq) entry)
    (never _ (λ holds. false≢true (sym (up_to_is (entry_before bytes (bytes_at bytes y.key) (Some y.seq) entry) h)
    ∙ comes_before-trans (bytes_at bytes entry.key) entry.seq (bytes_at bytes x.key) x.seq (bytes_at bytes y.key) y.seq holds less)))

pub passes_up : (bytes : List ℕ) (entry x : IndexEntry) → entry_before bytes (bytes_at bytes x.key) (Some x.seq) entry ≡ false → is_up_to bytes entry x ≡ true
passes_up bytes entry x h = is_up _ h

pub fails_up : (bytes : List ℕ) (entry x : IndexEntry) → entry_before bytes (bytes_at bytes x.key) (Some x.seq) entry ≡ true → is_up_to bytes entry x ≡ false
fails_up bytes entry x h = isnt_up _ h

-- behind an entry that is there stands the next one
pub behind_at : (bytes : List ℕ) (entries : List IndexEntry) (entry : IndexEntry) (k : ℕ) → AreInOrder bytes entries → slice_get entries k ≡ Some entry
    → IsPlaceOf (is_up_to bytes entry) entries (k + 1)
behind_at bytes entries entry k order is =
    let there = slice_get_some entries k entry is in
    let itself : is_up_to bytes entry entry ≡ true = passes_up bytes entry entry (comes_before-itself (bytes_at bytes entry.key) entry.seq) in
    record {
      within = omega (arith, there.0);
      before = λ j d lt. elim (cases_lt j k) [
        | inl less ↦ up_to_down bytes entry (get_or entries j d) entry
            (subst (λ (e : IndexEntry). Precedes bytes (get_or entries j d) e) (get_or_default entries k d entry there.0 ∙ there.1) (order j k d less there.0)) itself
        | inr more ↦ let same : k ≡ j = omega arith in
            subst (λ (n : ℕ). is_up_to bytes entry (get_or entries n d) ≡ true) same
            (ap (is_up_to bytes entry) (get_or_default entries k d entry there.0 ∙ there.1) ∙ itself)
      ];
      behind = λ j d le lt. fails_up bytes entry (get_or entries j d)
          (subst (λ (e : IndexEntry). Precedes bytes e (get_or entries j d)) (get_or_default entries k d entry there.0 ∙ there.1) (order k j d (omega arith) lt));
    }

-- the first entry that isn't before the key tells what is found of it
slice_get_none : (xs : List IndexEntry) (place : ℕ) → slice_get xs place ≡ None → length xs ≤ place
slice_get_none [] place h = omega arith
slice_get_none (x ∷ xs) zero h = absurd cc
slice_get_none (x ∷ xs) (suc place) h = omega (arith, slice_get_none xs place h)

module _ (bytes key : List ℕ) (xs : List IndexEntry) (order : AreInOrder bytes xs) where
  pub found_none : failing_or (entry_before bytes key None) xs None ≡ None → find (has_key bytes key) xs ≡ None
  found_none h =
      let has = has_place bytes key None xs order in
      found_past bytes key xs has.place has.at (slice_get_none xs has.place (sym (failing_at (entry_before bytes key None) xs has.place has.at) ∙ h))

  module _ (entry : IndexEntry) where
    there : failing_or (entry_before bytes key None) xs None ≡ Some entry → slice_get xs (has_place bytes key None xs order).place ≡ Some entry
    there h = let has = has_place bytes key None xs order in sym (failing_at (entry_before bytes key None) xs has.place has.at) ∙ h

    pub failing_held : AreHeld bytes xs → failing_or (entry_before bytes key None) xs None ≡ Some entry → IsHeld bytes entry
    failing_held held h =
        let has = has_place bytes key None xs order in
        let at = slice_get_some xs has.place entry (there h) in
        subst (IsHeld bytes) at.1 (held has.place entry at.0)

    pub found_one : failing_or (entry_before bytes key None) xs None ≡ Some entry → has_key bytes key entry ≡ true → find (has_key bytes key) xs ≡ Some entry
    found_one h same =
        let has = has_place bytes key None xs order in
        let at = slice_get_some xs has.place entry (there h) in
        found_here bytes key xs has.place has.at entry at.0 at.1 same

    pub found_else : failing_or (entry_before bytes key None) xs None ≡ Some entry → has_key bytes key entry ≡ false → find (has_key bytes key) xs ≡ None
    found_else h differ =
        let has = has_place bytes key None xs order in
        let at = slice_get_some xs has.place entry (there h) in
        found_other bytes key xs has.place has.at entry order at.0 at.1 differ
