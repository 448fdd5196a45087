-- Of rows in order the first of a key is its newest, whatever the order that they arrived in.
use Rattle.std.proofs.Common.{◌≡◌, ◌⊎◌, inl, inr, ℕ, zero, suc, ◌<◌, Bool, true, false, cond, ltb, List, [], ◌∷◌, Option, Some, None, refl, sym, ap, subst, ◌∙◌, arith}
use Rattle.std.specs.Prelude.{◌||◌, ◌&&◌, All, AllPairs, Contains, find, IfSome}
use Rattle.std.specs.Option.{option_map}
use Rattle.std.specs.List.Sorted.{IsPermutation}
use Rattle.std.specs.declared.cmp.Ordering.{Ordering}
use Rattle.std.specs.declared.cmp.Ordering.TheVariants.{Less, Equal, Greater}
use Rattle.std.specs.Ordering.{is_lt, is_eq}
use Rattle.std.proofs.lemmas.Bool.{ltb-true, false≢true}
use Rattle.std.proofs.lemmas.List.Elements.{All-nil, All-cons, All-head, All-tail, All-weaker}
use Rattle.std.proofs.lemmas.List.Sorted.{All-permutation, Contains-permutation, IsPermutation-sym}
use Rattle.keel_base.specs.declared.row.Row.{Row}
use Rattle.keel_base.specs.Keys.{key_cmp, key_eq}
use Rattle.keel_base.specs.Rows.{newer, newest}
use Rattle.keel_base.proofs.KeyOrder.{eq_same, cmp_itself}
use Rattle.keel_base.proofs.Newest.{newer_is_other, newer_is_row}
use Rattle.keel_region.specs.declared.span.IndexEntry.{IndexEntry}
use Rattle.keel_region.specs.Order.{has_key}
use Rattle.keel_region.specs.Order as entries
use Rattle.keel_region.specs.Spans.{IsHeld, AreHeld}
use Rattle.keel_mem.specs.RowOrder.{RowPrecedes, AreInOrder, row_has}
use Rattle.keel_mem.specs.Shown.{row_in, rows_in, rows_by_arrival}
use Rattle.keel_mem.proofs.Keeping.{rows_in_order}
use Rattle.keel_mem.proofs.Numbering.{by_number-permutes}

later_of : (o : Ordering) (i j : ℕ) → o ≡ Equal → (is_lt o || (is_eq o && ltb j i)) ≡ true → j < i
later_of Less i j e h = absurd cc
later_of Equal i j e h = ltb-true j i h
later_of Greater i j e h = absurd cc

-- of two rows of a key the one in front is the newer
newer_in_front : (key : List ℕ) (row other : Row) → key_eq row.key key ≡ true → key_eq other.key key ≡ true → RowPrecedes row other → other.seq < row.seq
newer_in_front key row other is other_is before =
    let first = eq_same row.key key is in
    let second = eq_same other.key key other_is in
    let same : key_cmp row.key other.key ≡ Equal = ap (key_cmp row.key) (second ∙ sym first) ∙ cmp_itself row.key in
    later_of (key_cmp row.key other.key) row.seq other.seq same before

-- a row is that one or older
abbrev IsUpTo : Row → Row → Type 0
IsUpTo row other = (other ≡ row) ⊎ (other.seq < row.seq)

-- a row of another key, or that one or older
abbrev IsPassed : List ℕ → Row → Row → Type 0
IsPassed key row other = key_eq other.key key ≡ true → IsUpTo row other

over_rest : (row other : Row) → IsUpTo row other → newer row (Some other) ≡ Some row
over_rest row other (inl same) = newer_is_row row other (omega (arith, ap (λ (r : Row). r.seq) same))
over_rest row other (inr less) = newer_is_row row other (omega (arith, less))

under_newest : (row other : Row) → IsUpTo row other → newer other (Some row) ≡ Some row
under_newest row other (inl same) =
    newer_is_row other row (omega (arith, ap (λ (r : Row). r.seq) same)) ∙ ap (λ (r : Row). Some r) same
under_newest row other (inr less) = newer_is_other other row less

newer_up_to : (row other : Row) (rest : Option Row) → IsUpTo row other → IfSome rest (IsUpTo row) → IfSome (newer other rest) (IsUpTo row)
newer_up_to row other None one h = one
newer_up_to row other (Some r) one h = one_of (ltb other.seq r.seq)
  where
    one_of : (b : Bool) → IfSome (cond b (Some r) (Some other)) (IsUpTo row)
    one_of true = h
    one_of false = one

newest_up_to : (key : List ℕ) (row : Row) (rows : List Row) → All (IsPassed key row) rows → IfSome (newest key rows) (IsUpTo row)
newest_up_to key row [] passed = tt
newest_up_to key row (other ∷ rows) passed =
    either (key_eq other.key key) refl (newest_up_to key row rows (All-tail (IsPassed key row) other rows passed))
  where
    either : (b : Bool) → key_eq other.key key ≡ b → IfSome (newest key rows) (IsUpTo row) → IfSome (cond b (newer other (newest key rows)) (newest key rows)) (IsUpTo row)
    either true e rest = newer_up_to row other (newest key rows) (All-head (IsPassed key row) other rows passed e) rest
    either false e rest = rest

over_all : (row : Row) (rest : Option Row) → IfSome rest (IsUpTo row) → newer row rest ≡ Some row
over_all row None h = refl
over_all row (Some other) h = over_rest row other h

-- the row of a key that no other passes is the newest
newest_is : (key : List ℕ) (row : Row) (rows : List Row) → key_eq row.key key ≡ true → All (IsPassed key row) rows → Contains rows row → newest key rows ≡ Some row
newest_is key row [] is passed (k, lt, e) = absurd (omega arith)
newest_is key row (other ∷ rows) is passed (zero, lt, e) =
    let same : key_eq other.key key ≡ true = ap (λ (r : Row). key_eq r.key key) e ∙ is in
    let rest = newest_up_to key row rows (All-tail (IsPassed key row) other rows passed) in
    ap (λ (b : Bool). cond b (newer other (newest key rows)) (newest key rows)) same
    ∙ ap (λ (r : Row). newer r (newest key rows)) e ∙ over_all row (newest key rows) rest
newest_is key row (other ∷ rows) is passed (suc k, lt, e) =
    let rest = newest_is key row rows is (All-tail (IsPassed key row) other rows passed) (k, omega arith, e) in
    ap (λ (o : Option Row). cond (key_eq other.key key) (newer other o) o) rest ∙ either (key_eq other.key key) refl
  where
    either : (b : Bool) → key_eq other.key key ≡ b → cond b (newer other (Some row)) (Some row) ≡ Some row
    either true f = under_newest row other (All-head (IsPassed key row) other rows passed f)
    either false f = refl

newest_none : (key : List ℕ) (rows : List Row) → All (λ row. key_eq row.key key ≡ false) rows → newest key rows ≡ None
newest_none key [] other = refl
newest_none key (row ∷ rows) other =
    rw (All-head (λ (r : Row). key_eq r.key key ≡ false) row rows other) (newest_none key rows (All-tail (λ (r : Row). key_eq r.key key ≡ false) row rows other))

behind : {X : Type 0} (R : X → X → Type 0) (x : X) (xs : List X) → AllPairs R (x ∷ xs) → All (R x) xs
behind R x xs pairs = λ k d lt. pairs 0 (suc k) d (omega arith) (omega arith)

others : {X : Type 0} (R : X → X → Type 0) (x : X) (xs : List X) → AllPairs R (x ∷ xs) → AllPairs R xs
others R x xs pairs = λ i j d less within. pairs (suc i) (suc j) d (omega arith) (omega arith)

-- what is first of its key among rows in order
record IsFirst (key : List ℕ) (rows : List Row) (row : Row) : Type 0 where
  there : Contains rows row
  has : key_eq row.key key ≡ true
  passed : All (IsPassed key row) rows

found_first : (key : List ℕ) (rows : List Row) (row : Row) → AreInOrder rows → find (row_has key) rows ≡ Some row → IsFirst key rows row
found_first key [] row order h = absurd cc
found_first key (head ∷ rows) row order h =
    either (key_eq head.key key) refl h (λ g. found_first key rows row (others RowPrecedes head rows order) g)
  where
    either : (b : Bool) → key_eq head.key key ≡ b → cond b (Some head) (find (row_has key) rows) ≡ Some row
        → (find (row_has key) rows ≡ Some row → IsFirst key rows row) → IsFirst key (head ∷ rows) row
    either true e h again =
        let same : head ≡ row = cc in
        subst (IsFirst key (head ∷ rows)) same
        (record {
          there = (0, omega arith, refl);
          has = e;
          passed = All-cons (IsPassed key head) head rows (λ _. inl refl)
              (All-weaker (RowPrecedes head) (IsPassed key head) (λ other before is. inr (newer_in_front key head other e is before)) rows (behind RowPrecedes head rows order));
        })
    either false e h again =
        let rest = again h in
        record {
          there = (suc rest.there.0, omega (arith, rest.there.1), rest.there.2);
          has = rest.has;
          passed = All-cons (IsPassed key row) head rows (λ is. absurd (false≢true (sym e ∙ is))) rest.passed;
        }

found_none : (key : List ℕ) (rows : List Row) → find (row_has key) rows ≡ None → All (λ row. key_eq row.key key ≡ false) rows
found_none key [] h = All-nil (λ (r : Row). key_eq r.key key ≡ false)
found_none key (head ∷ rows) h = either (key_eq head.key key) refl h (λ g. found_none key rows g)
  where
    either : (b : Bool) → key_eq head.key key ≡ b → cond b (Some head) (find (row_has key) rows) ≡ None
        → (find (row_has key) rows ≡ None → All (λ row. key_eq row.key key ≡ false) rows) → All (λ row. key_eq row.key key ≡ false) (head ∷ rows)
    either true e h again = absurd cc
    either false e h again = All-cons (λ (r : Row). key_eq r.key key ≡ false) head rows e (again h)

first_of_key : (key : List ℕ) (rows sorted : List Row) → IsPermutation rows sorted → AreInOrder sorted → (o : Option Row) → find (row_has key) sorted ≡ o → newest key rows ≡ o
first_of_key key rows sorted same order None h =
    newest_none key rows (All-permutation (λ (r : Row). key_eq r.key key ≡ false) sorted rows (IsPermutation-sym rows sorted same) (found_none key sorted h))
first_of_key key rows sorted same order (Some row) h =
    let first = found_first key sorted row order h in
    let back = IsPermutation-sym rows sorted same in
    newest_is key row rows first.has (All-permutation (IsPassed key row) sorted rows back first.passed) (Contains-permutation sorted rows row back first.there)

-- rows in order meet the newest of a key first
pub scan_finds_newest : (key : List ℕ) (rows sorted : List Row) → IsPermutation rows sorted → AreInOrder sorted → newest key rows ≡ find (row_has key) sorted
scan_finds_newest key rows sorted same order = first_of_key key rows sorted same order (find (row_has key) sorted) refl

found_in : (bytes key : List ℕ) (entries : List IndexEntry) → find (row_has key) (rows_in bytes entries) ≡ option_map (row_in bytes) (find (has_key bytes key) entries)
found_in bytes key [] = refl
found_in bytes key (entry ∷ entries) = either (has_key bytes key entry) (found_in bytes key entries)
  where
    either : (b : Bool) → find (row_has key) (rows_in bytes entries) ≡ option_map (row_in bytes) (find (has_key bytes key) entries)
        → cond b (Some (row_in bytes entry)) (find (row_has key) (rows_in bytes entries)) ≡ option_map (row_in bytes) (cond b (Some entry) (find (has_key bytes key) entries))
    either true rest = refl
    either false rest = rest

-- the newest row is that of the first entry of the key
pub newest_in : (bytes key : List ℕ) (index : List IndexEntry) → entries.AreInOrder bytes index
    → newest key (rows_by_arrival bytes index) ≡ option_map (row_in bytes) (find (has_key bytes key) index)
newest_in bytes key index order =
    scan_finds_newest key (rows_by_arrival bytes index) (rows_in bytes index)
    (IsPermutation-sym (rows_in bytes index) (rows_by_arrival bytes index) (by_number-permutes (rows_in bytes index))) (rows_in_order bytes index order)
    ∙ found_in bytes key index

pub found_held : (bytes key : List ℕ) (index : List IndexEntry) (entry : IndexEntry) → AreHeld bytes index → find (has_key bytes key) index ≡ Some entry → IsHeld bytes entry
found_held bytes key [] entry held h = absurd cc
found_held bytes key (head ∷ index) entry held h =
    either (has_key bytes key head) h (λ g. found_held bytes key index entry (All-tail (IsHeld bytes) head index held) g)
  where
    either : (b : Bool) → cond b (Some head) (find (has_key bytes key) index) ≡ Some entry → (find (has_key bytes key) index ≡ Some entry → IsHeld bytes entry) → IsHeld bytes entry
    either true h again = let same : head ≡ entry = cc in subst (IsHeld bytes) same (All-head (IsHeld bytes) head index held)
    either false h again = again h
