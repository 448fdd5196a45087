-- Lookup finds the row of the greatest number.
use Rattle.std.proofs.Common.{◌≡◌, ℕ, zero, suc, ◌<◌, ◌≤◌, Bool, true, false, cond, ltb, List, [], ◌∷◌, length, get_or, Option, Some, None, refl, sym, ap, subst, ◌∙◌, arith, inl, inr, ◌⊎◌}
use Rattle.std.specs.Prelude.{Contains, MatchOption}
use Rattle.std.proofs.lemmas.Bool.{ltb-true, ltb-false}
use Rattle.std.proofs.lemmas.List.Concat.{flat_map-cons}
use Rattle.std.proofs.lemmas.List.Elements.{Contains-append_cases, Contains-append_left, Contains-append_right}
use Rattle.keel_base.specs.declared.row.Row.{Row}
use Rattle.keel_base.specs.Keys.{key_eq}
use Rattle.keel_base.specs.Rows.{newer, newest}
use Rattle.keel_base.proofs.Newest.{newest-append}
use Rattle.keel_version.specs.Lookup.{joined, IsNewest, HasNone, FindsGreatest, newer_of, LooksInEach, AreDistinct, AnyOrder}

-- ---- elements

pub head_in : {X : Type 0} (x : X) (xs : List X) → Contains (x ∷ xs) x
head_in x xs = (0, omega arith, refl)

pub tail_in : {X : Type 0} (x y : X) (xs : List X) → Contains xs y → Contains (x ∷ xs) y
tail_in x y xs h = (suc h.0, omega (arith, h.1), h.2)

in_cons_at : {X : Type 0} (x y : X) (xs : List X) (k : ℕ) → k < suc (length xs) → get_or (x ∷ xs) k y ≡ y → (x ≡ y) ⊎ Contains xs y
in_cons_at x y xs zero lt e = inl e
in_cons_at x y xs (suc k) lt e = inr (k, omega arith, e)

pub in_cons : {X : Type 0} (x y : X) (xs : List X) → Contains (x ∷ xs) y → (x ≡ y) ⊎ Contains xs y
in_cons x y xs h = in_cons_at x y xs h.0 (omega (arith, h.1)) h.2

pub in_nil : {X : Type 0} (y : X) → Contains [] y → ⊥
in_nil y h = omega (arith, h.1)

-- ---- one more row

differ : (b : Bool) → b ≡ false → b ≡ true → ⊥
differ b is_false is_true = cc

abbrev Finds : List ℕ → List Row → Option Row → Type 0
Finds key rows found = MatchOption found (HasNone key rows) (λ row. IsNewest key rows row)

-- a row of another key changes nothing
skipped : (key : List ℕ) (row : Row) (rows : List Row) (found : Option Row) → key_eq row.key key ≡ false → Finds key rows found → Finds key (row ∷ rows) found
skipped key row rows None other none = λ one h.
    elim (in_cons row one rows h) [
      | inl same ↦ subst (λ (r : Row). key_eq r.key key ≡ false) same other
      | inr later ↦ none one later
    ]
skipped key row rows (Some best) other is = record {
  stands = tail_in row best rows is.stands;
  of_key = is.of_key;
  greatest = λ one h of_key.
      elim (in_cons row one rows h) [
        | inl same ↦ absurd (differ (key_eq one.key key) (subst (λ (r : Row). key_eq r.key key ≡ false) same other) of_key)
        | inr later ↦ is.greatest one later of_key
      ];
}

-- a row that is no older than what is found
taken : (key : List ℕ) (row : Row) (rows : List Row) → key_eq row.key key ≡ true
    → ((other : Row) → Contains rows other → key_eq other.key key ≡ true → other.seq ≤ row.seq) → IsNewest key (row ∷ rows) row
taken key row rows is over = record {
  stands = head_in row rows;
  of_key = is;
  greatest = λ one h of_key.
      elim (in_cons row one rows h) [
        | inl same ↦ subst (λ (r : Row). r.seq ≤ row.seq) same (omega arith)
        | inr later ↦ over one later of_key
      ];
}

-- a row that is older than what is found
passed : (key : List ℕ) (row best : Row) (rows : List Row) → row.seq ≤ best.seq → IsNewest key rows best → IsNewest key (row ∷ rows) best
passed key row best rows older is = record {
  stands = tail_in row best rows is.stands;
  of_key = is.of_key;
  greatest = λ one h of_key.
      elim (in_cons row one rows h) [
        | inl same ↦ subst (λ (r : Row). r.seq ≤ best.seq) same older
        | inr later ↦ is.greatest one later of_key
      ];
}

compared : (key : List ℕ) (row best : Row) (rows : List Row) (b : Bool) → ltb row.seq best.seq ≡ b → key_eq row.key key ≡ true → IsNewest key rows best
    → Finds key (row ∷ rows) (cond b (Some best) (Some row))
compared key row best rows true is of_key h = passed key row best rows (omega (arith, ltb-true row.seq best.seq is)) h
compared key row best rows false is of_key h =
    taken key row rows of_key (λ other in' its. omega (arith, ltb-false row.seq best.seq is, h.greatest other in' its))

counted : (key : List ℕ) (row : Row) (rows : List Row) (found : Option Row) → key_eq row.key key ≡ true → Finds key rows found → Finds key (row ∷ rows) (newer row found)
counted key row rows None of_key none = taken key row rows of_key (λ other in' its. absurd (differ (key_eq other.key key) (none other in') its))
counted key row rows (Some best) of_key h = compared key row best rows (ltb row.seq best.seq) refl of_key h

one_more : (key : List ℕ) (row : Row) (rows : List Row) (found : Option Row) (b : Bool) → key_eq row.key key ≡ b → Finds key rows found
    → Finds key (row ∷ rows) (cond b (newer row found) found)
one_more key row rows found true is h = counted key row rows found is h
one_more key row rows found false is h = skipped key row rows found is h

pub finds_greatest : FindsGreatest
finds_greatest key [] = λ row h. absurd (in_nil row h)
finds_greatest key (row ∷ rows) = one_more key row rows (newest key rows) (key_eq row.key key) refl (finds_greatest key rows)

-- ---- tables one by one

pub looks_in_each : LooksInEach
looks_in_each key [] = refl
looks_in_each key (rows ∷ tables) =
    ap (newest key) (flat_map-cons (λ (r : List Row). r) rows tables)
    ∙ newest-append key rows (joined tables)
    ∙ ap (newer_of (newest key rows)) (looks_in_each key tables)

-- ---- the order of tables

-- a row of all is a row of a table
in_table : (tables : List (List Row)) (row : Row) → Contains (joined tables) row → (rows : List Row) × Contains tables rows × Contains rows row
in_table [] row h = absurd (in_nil row h)
in_table (rows ∷ tables) row h =
    elim (Contains-append_cases rows (joined tables) row (subst (λ (all : List Row). Contains all row) (flat_map-cons (λ (r : List Row). r) rows tables) h)) [
      | inl here ↦ (rows, head_in rows tables, here)
      | inr later ↦
          let found = in_table tables row later in
          (found.0, tail_in rows found.0 tables found.1, found.2)
    ]

from_table : (tables : List (List Row)) (rows : List Row) (row : Row) → Contains tables rows → Contains rows row → Contains (joined tables) row
from_table [] rows row h in' = absurd (in_nil rows h)
from_table (first ∷ tables) rows row h in' =
    subst (λ (all : List Row). Contains all row) (sym (flat_map-cons (λ (r : List Row). r) first tables))
    (elim (in_cons first rows tables h) [
      | inl same ↦ Contains-append_left first (joined tables) row (subst (λ (r : List Row). Contains r row) (sym same) in')
      | inr later ↦ Contains-append_right first (joined tables) row (from_table tables rows row later in')
    ])

moved : (tables others : List (List Row)) → ((rows : List Row) → Contains tables rows → Contains others rows) → (row : Row) → Contains (joined tables) row → Contains (joined others) row
moved tables others to row h =
    let found = in_table tables row h in
    from_table others found.0 row (to found.0 found.1) found.2

same_found : (key : List ℕ) (rows others : List Row) (one other : Option Row) → ((row : Row) → Contains rows row → Contains others row) → ((row : Row) → Contains others row → Contains rows row)
    → AreDistinct key rows → Finds key rows one → Finds key others other → other ≡ one
same_found key rows others None None to from distinct one other = refl
same_found key rows others None (Some b) to from distinct one other = absurd (differ (key_eq b.key key) (one b (from b other.stands)) other.of_key)
same_found key rows others (Some a) None to from distinct one other = absurd (differ (key_eq a.key key) (other a (to a one.stands)) one.of_key)
same_found key rows others (Some a) (Some b) to from distinct one other =
    let below = one.greatest b (from b other.stands) other.of_key in
    let above = other.greatest a (to a one.stands) one.of_key in
    ap (λ (r : Row). Some r) (distinct b a (from b other.stands) one.stands other.of_key one.of_key (omega arith))

pub any_order : AnyOrder
any_order key tables others same distinct =
    same_found key (joined tables) (joined others) (newest key (joined tables)) (newest key (joined others))
    (moved tables others (λ rows. (same rows).0)) (moved others tables (λ rows. (same rows).1))
    distinct (finds_greatest key (joined tables)) (finds_greatest key (joined others))
