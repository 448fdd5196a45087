-- The newest row of a key, beside rows of its key and of others.
use Rattle.std.proofs.Common.{◌≡◌, ℕ, Bool, true, false, List, [], ◌∷◌, ◌++◌, Option, Some, None, refl, ap, sym, ◌∙◌, inl, inr, arith}
use Rattle.std.proofs.lemmas.Bool.{cases_lt}
use Rattle.std.proofs.lemmas.Bool.Decides.{nat_tests}
use Rattle.keel_base.specs.declared.row.Row.{Row}
use Rattle.keel_base.specs.Keys.{key_lt, key_eq}
use Rattle.keel_base.specs.Rows.{newer, newest}
use Rattle.keel_base.proofs.KeyOrder.{lt_differs, eq_same, same_eq}
use Rattle.keel_base.proofs.Newest.{newest_here, newest_behind, newest_of_both, newer_both, newest-append, newest_cons}
use Rattle.keel_merge.specs.Order.{IsBeforeAll}
use Rattle.keel_merge.specs.Placing.{newer_of}

pub newest_none : (key : List ℕ) (rows : List Row) → IsBeforeAll key_lt key rows → newest key rows ≡ None
newest_none key [] all = refl
newest_none key (row ∷ rows) all = newest_behind key row rows (lt_differs key row.key all.0) ∙ newest_none key rows all.1

pub newer_is : (row other : Row) → newer row (Some other) ≡ Some (newer_of row other)
newer_is row other =
    elim (cases_lt row.seq other.seq) [
      | inl lt ↦ grind (arith, nat_tests)
      | inr le ↦ grind (arith, nat_tests)
    ]

-- two rows of one key count as the newer of them

pub newer_of_key : (row other : Row) → row.key ≡ other.key → (newer_of row other).key ≡ row.key
newer_of_key row other same =
    elim (cases_lt row.seq other.seq) [
      | inl lt ↦ grind (arith, nat_tests)
      | inr le ↦ grind (arith, nat_tests)
    ]

two_by_key : (key : List ℕ) (row other : Row) (rows : List Row) (b : Bool) → key_eq row.key key ≡ b → row.key ≡ other.key → newest key (row ∷ other ∷ rows) ≡ newest key (newer_of row other ∷ rows)
two_by_key key row other rows true e same =
    let row_is : row.key ≡ key = eq_same row.key key e in
    let other_is : key_eq other.key key ≡ true = same_eq other.key key (sym same ∙ row_is) in
    let same_key : key_eq (newer_of row other).key key ≡ true = same_eq (newer_of row other).key key (newer_of_key row other same ∙ row_is) in
    newest_here key row (other ∷ rows) e
    ∙ ap (newer row) (newest_here key other rows other_is)
    ∙ newer_both row (Some other) (newest key rows)
    ∙ ap (λ (o : Option Row). newest_of_both o (newest key rows)) (newer_is row other)
    ∙ sym (newest_here key (newer_of row other) rows same_key)
two_by_key key row other rows false e same =
    let other_is : key_eq other.key key ≡ false = ap (λ (k : List ℕ). key_eq k key) (sym same) ∙ e in
    let same_key : key_eq (newer_of row other).key key ≡ false = ap (λ (k : List ℕ). key_eq k key) (newer_of_key row other same) ∙ e in
    newest_behind key row (other ∷ rows) e ∙ newest_behind key other rows other_is ∙ sym (newest_behind key (newer_of row other) rows same_key)

pub newest_two : (key : List ℕ) (row other : Row) (rows : List Row) → row.key ≡ other.key → newest key (row ∷ other ∷ rows) ≡ newest key (newer_of row other ∷ rows)
newest_two key row other rows same = two_by_key key row other rows (key_eq row.key key) refl same

-- a row behind others that have other keys

pub newest_past : (key : List ℕ) (front : List Row) (row : Row) (rows : List Row) → IsBeforeAll key_lt key front → newest key (front ++ row ∷ rows) ≡ newest key (row ∷ (front ++ rows))
newest_past key front row rows all =
    let none : newest key front ≡ None = newest_none key front all in
    let left : newest key (front ++ row ∷ rows) ≡ newest key (row ∷ rows) =
    newest-append key front (row ∷ rows) ∙ ap (λ (o : Option Row). newest_of_both o (newest key (row ∷ rows))) none in
    let right : newest key (front ++ rows) ≡ newest key rows =
    newest-append key front rows ∙ ap (λ (o : Option Row). newest_of_both o (newest key rows)) none in
    left ∙ sym (newest_cons key row (front ++ rows) rows right)
