-- The newest row of a key, in lists that are put together.
use Rattle.std.proofs.Common.{◌≡◌, ℕ, ◌<◌, ◌≤◌, Bool, true, false, List, [], ◌∷◌, ◌++◌, Option, Some, None, refl, ap, sym, ◌∙◌, inl, inr, arith}
use Rattle.std.specs.Bool.{if◌then◌else◌}
use Rattle.std.proofs.lemmas.Bool.{cases_lt}
use Rattle.std.proofs.lemmas.Bool.Decides.{nat_tests}
use Rattle.keel_base.specs.declared.row.Row.{Row}
use Rattle.keel_base.specs.Keys.{key_eq}
use Rattle.keel_base.specs.Rows.{newer, newest}

pub newest_here : (key : List ℕ) (row : Row) (rows : List Row) → key_eq row.key key ≡ true → newest key (row ∷ rows) ≡ newer row (newest key rows)
newest_here key row rows e = ap (λ (b : Bool). if b then newer row (newest key rows) else newest key rows) e

pub newest_behind : (key : List ℕ) (row : Row) (rows : List Row) → key_eq row.key key ≡ false → newest key (row ∷ rows) ≡ newest key rows
newest_behind key row rows e = ap (λ (b : Bool). if b then newer row (newest key rows) else newest key rows) e

pub newer_is_other : (row other : Row) → row.seq < other.seq → newer row (Some other) ≡ Some other
newer_is_other row other lt = grind (arith, nat_tests)

pub newer_is_row : (row other : Row) → other.seq ≤ row.seq → newer row (Some other) ≡ Some row
newer_is_row row other le = grind (arith, nat_tests)

-- the newest of two lists is the newest of their newest
abbrev pub newest_of_both : Option Row → Option Row → Option Row
newest_of_both None found = found
newest_of_both (Some row) found = newer row found

newer_twice : (a b c : Row) → newer a (newer b (Some c)) ≡ newest_of_both (newer a (Some b)) (Some c)
newer_twice a b c =
    elim (cases_lt a.seq b.seq) [
      | inl ab ↦
          let then_b : newest_of_both (newer a (Some b)) (Some c) ≡ newer b (Some c) =
          ap (λ (o : Option Row). newest_of_both o (Some c)) (newer_is_other a b ab) in
          elim (cases_lt b.seq c.seq) [
            | inl bc ↦
                ap (newer a) (newer_is_other b c bc) ∙ newer_is_other a c (omega arith) ∙ sym (then_b ∙ newer_is_other b c bc)
            | inr cb ↦ ap (newer a) (newer_is_row b c cb) ∙ newer_is_other a b ab ∙ sym (then_b ∙ newer_is_row b c cb)
          ]
      | inr ba ↦
          let then_a : newest_of_both (newer a (Some b)) (Some c) ≡ newer a (Some c) =
          ap (λ (o : Option Row). newest_of_both o (Some c)) (newer_is_row a b ba) in
          elim (cases_lt b.seq c.seq) [
            | inl bc ↦ ap (newer a) (newer_is_other b c bc) ∙ sym then_a
            | inr cb ↦
                ap (newer a) (newer_is_row b c cb) ∙ newer_is_row a b ba ∙ sym (then_a ∙ newer_is_row a c (omega arith))
          ]
    ]

newer_once : (a b : Row) → newer a (Some b) ≡ newest_of_both (newer a (Some b)) None
newer_once a b =
    elim (cases_lt a.seq b.seq) [
      | inl lt ↦ newer_is_other a b lt ∙ sym (ap (λ (o : Option Row). newest_of_both o None) (newer_is_other a b lt))
      | inr le ↦ newer_is_row a b le ∙ sym (ap (λ (o : Option Row). newest_of_both o None) (newer_is_row a b le))
    ]

pub newer_both : (row : Row) (first second : Option Row) → newer row (newest_of_both first second) ≡ newest_of_both (newer row first) second
newer_both row None second = refl
newer_both row (Some other) None = newer_once row other
newer_both row (Some other) (Some third) = newer_twice row other third

by_key : (key : List ℕ) (row : Row) (xs ys : List Row) (b : Bool) → key_eq row.key key ≡ b → newest key (xs ++ ys) ≡ newest_of_both (newest key xs) (newest key ys)
    → newest key (row ∷ (xs ++ ys)) ≡ newest_of_both (newest key (row ∷ xs)) (newest key ys)
by_key key row xs ys true e same =
    newest_here key row (xs ++ ys) e ∙ ap (newer row) same ∙ newer_both row (newest key xs) (newest key ys)
    ∙ ap (λ (o : Option Row). newest_of_both o (newest key ys)) (sym (newest_here key row xs e))
by_key key row xs ys false e same =
    newest_behind key row (xs ++ ys) e ∙ same ∙ ap (λ (o : Option Row). newest_of_both o (newest key ys)) (sym (newest_behind key row xs e))

pub newest-append : (key : List ℕ) (xs ys : List Row) → newest key (xs ++ ys) ≡ newest_of_both (newest key xs) (newest key ys)
newest-append key [] ys = refl
newest-append key (row ∷ xs) ys = by_key key row xs ys (key_eq row.key key) refl (newest-append key xs ys)

pub newest_cons : (key : List ℕ) (row : Row) (xs ys : List Row) → newest key xs ≡ newest key ys → newest key (row ∷ xs) ≡ newest key (row ∷ ys)
newest_cons key row xs ys same = ap (λ (o : Option Row). if key_eq row.key key then newer row o else o) same
