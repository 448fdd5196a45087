-- How high a balanced tree is at most: by Fibonacci's numbers.
use Rattle.std.proofs.Common.{◌≡◌, ℕ, zero, suc, ◌+◌, ◌-◌, ◌^◌, ◌<◌, ◌≤◌, ◌∷◌, length, inl, inr, refl, sym, ap, subst, arith}
use Rattle.std.specs.Prelude.{max}
use Rattle.std.proofs.lemmas.Bool.{cases_lt}
use Rattle.std.proofs.lemmas.List.{length-append}
use Rattle.keel_region.specs.Trees.{Tree, Leaf, Fork, walk, height_of, IsBalanced}
use Rattle.keel_region.specs.Turns.{greatest_height}

-- the numbers that begin with these two, each the sum of the two before it
reach : ℕ → ℕ → ℕ → ℕ
reach zero a b = a
reach (suc n) a b = reach n b (a + b)

reach_next : (n a b : ℕ) → reach (suc (suc n)) a b ≡ reach (suc n) a b + reach n a b
unfolding reach
reach_next zero a b = omega arith
reach_next (suc n) a b = reach_next n b (a + b)

-- one more than the entries of the least balanced tree of a height
abbrev least_of : ℕ → ℕ
least_of n = reach n 1 2

least_up : (n : ℕ) → least_of n ≤ least_of (suc n)
unfolding reach
least_up zero = omega arith
least_up (suc n) = omega (arith, reach_next n 1 2)

least_double : (n : ℕ) → least_of (suc n) ≤ least_of n + least_of n
unfolding reach
least_double zero = omega arith
least_double (suc n) = omega (arith, reach_next n 1 2, least_up n)

least_grows : (k n : ℕ) → least_of n ≤ least_of (k + n)
unfolding reach
least_grows zero n =
    let e : 0 + n ≡ n = omega arith in
    omega (arith, ap least_of e)
least_grows (suc k) n =
    let e : suc k + n ≡ suc (k + n) = omega arith in
    subst (λ (m : ℕ). least_of n ≤ least_of m) (sym e) (omega (arith, least_grows k n, least_up (k + n)))

least_size : (h l r : ℕ) → h ≡ suc (max l r) → l ≤ r + 1 → r ≤ l + 1 → least_of h ≤ least_of l + least_of r
least_size h l r size low high =
    elim (cases_lt l r) [
      | inl less ↦
          let e : r ≡ suc l = omega (arith, less, high) in
          let f : h ≡ suc (suc l) = omega (arith, size, less, high) in
          omega (arith, ap least_of e, ap least_of f, reach_next l 1 2)
      | inr le ↦ elim (cases_lt r l) [
        | inl less ↦
            let e : l ≡ suc r = omega (arith, less, low) in
            let f : h ≡ suc (suc r) = omega (arith, size, less, low) in
            omega (arith, ap least_of e, ap least_of f, reach_next r 1 2)
        | inr more ↦
            let e : l ≡ r = omega (arith, le, more) in
            let f : h ≡ suc r = omega (arith, size, le, more) in
            omega (arith, ap least_of e, ap least_of f, least_double r)
      ]
    ]

many : (tree : Tree) → IsBalanced tree → least_of (height_of tree) ≤ suc (length (walk tree))
unfolding reach
many Leaf balanced = omega arith
many (Fork place entry height left right) balanced =
    omega (
      arith,
      least_size height (height_of left) (height_of right) balanced.0 balanced.1.left_low balanced.1.right_low,
      many left balanced.2,
      many right balanced.3,
      length-append (walk left) (entry ∷ walk right),
    )

pub low_tree : (tree : Tree) → IsBalanced tree → length (walk tree) < 2 ^ 57 → height_of tree ≤ greatest_height
unfolding reach
low_tree tree balanced few =
    elim (cases_lt greatest_height (height_of tree)) [
      | inl more ↦
          let least : least_of greatest_height ≡ 135301852344706746049 = refl in
          let k = height_of tree - greatest_height in
          let e : k + greatest_height ≡ height_of tree = omega (arith, more) in
          let grows : least_of greatest_height ≤ least_of (height_of tree) = subst (λ (m : ℕ). least_of greatest_height ≤ least_of m) e (least_grows k greatest_height) in
          absurd (omega (arith, least, grows, many tree balanced, few))
      | inr le ↦ le
    ]
