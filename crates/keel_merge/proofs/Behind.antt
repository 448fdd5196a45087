-- Rows that stand behind a key.
use Rattle.std.proofs.Common.{◌≡◌, ℕ, Bool, true, List, [], ◌∷◌, ◌++◌}
use Rattle.keel_base.specs.declared.row.Row.{Row}
use Rattle.keel_base.specs.Keys.{key_lt, key_le}
use Rattle.keel_base.proofs.KeyOrder.{lt_then_lt, lt_then_le, le_then_le, lt_is_le}
use Rattle.keel_merge.specs.Order.{IsBeforeAll}

pub before-append : (before : List ℕ → List ℕ → Bool) (key : List ℕ) (xs ys : List Row) → IsBeforeAll before key xs → IsBeforeAll before key ys → IsBeforeAll before key (xs ++ ys)
before-append before key [] ys first second = second
before-append before key (x ∷ xs) ys first second = (first.0, before-append before key xs ys first.1 second)

pub before_end : (before : List ℕ → List ℕ → Bool) (key : List ℕ) (xs ys : List Row) → IsBeforeAll before key (xs ++ ys) → IsBeforeAll before key ys
before_end before key [] ys all = all
before_end before key (x ∷ xs) ys all = before_end before key xs ys all.1

pub lt_before_all : (key other : List ℕ) (rows : List Row) → key_lt key other ≡ true → IsBeforeAll key_le other rows → IsBeforeAll key_lt key rows
lt_before_all key other [] lt all = tt
lt_before_all key other (row ∷ rows) lt all = (lt_then_le key other row.key lt all.0, lt_before_all key other rows lt all.1)

pub lt_lt_all : (key other : List ℕ) (rows : List Row) → key_lt key other ≡ true → IsBeforeAll key_lt other rows → IsBeforeAll key_lt key rows
lt_lt_all key other [] lt all = tt
lt_lt_all key other (row ∷ rows) lt all = (lt_then_lt key other row.key lt all.0, lt_lt_all key other rows lt all.1)

pub lt_all_le : (key : List ℕ) (rows : List Row) → IsBeforeAll key_lt key rows → IsBeforeAll key_le key rows
lt_all_le key [] all = tt
lt_all_le key (row ∷ rows) all = (lt_is_le key row.key all.0, lt_all_le key rows all.1)

pub le_before_all : (key other : List ℕ) (rows : List Row) → key_le key other ≡ true → IsBeforeAll key_le other rows → IsBeforeAll key_le key rows
le_before_all key other [] le all = tt
le_before_all key other (row ∷ rows) le all = (le_then_le key other row.key le all.0, le_before_all key other rows le all.1)
