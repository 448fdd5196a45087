-- Finding the least first row, list by list.
use Rattle.std.proofs.Common.{◌≡◌, ℕ, zero, suc, ◌+◌, ◌<◌, Bool, true, false, List, [], ◌∷◌, ◌++◌, length, take, get_or, Option, Some, None, Ok, refl, ap, sym, subst, ◌∙◌, arith}
use Rattle.std.specs.Bool.{if◌then◌else◌}
use Rattle.std.proofs.lemmas.List.{length-take-le, take_more, get_or_default}
use Rattle.keel_base.specs.declared.row.Row.{Row}
use Rattle.keel_base.specs.Keys.{key_lt, key_le}
use Rattle.keel_base.proofs.KeyOrder.{lt_then_le, not_lt, lt_is_le}
use Rattle.keel_merge.specs.Feeding.{Waiting, wanting, IsWanting}
use Rattle.keel_merge.specs.Taking.{first_row, seen, lesser, IsReady, IsOver, AreOver, StandsLeast, HaveEnded, AreSeen, Looks}
use Rattle.keel_merge.proofs.Pulling.{no_row}

-- ---- one list more

over_more : (key : List ℕ) (front : List Waiting) (list : Waiting) → AreOver key_le key front → IsOver key_le key (first_row list.rows) list.more → AreOver key_le key (front ++ list ∷ [])
over_more key [] list over more = (more, tt)
over_more key (first ∷ front) list over more = (over.0, over_more key front list over.1 more)

-- the row that was found stays the least
still_least : (front : List Waiting) (list : Waiting) (at : ℕ) (row : Row) → StandsLeast front at row → IsOver key_le row.key (first_row list.rows) list.more
    → StandsLeast (front ++ list ∷ []) at row
still_least [] list at row stands over = absurd stands
still_least (first ∷ front) list zero row stands over = (stands.0, over_more row.key front list stands.1 over)
still_least (first ∷ front) list (suc at) row stands over = (stands.0, still_least front list at row stands.1 over)

-- the new one is less than all before
over_of_le : (key other : List ℕ) (found : Option Row) (more : Bool) → key_lt key other ≡ true → IsOver key_le other found more → IsOver key_lt key found more
over_of_le key other None more lt over = over
over_of_le key other (Some row) more lt over = lt_then_le key other row.key lt over

over_of_lt : (key other : List ℕ) (found : Option Row) (more : Bool) → key_lt key other ≡ true → IsOver key_lt other found more → IsOver key_lt key found more
over_of_lt key other None more lt over = over
over_of_lt key other (Some row) more lt over = lt_then_le key other row.key lt (lt_is_le other row.key over)

all_under : (front : List Waiting) (list : Waiting) (key : List ℕ) (row : Row) → key_lt row.key key ≡ true → AreOver key_le key front → first_row list.rows ≡ Some row
    → StandsLeast (front ++ list ∷ []) (length front) row
all_under [] list key row lt over is = (is, tt)
all_under (first ∷ front) list key row lt over is =
    (over_of_le row.key key (first_row first.rows) first.more lt over.0, all_under front list key row lt over.1 is)

now_least : (front : List Waiting) (list : Waiting) (at : ℕ) (least row : Row) → StandsLeast front at least → key_lt row.key least.key ≡ true → first_row list.rows ≡ Some row
    → StandsLeast (front ++ list ∷ []) (length front) row
now_least [] list at least row stands lt is = absurd stands
now_least (first ∷ front) list zero least row stands lt is =
    (subst (λ (f : Option Row). IsOver key_lt row.key f first.more) (sym stands.0) lt, all_under front list least.key row lt stands.1 is)
now_least (first ∷ front) list (suc at) least row stands lt is =
    (over_of_lt row.key least.key (first_row first.rows) first.more lt stands.0, now_least front list at least row stands.1 lt is)

ended_more : (front : List Waiting) (list : Waiting) → HaveEnded front → first_row list.rows ≡ None → list.more ≡ false → HaveEnded (front ++ list ∷ [])
ended_more [] list ended none more = ((none, more), tt)
ended_more (first ∷ front) list ended none more = (ended.0, ended_more front list ended.1 none more)

only_least : (front : List Waiting) (list : Waiting) (row : Row) → HaveEnded front → first_row list.rows ≡ Some row → StandsLeast (front ++ list ∷ []) (length front) row
only_least [] list row ended is = (is, tt)
only_least (first ∷ front) list row ended is =
    (subst (λ (f : Option Row). IsOver key_lt row.key f first.more) (sym ended.0.0) ended.0.1, only_least front list row ended.1 is)

by_key : (front : List Waiting) (list : Waiting) (row : Row) (found : ℕ × Row) (b : Bool) → key_lt row.key found.1.key ≡ b → first_row list.rows ≡ Some row
    → StandsLeast front found.0 found.1 → AreSeen (front ++ list ∷ []) (if b then Some (length front, row) else Some found)
by_key front list row found true lt is stands = now_least front list found.0 found.1 row stands lt is
by_key front list row found false lt is stands =
    still_least front list found.0 found.1 stands
    (subst (λ (f : Option Row). IsOver key_le found.1.key f list.more) (sym is) (not_lt found.1.key row.key lt))

one_more : (front : List Waiting) (list : Waiting) (first : Option Row) (found : Option (ℕ × Row)) → first_row list.rows ≡ first → IsReady first list.more → AreSeen front found
    → AreSeen (front ++ list ∷ []) (lesser (length front) first found)
one_more front list None None is ready s = ended_more front list s is ready
one_more front list None (Some found) is ready s =
    still_least front list found.0 found.1 s (subst (λ (f : Option Row). IsOver key_le found.1.key f list.more) (sym is) ready)
one_more front list (Some row) None is ready s = only_least front list row s is
one_more front list (Some row) (Some found) is ready s = by_key front list row found (key_lt row.key found.1.key) refl is s

pub seen_more : (lists : List Waiting) (at : ℕ) (list : Waiting) (found after : Option (ℕ × Row)) → at < length lists → list ≡ get_or lists at list
    → AreSeen (take at lists) found → IsReady (first_row list.rows) list.more → after ≡ lesser at (first_row list.rows) found → AreSeen (take (at + 1) lists) after
seen_more lists at list found after within is s ready after_is =
    let all : take (at + 1) lists ≡ take at lists ++ list ∷ [] = take_more lists at list within ∙ ap (λ (w : Waiting). take at lists ++ w ∷ []) (sym is) in
    let count : length (take at lists) ≡ at = length-take-le at lists (omega arith) in
    let seen_is : lesser (length (take at lists)) (first_row list.rows) found ≡ after = ap (λ (k : ℕ). lesser k (first_row list.rows) found) count ∙ sym after_is in
    subst (λ (l : List Waiting). AreSeen l after) (sym all)
    (subst (λ (a : Option (ℕ × Row)). AreSeen (take at lists ++ list ∷ []) a) seen_is (one_more (take at lists) list (first_row list.rows) found refl ready s))

-- ---- a list that has to be refilled

made : List Row → Bool → Waiting
made rows more = record { rows = rows; more = more }

empty : (list : Waiting) → list.rows ≡ [] → list.more ≡ true → list ≡ wanting
unfolding made
empty list none more = ap (λ (r : List Row). made r list.more) none ∙ ap (λ (m : Bool). made [] m) more

pub is_wanting : (lists : List Waiting) (at : ℕ) (list : Waiting) → at < length lists → list ≡ get_or lists at list → first_row list.rows ≡ None → list.more ≡ true → IsWanting lists at
is_wanting lists at list within is none more = record {
  within = within;
  wants = get_or_default lists at wanting list within ∙ sym is ∙ empty list (no_row list.rows none) more;
}

-- ---- the list of the least row

pub stands_within : (lists : List Waiting) (at : ℕ) (row : Row) → StandsLeast lists at row → at < length lists
stands_within [] at row stands = absurd stands
stands_within (list ∷ lists) zero row stands = omega arith
stands_within (list ∷ lists) (suc at) row stands = omega (arith, stands_within lists at row stands.1)

some_row : (rows : List Row) (row : Row) → first_row rows ≡ Some row → 0 < length rows
some_row [] row is = cc
some_row (first ∷ rows) row is = omega arith

pub stands_some : (lists : List Waiting) (at : ℕ) (row : Row) (list : Waiting) → StandsLeast lists at row → list ≡ get_or lists at list → 0 < length list.rows
stands_some [] at row list stands is = absurd stands
stands_some (first ∷ lists) zero row list stands is = some_row list.rows row (ap (λ (w : Waiting). first_row w.rows) is ∙ stands.0)
stands_some (first ∷ lists) (suc at) row list stands is = stands_some lists at row list stands.1 is

pub looked : (lists seen : List Waiting) (found : Option ℕ) (at : ℕ) → Looks seen (Ok found) → seen ≡ lists → found ≡ Some at → (row : Row) × StandsLeast lists at row
looked lists seen found at looks same is =
    let here : Looks lists (Ok found) = subst (λ (l : List Waiting). Looks l (Ok found)) same looks in
    subst (λ (f : Option ℕ). Looks lists (Ok f)) is here
