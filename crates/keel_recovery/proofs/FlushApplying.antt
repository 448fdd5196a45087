-- An edit that brings one table of level 0, applied to a version.
use Rattle.std.proofs.Common.{◌≡◌, ℕ, suc, ◌≤◌, Bool, true, false, cond, List, [], ◌∷◌, ◌++◌, length, Some, Result, Ok, Err, refl, ap, ◌∙◌, arith}
use Rattle.std.specs.Prelude.{not, ◌||◌, insert}
use Rattle.std.specs.List.{AllByRecursion, list_all, list_any}
use Rattle.std.proofs.lemmas.Bool.{and_from, and_parts, le-leb}
use Rattle.std.proofs.lemmas.Bool.Decides.{nat_tests}
use Rattle.std.proofs.lemmas.List.Sums.{sum_by-cons}
use Rattle.keel_edit.specs.declared.edit.Added.{Added}
use Rattle.keel_edit.specs.declared.edit.Edit.{Edit}
use Rattle.keel_version.specs.Applying.{applied, each_fits, no_less, put_on}
use Rattle.keel_version.specs.Tables.{Contents, are_apart, clash, goes_before, is_before}
use Rattle.keel_version.proofs.Standing.{clash_swap, count_before, count_yes}
use Rattle.keel_recovery.specs.Roots.{then_behind, version_behind}
use Rattle.keel_recovery.proofs.BootSaysLevels.{all_true, apart_parts}
use Rattle.keel_recovery.proofs.BootSaysRows.{each}

-- ---- one table more

not_true : (b : Bool) → not b ≡ true → b ≡ false
not_true true h = absurd cc
not_true false h = refl

either : (b c : Bool) → b ≡ false → c ≡ false → (b || c) ≡ false
either b c h g = rw (h, g) refl

not_behind : (a t : Added) → goes_before a t ≡ true → is_before t a ≡ false
not_behind a t h = grind (arith, nat_tests)

-- tables that go before it, and tables behind it
abbrev AreBefore : Added → List Added → Type 0
AreBefore a ts = AllByRecursion (λ t. goes_before t a ≡ true) ts

abbrev AreBehind : Added → List Added → Type 0
AreBehind a ts = AllByRecursion (λ t. goes_before a t ≡ true) ts

free_behind : (a : Added) (back : List Added) → AreBehind a back → list_any (clash a) back ≡ false
free_behind a [] behind = refl
free_behind a (t ∷ back) behind =
    let parts = and_parts (is_before a t) (not (clash a t)) behind.0 in
    either (clash a t) (list_any (clash a) back) (not_true (clash a t) parts.1) (free_behind a back behind.1)

free_all : (a : Added) (front back : List Added) → AreBefore a front → AreBehind a back → list_any (clash a) (front ++ back) ≡ false
free_all a [] back before behind = free_behind a back behind
free_all a (t ∷ front) back before behind =
    let parts = and_parts (is_before t a) (not (clash t a)) before.0 in
    either (clash a t) (list_any (clash a) (front ++ back)) (clash_swap a t ∙ not_true (clash t a) parts.1) (free_all a front back before.1 behind)

count_no : (a t : Added) (ts : List Added) → is_before t a ≡ false → count_before a (t ∷ ts) ≡ count_before a ts
count_no a t ts is =
    let whole = sum_by-cons (λ (x : Added). cond (is_before x a) 1 0) t ts in
    let none : ◌≡◌ {A = ℕ} (cond (is_before t a) 1 0) 0 = rw is refl in
    omega (arith, whole, none)

count_behind : (a : Added) (back : List Added) → AreBehind a back → count_before a back ≡ 0
count_behind a [] behind = refl
count_behind a (t ∷ back) behind = count_no a t back (not_behind a t behind.0) ∙ count_behind a back behind.1

count_all : (a : Added) (front back : List Added) → AreBefore a front → AreBehind a back → count_before a (front ++ back) ≡ length front
count_all a [] back before behind = count_behind a back behind
count_all a (t ∷ front) back before behind =
    let parts = and_parts (is_before t a) (not (clash t a)) before.0 in
    count_yes a t (front ++ back) parts.0 ∙ ap suc (count_all a front back before.1 behind)

insert_between : (a : Added) (front back : List Added) → insert (front ++ back) (length front) a ≡ front ++ a ∷ back
insert_between a [] back = refl
insert_between a (t ∷ front) back = ap (λ (ts : List Added). t ∷ ts) (insert_between a front back)

-- a table that can stand between others is put there
pub put_between : (a : Added) (front back : List Added) → are_apart (front ++ a ∷ back) ≡ true → put_on a (front ++ back) ≡ Some (front ++ a ∷ back)
put_between a front back apart =
    let parts = apart_parts front (a ∷ back) apart in
    let before : AreBefore a front = each (λ t. AllByRecursion (λ b. goes_before t b ≡ true) (a ∷ back)) (λ t. goes_before t a ≡ true) front (λ t h. h.0) parts.between in
    let behind : AreBehind a back = all_true (goes_before a) back (and_parts (list_all (goes_before a) back) (are_apart back) parts.back).0 in
    rw (free_all a front back before behind, count_all a front back before behind, insert_between a front back) refl

-- ---- the edit

abbrev pub one_table : ℕ → ℕ → ℕ → Added → Edit
one_table min_log next_file last_seq a = record { min_log = min_log; next_file = next_file; last_seq = last_seq; removed = []; added = a ∷ [] }

pub applied_one : (min_log next_file last_seq : ℕ) (a : Added) (v : Contents) (after : List Added) → put_on a v.tables ≡ Some after → v.min_log ≤ min_log → v.next_file ≤ next_file → v.last_seq ≤ last_seq
    → applied (one_table min_log next_file last_seq a) v ≡ Ok (record { tables = after; min_log = min_log; next_file = next_file; last_seq = last_seq })
unfolding each_fits
applied_one min_log next_file last_seq a v after put logs files seqs =
    let numbers : no_less (one_table min_log next_file last_seq a) v ≡ true =
    and_from _ _ (le-leb v.min_log min_log logs) (and_from _ _ (le-leb v.next_file next_file files) (le-leb v.last_seq last_seq seqs)) in
    rw (put, numbers) refl

-- an edit behind others
pub version_more : (before middle : Contents) (edits : List Edit) (edit : Edit) → version_behind before edits ≡ Some middle → version_behind before (edits ++ edit ∷ []) ≡ version_behind middle (edit ∷ [])
version_more before middle [] edit is = let same : before ≡ middle = cc in ap (λ (v : Contents). version_behind v (edit ∷ [])) same
version_more before middle (first ∷ edits) edit is = by (applied first before) is (λ next. version_more next middle edits edit)
  where
    by : (next : Result Contents ℕ) → then_behind next (λ after. version_behind after edits) ≡ Some middle
        → ((after : Contents) → version_behind after edits ≡ Some middle → version_behind after (edits ++ edit ∷ []) ≡ version_behind middle (edit ∷ []))
        → then_behind next (λ after. version_behind after (edits ++ edit ∷ [])) ≡ version_behind middle (edit ∷ [])
    by (Ok after) is more = more after is
    by (Err entry) is more = absurd cc
