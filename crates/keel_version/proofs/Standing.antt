-- Entries leave tables in order and apart.
use Rattle.std.proofs.Common.{◌≡◌, ℕ, zero, suc, ◌+◌, ◌^◌, ◌<◌, ◌≤◌, Bool, true, false, cond, ltb, eqb, List, [], ◌∷◌, length, Option, Some, None, Result, Ok, refl, ap, subst, ◌∙◌, arith}
use Rattle.std.specs.Prelude.{not, ◌&&◌, ◌||◌, nat_le, position, count_by, insert, remove}
use Rattle.std.specs.List.{list_any, list_all, AllByRecursion}
use Rattle.std.proofs.lemmas.Bool.{and_parts, and_from, le-leb}
use Rattle.std.proofs.lemmas.Bool.Decides.{nat_tests}
use Rattle.std.proofs.lemmas.List.Sums.{sum_by-cons}
use Rattle.keel_base.specs.Keys.{key_le}
use Rattle.keel_edit.specs.declared.edit.Added.{Added}
use Rattle.keel_edit.specs.declared.edit.Removed.{Removed}
use Rattle.keel_edit.specs.declared.edit.Edit.{Edit}
use Rattle.keel_version.specs.Tables.{is_before, meet, clash, goes_before, are_apart, have_levels, AreLevels}
use Rattle.keel_edit.specs.Spelling.{IsRemoved, IsAdded}
use Rattle.keel_version.specs.Applying.{HasLevels, EditsHaveLevels, is_named, without, take_off, put_on, or_entry, each_fits}

-- ---- the order

before_trans : (a b c : Added) → is_before a b ≡ true → is_before b c ≡ true → is_before a c ≡ true
before_trans a b c h g = grind (arith, nat_tests)

before_apart : (a b : Added) → is_before a b ≡ true → is_before b a ≡ false
before_apart a b h = grind (arith, nat_tests)

before_or : (a b : Added) → eqb a.number b.number ≡ false → is_before b a ≡ false → is_before a b ≡ true
before_or a b h g = grind (arith, nat_tests)

-- ---- standing together

pub or_false : (b c : Bool) → (b || c) ≡ false → (b ≡ false) × (c ≡ false)
or_false true c h = absurd cc
or_false false c h = (refl, h)

and_swap : (b c : Bool) → (b && c) ≡ (c && b)
and_swap true true = refl
and_swap true false = refl
and_swap false true = refl
and_swap false false = refl

number_swap : (m n : ℕ) → eqb m n ≡ eqb n m
number_swap m n = grind (arith, nat_tests)

level_swap : (m n : ℕ) (b : Bool) → (eqb m n && (ltb 0 m && b)) ≡ (eqb n m && (ltb 0 n && b))
level_swap m n b = grind (arith, nat_tests)

pub clash_swap : (a b : Added) → clash a b ≡ clash b a
clash_swap a b =
    rw (number_swap a.number b.number, level_swap a.level b.level (meet a b), and_swap (key_le a.least b.greatest) (key_le b.least a.greatest)) refl

-- ---- all of a list

all_insert : {X : Type 0} (p : X → Bool) (xs : List X) (i : ℕ) (x : X) → p x ≡ true → list_all p xs ≡ true → list_all p (insert xs i x) ≡ true
all_insert p [] zero x here all = and_from (p x) true here refl
all_insert p [] (suc i) x here all = and_from (p x) true here refl
all_insert p (y ∷ ys) zero x here all = and_from (p x) (list_all p (y ∷ ys)) here all
all_insert p (y ∷ ys) (suc i) x here all =
    let parts = and_parts (p y) (list_all p ys) all in
    and_from (p y) (list_all p (insert ys i x)) parts.0 (all_insert p ys i x here parts.1)

all_remove : {X : Type 0} (p : X → Bool) (xs : List X) (i : ℕ) → list_all p xs ≡ true → list_all p (remove xs i) ≡ true
all_remove p [] zero all = refl
all_remove p [] (suc i) all = refl
all_remove p (y ∷ ys) zero all = (and_parts (p y) (list_all p ys) all).1
all_remove p (y ∷ ys) (suc i) all =
    let parts = and_parts (p y) (list_all p ys) all in
    and_from (p y) (list_all p (remove ys i)) parts.0 (all_remove p ys i parts.1)

-- ---- a table that goes

apart_remove : (tables : List Added) (i : ℕ) → are_apart tables ≡ true → are_apart (remove tables i) ≡ true
apart_remove [] zero h = refl
apart_remove [] (suc i) h = refl
apart_remove (t ∷ ts) zero h = (and_parts (list_all (goes_before t) ts) (are_apart ts) h).1
apart_remove (t ∷ ts) (suc i) h =
    let parts = and_parts (list_all (goes_before t) ts) (are_apart ts) h in
    and_from (list_all (goes_before t) (remove ts i)) (are_apart (remove ts i)) (all_remove (goes_before t) ts i parts.0) (apart_remove ts i parts.1)

-- ---- a table that comes

-- how many tables come before one
abbrev pub count_before : Added → List Added → ℕ
count_before a tables = count_by (λ t. is_before t a) tables

pub count_yes : (a t : Added) (ts : List Added) → is_before t a ≡ true → count_before a (t ∷ ts) ≡ suc (count_before a ts)
count_yes a t ts is =
    let whole = sum_by-cons (λ (x : Added). cond (is_before x a) 1 0) t ts in
    let one : ◌≡◌ {A = ℕ} (cond (is_before t a) 1 0) 1 = rw is refl in
    omega (arith, whole, one)

count_no : (a t : Added) (ts : List Added) → is_before t a ≡ false → count_before a (t ∷ ts) ≡ count_before a ts
count_no a t ts is =
    let whole = sum_by-cons (λ (x : Added). cond (is_before x a) 1 0) t ts in
    let none : ◌≡◌ {A = ℕ} (cond (is_before t a) 1 0) 0 = rw is refl in
    omega (arith, whole, none)

goes_from : (a b : Added) → is_before a b ≡ true → clash a b ≡ false → goes_before a b ≡ true
goes_from a b before free = rw (before, free) refl

-- what is behind a table that comes before no other
record IsFirst (a : Added) (ts : List Added) : Type 0 where
  all : list_all (goes_before a) ts ≡ true
  none : count_before a ts ≡ 0

first_of_all : (a t : Added) (ts : List Added) → is_before a t ≡ true → list_all (goes_before t) ts ≡ true → list_any (clash a) ts ≡ false → IsFirst a ts
first_of_all a t [] before all free = record { all = refl; none = refl }
first_of_all a t (u ∷ us) before all free =
    let parts = and_parts (goes_before t u) (list_all (goes_before t) us) all in
    let between = and_parts (is_before t u) (not (clash t u)) parts.0 in
    let apart = or_false (clash a u) (list_any (clash a) us) free in
    let behind : is_before a u ≡ true = before_trans a t u before between.0 in
    let rest = first_of_all a t us before parts.1 apart.1 in
    record {
      all = and_from (goes_before a u) (list_all (goes_before a) us) (goes_from a u behind apart.0) rest.all;
      none = count_no a u us (before_apart a u behind) ∙ rest.none;
    }

free_number : (a t : Added) → clash a t ≡ false → eqb a.number t.number ≡ false
free_number a t free = (or_false (eqb a.number t.number) (eqb a.level t.level && (ltb 0 a.level && meet a t)) free).0

insert_behind : (a t : Added) (ts : List Added) → is_before t a ≡ true → are_apart (t ∷ ts) ≡ true → clash a t ≡ false
    → are_apart (insert ts (count_before a ts) a) ≡ true → are_apart (insert (t ∷ ts) (count_before a (t ∷ ts)) a) ≡ true
insert_behind a t ts before h free rest =
    let parts = and_parts (list_all (goes_before t) ts) (are_apart ts) h in
    let goes = goes_from t a before (clash_swap t a ∙ free) in
    let all = all_insert (goes_before t) ts (count_before a ts) a goes parts.0 in
    rw (count_yes a t ts before) (and_from (list_all (goes_before t) (insert ts (count_before a ts) a)) (are_apart (insert ts (count_before a ts) a)) all rest)

insert_before : (a t : Added) (ts : List Added) → is_before t a ≡ false → are_apart (t ∷ ts) ≡ true → clash a t ≡ false → list_any (clash a) ts ≡ false
    → are_apart (insert (t ∷ ts) (count_before a (t ∷ ts)) a) ≡ true
insert_before a t ts behind h free others =
    let parts = and_parts (list_all (goes_before t) ts) (are_apart ts) h in
    let before : is_before a t ≡ true = before_or a t (free_number a t free) behind in
    let rest = first_of_all a t ts before parts.0 others in
    let none : count_before a (t ∷ ts) ≡ 0 = count_no a t ts behind ∙ rest.none in
    let all : list_all (goes_before a) (t ∷ ts) ≡ true = and_from (goes_before a t) (list_all (goes_before a) ts) (goes_from a t before free) rest.all in
    rw none (and_from (list_all (goes_before a) (t ∷ ts)) (are_apart (t ∷ ts)) all h)

insert_by : (a t : Added) (ts : List Added) (b : Bool) → is_before t a ≡ b → are_apart (t ∷ ts) ≡ true → clash a t ≡ false → list_any (clash a) ts ≡ false
    → are_apart (insert ts (count_before a ts) a) ≡ true → are_apart (insert (t ∷ ts) (count_before a (t ∷ ts)) a) ≡ true
insert_by a t ts true is h free others rest = insert_behind a t ts is h free rest
insert_by a t ts false is h free others rest = insert_before a t ts is h free others

apart_insert : (a : Added) (tables : List Added) → are_apart tables ≡ true → list_any (clash a) tables ≡ false → are_apart (insert tables (count_before a tables) a) ≡ true
apart_insert a [] h free = refl
apart_insert a (t ∷ ts) h free =
    let parts = and_parts (list_all (goes_before t) ts) (are_apart ts) h in
    let apart = or_false (clash a t) (list_any (clash a) ts) free in
    insert_by a t ts (is_before t a) refl h apart.0 apart.1 (apart_insert a ts parts.1 apart.1)

-- ---- entries

-- in order, apart, and on the four levels
pub record Stand (tables : List Added) : Type 0 where
  pub apart : are_apart tables ≡ true
  pub levels : have_levels tables ≡ true

take_off_at : (place : Option ℕ) (tables after : List Added) → without tables place ≡ Some after → Stand tables → Stand after
take_off_at None tables after e h = absurd cc
take_off_at (Some i) tables after e h =
    let same : remove tables i ≡ after = cc in
    subst Stand same (record { apart = apart_remove tables i h.apart; levels = all_remove (λ (t : Added). nat_le t.level 3) tables i h.levels })

pub take_off_keeps : (r : Removed) (tables after : List Added) → r.level ≤ 3 → take_off r tables ≡ Some after → Stand tables → Stand after
take_off_keeps r tables after _ e h = take_off_at (position (is_named r) tables) tables after e h

put_on_if : (b : Bool) (a : Added) (tables after : List Added) → list_any (clash a) tables ≡ b → a.level ≤ 3
    → cond b None (Some (insert tables (count_before a tables) a)) ≡ Some after → Stand tables → Stand after
put_on_if true a tables after is level e h = absurd cc
put_on_if false a tables after is level e h =
    let same : insert tables (count_before a tables) a ≡ after = cc in
    subst Stand same (record {
      apart = apart_insert a tables h.apart is;
      levels = all_insert (λ (t : Added). nat_le t.level 3) tables (count_before a tables) a (le-leb a.level 3 level) h.levels;
    })

pub put_on_keeps : (a : Added) (tables after : List Added) → a.level ≤ 3 → put_on a tables ≡ Some after → Stand tables → Stand after
put_on_keeps a tables after level e h = put_on_if (list_any (clash a) tables) a tables after refl level e h

-- the rest of the entries, where the first one fits
pub rest_of : (found : Option (List Added)) (entry : ℕ) (next : List Added → Result (List Added) ℕ) (after : List Added)
    → or_entry found entry next ≡ Ok after → (between : List Added) × (found ≡ Some between) × (next between ≡ Ok after)
rest_of None entry next after e = absurd cc
rest_of (Some between) entry next after e = (between, refl, e)

-- what each entry keeps all keep
pub each_keeps : {E : Type 0} (P : List Added → Type 0) (change : E → List Added → Option (List Added)) (Fit : E → Type 0)
    → ((e : E) (tables after : List Added) → Fit e → change e tables ≡ Some after → P tables → P after)
    → (entry : ℕ) (es : List E) (tables after : List Added) → AllByRecursion Fit es → each_fits change entry es tables ≡ Ok after → P tables → P after
unfolding each_fits
each_keeps P change Fit keeps entry [] tables after fit e h =
    let same : tables ≡ after = cc in
    subst P same h
each_keeps P change Fit keeps entry (e ∷ es) tables after fit is h =
    let rest = rest_of (change e tables) entry (λ between. each_fits change (entry + 1) es between) after is in
    each_keeps P change Fit keeps (entry + 1) es rest.0 after fit.1 rest.2 (keeps e tables rest.0 fit.0 rest.1 h)

-- ---- an edit

pub stand : (edit : Edit) (tables left after : List Added) → HasLevels edit → AreLevels tables
    → each_fits take_off 0 edit.removed tables ≡ Ok left → each_fits put_on (length edit.removed) edit.added left ≡ Ok after → Stand after
stand edit tables left after levels sound goes comes =
    let before : Stand tables = record { apart = sound.apart; levels = sound.levels } in
    let between = each_keeps Stand take_off (λ (r : Removed). r.level ≤ 3) take_off_keeps 0 edit.removed tables left levels.removed goes before in
    each_keeps Stand put_on (λ (a : Added). a.level ≤ 3) put_on_keeps (length edit.removed) edit.added left after levels.added comes between

-- the same of an edit's lists as the code has them
pub sound : (edit : Edit) (tables left after : List Added) (going : List Removed) (coming : List Added) (first : ℕ) → HasLevels edit → AreLevels tables
    → going ≡ edit.removed → coming ≡ edit.added → first ≡ length going
    → each_fits take_off 0 going tables ≡ Ok left → each_fits put_on first coming left ≡ Ok after → length after < 2 ^ 32 → AreLevels after
sound edit tables left after going coming first levels before goes comes count takes puts few =
    let taken : each_fits take_off 0 edit.removed tables ≡ Ok left = rw (← goes) takes in
    let counted : first ≡ length edit.removed = count ∙ ap length goes in
    let put : each_fits put_on (length edit.removed) edit.added left ≡ Ok after = rw (← counted, ← comes) puts in
    let all = stand edit tables left after levels before taken put in
    record { apart = all.apart; levels = all.levels; few = few }

-- ---- edits that were decoded

each_level : {E : Type 0} (Fit Level : E → Type 0) → ((e : E) → Fit e → Level e) → (es : List E) → AllByRecursion Fit es → AllByRecursion Level es
each_level Fit Level from [] all = tt
each_level Fit Level from (e ∷ es) all = (from e all.0, each_level Fit Level from es all.1)

pub edits_have_levels : EditsHaveLevels
edits_have_levels edit is = record {
  removed = each_level IsRemoved (λ (r : Removed). r.level ≤ 3) (λ r h. h.0) edit.removed is.removed;
  added = each_level IsAdded (λ (a : Added). a.level ≤ 3) (λ a h. h.level) edit.added is.added;
}
