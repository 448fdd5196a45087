-- New tables of level 0 among those of a version.
use Rattle.std.proofs.Common.{◌≡◌, ℕ, ◌<◌, ◌≤◌, Bool, true, false, cond, eqb, List, [], ◌∷◌, ◌++◌, map, refl, ap, ◌∙◌, arith, append_assoc}
use Rattle.std.specs.Prelude.{◌==◌, not, filter}
use Rattle.std.specs.List.{AllByRecursion, list_all}
use Rattle.std.proofs.lemmas.Bool.{and_from, and_parts, eqb-true}
use Rattle.std.proofs.lemmas.Bool.Decides.{nat_tests}
use Rattle.std.proofs.lemmas.List.{map-append}
use Rattle.keel_directory.specs.TableFiles.{TableFile}
use Rattle.keel_edit.specs.declared.edit.Added.{Added}
use Rattle.keel_machine.specs.States.{entries_in}
use Rattle.keel_draft.specs.Drafts.{with_new}
use Rattle.keel_version.specs.Tables.{are_apart, goes_before}
use Rattle.keel_recovery.proofs.BootSaysRows.{back_of, both, each, front_of}

-- ---- tests of all

pub all_true : {A : Type 0} (p : A → Bool) (xs : List A) → list_all p xs ≡ true → AllByRecursion (λ x. p x ≡ true) xs
all_true p [] h = tt
all_true p (x ∷ xs) h = let parts = and_parts (p x) (list_all p xs) h in (parts.0, all_true p xs parts.1)

pub test_all : {A : Type 0} (p : A → Bool) (xs : List A) → AllByRecursion (λ x. p x ≡ true) xs → list_all p xs ≡ true
test_all p [] h = refl
test_all p (x ∷ xs) h = and_from (p x) (list_all p xs) h.0 (test_all p xs h.1)

-- ---- level 0 and the others

abbrev pub is_low : TableFile → Bool
is_low table = table.entry.level == 0

abbrev pub low : List TableFile → List TableFile
low levels = filter is_low levels

abbrev pub high : List TableFile → List TableFile
high levels = filter (λ table. not (is_low table)) levels

low_by : (b : Bool) (table : TableFile) (levels : List TableFile) → is_low table ≡ b → AllByRecursion (λ (t : TableFile). t.entry.level ≡ 0) (low levels)
    → AllByRecursion (λ (t : TableFile). t.entry.level ≡ 0) (cond b (table ∷ low levels) (low levels))
low_by true table levels e rest = (eqb-true table.entry.level 0 e, rest)
low_by false table levels e rest = rest

pub low_level : (levels : List TableFile) → AllByRecursion (λ (t : TableFile). t.entry.level ≡ 0) (low levels)
low_level [] = tt
low_level (table ∷ levels) = low_by (is_low table) table levels refl (low_level levels)

over_zero : (level : ℕ) → eqb level 0 ≡ false → 1 ≤ level
over_zero level e = grind (arith, nat_tests)

high_by : (b : Bool) (table : TableFile) (levels : List TableFile) → is_low table ≡ b → AllByRecursion (λ (t : TableFile). 1 ≤ t.entry.level) (high levels)
    → AllByRecursion (λ (t : TableFile). 1 ≤ t.entry.level) (cond (not b) (table ∷ high levels) (high levels))
high_by true table levels e rest = rest
high_by false table levels e rest = (over_zero table.entry.level e, rest)

pub high_level : (levels : List TableFile) → AllByRecursion (λ (t : TableFile). 1 ≤ t.entry.level) (high levels)
high_level [] = tt
high_level (table ∷ levels) = high_by (is_low table) table levels refl (high_level levels)

behind_high : (a b : Added) → goes_before a b ≡ true → eqb a.level 0 ≡ false → eqb b.level 0 ≡ false
behind_high a b before e = grind (arith, nat_tests)

record NoneLow (levels : List TableFile) : Type 0 where
  none : low levels ≡ []
  all : high levels ≡ levels

none_low : (table : TableFile) (levels : List TableFile) → is_low table ≡ false → list_all (goes_before table.entry) (entries_in levels) ≡ true → NoneLow levels
none_low table [] e before = record { none = refl; all = refl }
none_low table (next ∷ levels) e before =
    let parts = and_parts (goes_before table.entry next.entry) (list_all (goes_before table.entry) (entries_in levels)) before in
    let rest = none_low table levels e parts.1 in
    let here : is_low next ≡ false = behind_high table.entry next.entry parts.0 e in
    record {
      none = ap (λ (b : Bool). cond b (next ∷ low levels) (low levels)) here ∙ rest.none;
      all = ap (λ (b : Bool). cond (not b) (next ∷ high levels) (high levels)) here ∙ ap (λ (ts : List TableFile). next ∷ ts) rest.all;
    }

by_level : (b : Bool) (table : TableFile) (levels : List TableFile) → is_low table ≡ b → list_all (goes_before table.entry) (entries_in levels) ≡ true → low levels ++ high levels ≡ levels
    → cond b (table ∷ low levels) (low levels) ++ cond (not b) (table ∷ high levels) (high levels) ≡ table ∷ levels
by_level true table levels e before rest = ap (λ (ts : List TableFile). table ∷ ts) rest
by_level false table levels e before rest =
    let no = none_low table levels e before in
    ap (λ (ts : List TableFile). ts ++ table ∷ high levels) no.none ∙ ap (λ (ts : List TableFile). table ∷ ts) no.all

-- tables in order begin with those of level 0
pub parted : (levels : List TableFile) → are_apart (entries_in levels) ≡ true → low levels ++ high levels ≡ levels
parted [] apart = refl
parted (table ∷ levels) apart =
    let parts = and_parts (list_all (goes_before table.entry) (entries_in levels)) (are_apart (entries_in levels)) apart in
    by_level (is_low table) table levels refl parts.0 (parted levels parts.1)

-- ---- the tables of a version

same_filter : (p : Added → Bool) (b : Bool) (table : TableFile) (kept : List TableFile) (others : List Added) → map (λ (t : TableFile). t.entry) kept ≡ others
    → map (λ (t : TableFile). t.entry) (cond b (table ∷ kept) kept) ≡ cond b (table.entry ∷ others) others
same_filter p true table kept others e = ap (λ (ts : List Added). table.entry ∷ ts) e
same_filter p false table kept others e = e

filter_entries : (p : Added → Bool) (levels : List TableFile) → entries_in (filter (λ (t : TableFile). p t.entry) levels) ≡ filter p (entries_in levels)
filter_entries p [] = refl
filter_entries p (table ∷ levels) = same_filter p (p table.entry) table (filter (λ (t : TableFile). p t.entry) levels) (filter p (entries_in levels)) (filter_entries p levels)

entries_joined : (front back : List TableFile) → entries_in (front ++ back) ≡ entries_in front ++ entries_in back
entries_joined front back = map-append (λ (t : TableFile). t.entry) front back

pub entries_three : (front new back : List TableFile) → entries_in (front ++ (new ++ back)) ≡ entries_in front ++ (entries_in new ++ entries_in back)
entries_three front new back = entries_joined front (new ++ back) ∙ ap (λ (ts : List Added). entries_in front ++ ts) (entries_joined new back)

pub new_three : (levels new : List TableFile) → with_new (λ (t : TableFile). t.entry.level) levels new ≡ low levels ++ (new ++ high levels)
new_three levels new = append_assoc (low levels) new (high levels)

pub entries_with_new : (levels new : List TableFile) → entries_in (with_new (λ (t : TableFile). t.entry.level) levels new) ≡ with_new (λ (t : Added). t.level) (entries_in levels) (entries_in new)
entries_with_new levels new =
    entries_joined (low levels ++ new) (high levels)
    ∙ ap (λ (ts : List Added). ts ++ entries_in (high levels)) (entries_joined (low levels) new)
    ∙ ap (λ (ts : List Added). (ts ++ entries_in new) ++ entries_in (high levels)) (filter_entries (λ t. t.level == 0) levels)
    ∙ ap (λ (ts : List Added). (filter (λ (t : Added). t.level == 0) (entries_in levels) ++ entries_in new) ++ ts) (filter_entries (λ t. not (t.level == 0)) levels)

pub apart_joined : (xs ys : List Added) → are_apart xs ≡ true → are_apart ys ≡ true → AllByRecursion (λ a. AllByRecursion (λ b. goes_before a b ≡ true) ys) xs → are_apart (xs ++ ys) ≡ true
apart_joined [] ys h k before = k
apart_joined (x ∷ xs) ys h k before =
    let parts = and_parts (list_all (goes_before x) xs) (are_apart xs) h in
    and_from (list_all (goes_before x) (xs ++ ys)) (are_apart (xs ++ ys))
    (test_all (goes_before x) (xs ++ ys) (both (λ b. goes_before x b ≡ true) xs ys (all_true (goes_before x) xs parts.0) before.0))
    (apart_joined xs ys parts.1 k before.1)

pub record ApartBoth (xs ys : List Added) : Type 0 where
  pub front : are_apart xs ≡ true
  pub back : are_apart ys ≡ true
  pub between : AllByRecursion (λ a. AllByRecursion (λ b. goes_before a b ≡ true) ys) xs

pub apart_parts : (xs ys : List Added) → are_apart (xs ++ ys) ≡ true → ApartBoth xs ys
apart_parts [] ys h = record { front = refl; back = h; between = tt }
apart_parts (x ∷ xs) ys h =
    let parts = and_parts (list_all (goes_before x) (xs ++ ys)) (are_apart (xs ++ ys)) h in
    let rest = apart_parts xs ys parts.1 in
    let all = all_true (goes_before x) (xs ++ ys) parts.0 in
    record {
      front = and_from (list_all (goes_before x) xs) (are_apart xs) (test_all (goes_before x) xs (front_of (λ b. goes_before x b ≡ true) xs ys all)) rest.front;
      back = rest.back;
      between = (back_of (λ b. goes_before x b ≡ true) xs ys all, rest.between);
    }

-- ---- new tables between them

pub new_behind : (a b : Added) → a.level ≡ 0 → b.level ≡ 0 → a.number < b.number → goes_before a b ≡ true
new_behind a b here there less = grind (arith, nat_tests)

pub new_before : (a b : Added) → a.level ≡ 0 → 1 ≤ b.level → b.number < a.number → goes_before a b ≡ true
new_before a b here there less = grind (arith, nat_tests)

-- a new table is on level 0, and has a number over these
abbrev pub IsNewOver : Added → Added → Type 0
IsNewOver old new = (new.level ≡ 0) × (old.number < new.number)

pub between_apart : (front new back : List Added) → are_apart (front ++ back) ≡ true → are_apart new ≡ true
    → AllByRecursion (λ a. a.level ≡ 0) front → AllByRecursion (λ a. 1 ≤ a.level) back → AllByRecursion (λ old. AllByRecursion (IsNewOver old) new) (front ++ back)
    → are_apart (front ++ (new ++ back)) ≡ true
between_apart front new back apart rise low_all high_all over =
    let parts = apart_parts front back apart in
    let over_front = front_of (λ old. AllByRecursion (IsNewOver old) new) front back over in
    let over_back = back_of (λ old. AllByRecursion (IsNewOver old) new) front back over in
    apart_joined front (new ++ back) parts.front (apart_joined new back rise parts.back (swapped new back high_all over_back)) (fronts front low_all over_front parts.between)
  where
    fronts : (ts : List Added) → AllByRecursion (λ a. a.level ≡ 0) ts → AllByRecursion (λ old. AllByRecursion (IsNewOver old) new) ts → AllByRecursion (λ a. AllByRecursion (λ b. goes_before a b ≡ true) back) ts
        → AllByRecursion (λ a. AllByRecursion (λ b. goes_before a b ≡ true) (new ++ back)) ts
    fronts [] l o b = tt
    fronts (t ∷ ts) l o b =
        (both (λ u. goes_before t u ≡ true) new back (each (IsNewOver t) (λ u. goes_before t u ≡ true) new (λ u is. new_behind t u l.0 is.0 is.1) o.0) b.0, fronts ts l.1 o.1 b.1)

    one_new : (u : Added) (old : List Added) (some : List Added) → AllByRecursion (λ a. 1 ≤ a.level) old → AllByRecursion (λ a. IsNewOver a u) old → AllByRecursion (λ b. goes_before u b ≡ true) old
    one_new u [] some h o = tt
    one_new u (t ∷ old) some h o = (new_before u t o.0.0 h.0 o.0.1, one_new u old some h.1 o.1)

    heads : (u : Added) (us old : List Added) → AllByRecursion (λ a. AllByRecursion (IsNewOver a) (u ∷ us)) old → AllByRecursion (λ a. IsNewOver a u) old
    heads u us old o = each (λ a. AllByRecursion (IsNewOver a) (u ∷ us)) (λ a. IsNewOver a u) old (λ a h. h.0) o

    tails : (u : Added) (us old : List Added) → AllByRecursion (λ a. AllByRecursion (IsNewOver a) (u ∷ us)) old → AllByRecursion (λ a. AllByRecursion (IsNewOver a) us) old
    tails u us old o = each (λ a. AllByRecursion (IsNewOver a) (u ∷ us)) (λ a. AllByRecursion (IsNewOver a) us) old (λ a h. h.1) o

    swapped : (us old : List Added) → AllByRecursion (λ a. 1 ≤ a.level) old → AllByRecursion (λ a. AllByRecursion (IsNewOver a) us) old → AllByRecursion (λ a. AllByRecursion (λ b. goes_before a b ≡ true) old) us
    swapped [] old h o = tt
    swapped (u ∷ us) old h o = (one_new u old [] h (heads u us old o), swapped us old h (tails u us old o))
