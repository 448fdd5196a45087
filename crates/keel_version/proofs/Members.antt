-- Which tables an edit leaves.
use Rattle.std.proofs.Common.{◌≡◌, ℕ, suc, ◌+◌, ◌<◌, ◌≤◌, Bool, true, false, cond, ltb, eqb, List, [], ◌∷◌, ◌++◌, length, get_or, take, drop, Option, Some, None, Result, Ok, Err, refl, sym, ap, subst, ◌∙◌, append_assoc, arith, inl, inr, ◌⊎◌, drop-cons}
use Rattle.std.specs.Prelude.{not, ◌||◌, nat_lt, Contains, position, insert, remove, filter}
use Rattle.std.specs.List.{list_any, list_all, AllByRecursion}
use Rattle.std.proofs.lemmas.Bool.{and_parts, and_from, le-leb}
use Rattle.std.proofs.lemmas.Bool.Decides.{nat_tests}
use Rattle.std.proofs.lemmas.List.{take-append-drop, append-nil}
use Rattle.std.proofs.lemmas.List.Elements.{Contains-append_cases, Contains-append_left, Contains-append_right}
use Rattle.std.proofs.lemmas.List.Quantifiers.{position-Some}
use Rattle.keel_edit.specs.declared.edit.Added.{Added}
use Rattle.keel_edit.specs.declared.edit.Removed.{Removed}
use Rattle.keel_edit.specs.declared.edit.Edit.{Edit}
use Rattle.keel_version.specs.Tables.{Contents, nothing, is_before, clash, goes_before, are_apart}
use Rattle.keel_version.specs.Applying.{is_named, without, take_off, put_on, each_fits, then_added, no_less, renumbered}
use Rattle.keel_version.specs.Behind.{AppliedLeaves, WholeEdit, FirstIsLeast}
use Rattle.keel_version.proofs.Newest.{head_in, tail_in, in_cons, in_nil}
use Rattle.keel_version.proofs.Standing.{or_false, clash_swap, count_before, count_yes, Stand, take_off_keeps, rest_of}

-- ---- elements

all_of : {X : Type 0} (p : X → Bool) (xs : List X) (x : X) → list_all p xs ≡ true → Contains xs x → p x ≡ true
all_of p [] x all h = absurd (in_nil x h)
all_of p (y ∷ ys) x all h =
    let parts = and_parts (p y) (list_all p ys) all in
    elim (in_cons y x ys h) [
      | inl same ↦ subst (λ z. p z ≡ true) same parts.0
      | inr later ↦ all_of p ys x parts.1 later
    ]

-- the elements before a place, the one there, and those behind
split_at : {X : Type 0} (xs : List X) (i : ℕ) (d : X) → i < length xs → xs ≡ take i xs ++ (get_or xs i d ∷ drop (suc i) xs)
split_at xs i d lt = sym (take-append-drop i xs) ∙ ap (λ ys. take i xs ++ ys) (drop-cons xs i d lt)

in_between : {X : Type 0} (front : List X) (x y : X) (back : List X) → Contains (front ++ x ∷ back) y → (x ≡ y) ⊎ Contains (front ++ back) y
in_between front x y back h =
    elim (Contains-append_cases front (x ∷ back) y h) [
      | inl before ↦ inr (Contains-append_left front back y before)
      | inr from ↦ elim (in_cons x y back from) [
        | inl same ↦ inl same
        | inr behind ↦ inr (Contains-append_right front back y behind)
      ]
    ]

in_more : {X : Type 0} (front : List X) (x y : X) (back : List X) → Contains (front ++ back) y → Contains (front ++ x ∷ back) y
in_more front x y back h =
    elim (Contains-append_cases front back y h) [
      | inl before ↦ Contains-append_left front (x ∷ back) y before
      | inr behind ↦ Contains-append_right front (x ∷ back) y (tail_in x y back behind)
    ]

in_middle : {X : Type 0} (front : List X) (x : X) (back : List X) → Contains (front ++ x ∷ back) x
in_middle front x back = Contains-append_right front (x ∷ back) x (head_in x back)

-- ---- a table that goes

or_from : (b c : Bool) → b ≡ false → c ≡ false → (b || c) ≡ false
or_from b c h g = rw (h, g) refl

goes_other : (a b : Added) → goes_before a b ≡ true → eqb a.number b.number ≡ false
goes_other a b h = grind (arith, nat_tests)

-- tables before and behind one in a list that is apart have other numbers
apart_front : (front : List Added) (table : Added) (back : List Added) → are_apart (front ++ table ∷ back) ≡ true
    → (other : Added) → Contains front other → goes_before other table ≡ true
apart_front [] table back h other in' = absurd (in_nil other in')
apart_front (t ∷ ts) table back h other in' =
    let parts = and_parts (list_all (goes_before t) (ts ++ table ∷ back)) (are_apart (ts ++ table ∷ back)) h in
    elim (in_cons t other ts in') [
      | inl same ↦ subst (λ (u : Added). goes_before u table ≡ true) same (all_of (goes_before t) (ts ++ table ∷ back) table parts.0 (in_middle ts table back))
      | inr later ↦ apart_front ts table back parts.1 other later
    ]

apart_back : (front : List Added) (table : Added) (back : List Added) → are_apart (front ++ table ∷ back) ≡ true
    → (other : Added) → Contains back other → goes_before table other ≡ true
apart_back [] table back h other in' =
    all_of (goes_before table) back other (and_parts (list_all (goes_before table) back) (are_apart back) h).0 in'
apart_back (t ∷ ts) table back h other in' =
    apart_back ts table back (and_parts (list_all (goes_before t) (ts ++ table ∷ back)) (are_apart (ts ++ table ∷ back)) h).1 other in'

-- the name of a table isn't that of one with another number
named_one : (r : Removed) (a b : Added) (named : Bool) → is_named r b ≡ named → is_named r a ≡ true → eqb a.number b.number ≡ false → named ≡ false
named_one r a b false is h other = refl
named_one r a b true is h other = absurd (grind (arith, nat_tests))

other_swap : (a b : Added) → eqb a.number b.number ≡ false → eqb b.number a.number ≡ false
other_swap a b h = grind (arith, nat_tests)

unnamed_in : (r : Removed) (front : List Added) (table : Added) (back : List Added) → are_apart (front ++ table ∷ back) ≡ true → is_named r table ≡ true
    → (other : Added) → Contains (front ++ back) other → is_named r other ≡ false
unnamed_in r front table back h named other in' =
    elim (Contains-append_cases front back other in') [
      | inl before ↦
          named_one r table other (is_named r other) refl named (other_swap other table (goes_other other table (apart_front front table back h other before)))
      | inr behind ↦
          named_one r table other (is_named r other) refl named (goes_other table other (apart_back front table back h other behind))
    ]

-- what one table that goes leaves
record Left (r : Removed) (before after : List Added) : Type 0 where
  stays : (table : Added) → Contains before table → is_named r table ≡ false → Contains after table
  stood : (table : Added) → Contains after table → Contains before table
  unnamed : (table : Added) → Contains after table → is_named r table ≡ false

differ : (b : Bool) → b ≡ false → b ≡ true → ⊥
differ b is_false is_true = cc

left_split : (r : Removed) (front : List Added) (table : Added) (back : List Added) → are_apart (front ++ table ∷ back) ≡ true → is_named r table ≡ true
    → Left r (front ++ table ∷ back) (front ++ back)
left_split r front table back h named = record {
  stays = λ other in' its.
      elim (in_between front table other back in') [
        | inl same ↦ absurd (differ (is_named r other) its (subst (λ (u : Added). is_named r u ≡ true) same named))
        | inr there ↦ there
      ];
  stood = λ other in'. in_more front table other back in';
  unnamed = unnamed_in r front table back h named;
}

left_at : (r : Removed) (tables : List Added) (i : ℕ) (d : Added) → are_apart tables ≡ true → i < length tables → is_named r (get_or tables i d) ≡ true → Left r tables (remove tables i)
left_at r tables i d h lt named =
    let split = split_at tables i d lt in
    let apart : are_apart (take i tables ++ (get_or tables i d ∷ drop (suc i) tables)) ≡ true = subst (λ (ts : List Added). are_apart ts ≡ true) split h in
    subst (λ (ts : List Added). Left r ts (remove tables i)) (sym split) (left_split r (take i tables) (get_or tables i d) (drop (suc i) tables) apart named)

left_by : (r : Removed) (tables after : List Added) (place : Option ℕ) → position (is_named r) tables ≡ place → are_apart tables ≡ true → without tables place ≡ Some after → Left r tables after
left_by r tables after None is h e = absurd cc
left_by r tables after (Some i) is h e =
    let d : Added = record { level = 0; number = 0; size = 0; rows = 0; first = 0; last = 0; least = []; greatest = [] } in
    let found = position-Some (is_named r) tables i d is in
    let same : remove tables i ≡ after = cc in
    subst (λ (ts : List Added). Left r tables ts) same (left_at r tables i d h found.0 found.1)

left_of : (r : Removed) (tables after : List Added) → are_apart tables ≡ true → take_off r tables ≡ Some after → Left r tables after
left_of r tables after h e = left_by r tables after (position (is_named r) tables) refl h e

-- what all that go leave
record LeftByAll (rs : List Removed) (before after : List Added) : Type 0 where
  stays : (table : Added) → Contains before table → list_any (λ r. is_named r table) rs ≡ false → Contains after table
  stood : (table : Added) → Contains after table → Contains before table
  unnamed : (table : Added) → Contains after table → list_any (λ r. is_named r table) rs ≡ false
  stand : Stand after

left_by_all : (entry : ℕ) (rs : List Removed) (before after : List Added) → AllByRecursion (λ (r : Removed). r.level ≤ 3) rs → Stand before → each_fits take_off entry rs before ≡ Ok after → LeftByAll rs before after
unfolding each_fits
left_by_all entry [] before after levels h e =
    let same : before ≡ after = cc in
    record {
      stays = λ table in' _. subst (λ (ts : List Added). Contains ts table) same in';
      stood = λ table in'. subst (λ (ts : List Added). Contains ts table) (sym same) in';
      unnamed = λ table in'. refl;
      stand = subst Stand same h;
    }
left_by_all entry (r ∷ rs) before after levels h e =
    let rest = rest_of (take_off r before) entry (λ between. each_fits take_off (entry + 1) rs between) after e in
    let one = left_of r before rest.0 h.apart rest.1 in
    let all = left_by_all (entry + 1) rs rest.0 after levels.1 (take_off_keeps r before rest.0 levels.0 rest.1 h) rest.2 in
    record {
      stays = λ table in' its.
          let parts = or_false (is_named r table) (list_any (λ (s : Removed). is_named s table) rs) its in
          all.stays table (one.stays table in' parts.0) parts.1;
      stood = λ table in'. one.stood table (all.stood table in');
      unnamed = λ table in'. or_from (is_named r table) (list_any (λ (s : Removed). is_named s table) rs) (one.unnamed table (all.stood table in')) (all.unnamed table in');
      stand = all.stand;
    }

-- ---- a table that comes

in_inserted : (tables : List Added) (i : ℕ) (table other : Added) → Contains (insert tables i table) other → (table ≡ other) ⊎ Contains tables other
in_inserted tables i table other h =
    elim (in_between (take i tables) table other (drop i tables) h) [
      | inl same ↦ inl same
      | inr there ↦ inr (subst (λ (ts : List Added). Contains ts other) (take-append-drop i tables) there)
    ]

inserted_in : (tables : List Added) (i : ℕ) (table other : Added) → Contains tables other → Contains (insert tables i table) other
inserted_in tables i table other h =
    in_more (take i tables) table other (drop i tables) (subst (λ (ts : List Added). Contains ts other) (sym (take-append-drop i tables)) h)

-- what one more table makes
record Joined (table : Added) (before after : List Added) : Type 0 where
  comes : Contains after table
  stays : (other : Added) → Contains before other → Contains after other
  only : (other : Added) → Contains after other → (table ≡ other) ⊎ Contains before other

joined_if : (b : Bool) (table : Added) (before after : List Added) → cond b None (Some (insert before (count_before table before) table)) ≡ Some after → Joined table before after
joined_if true table before after e = absurd cc
joined_if false table before after e =
    let place = count_before table before in
    let same : insert before place table ≡ after = cc in
    subst (Joined table before) same (record {
      comes = in_middle (take place before) table (drop place before);
      stays = λ other h. inserted_in before place table other h;
      only = λ other h. in_inserted before place table other h;
    })

joined_of : (table : Added) (before after : List Added) → put_on table before ≡ Some after → Joined table before after
joined_of table before after e = joined_if (list_any (clash table) before) table before after e

-- what all that come make
record JoinedByAll (more before after : List Added) : Type 0 where
  comes : (table : Added) → Contains more table → Contains after table
  stays : (table : Added) → Contains before table → Contains after table
  only : (table : Added) → Contains after table → Contains more table ⊎ Contains before table

joined_by_all : (entry : ℕ) (more before after : List Added) → each_fits put_on entry more before ≡ Ok after → JoinedByAll more before after
unfolding each_fits
joined_by_all entry [] before after e =
    let same : before ≡ after = cc in
    record {
      comes = λ table h. absurd (in_nil table h);
      stays = λ table h. subst (λ (ts : List Added). Contains ts table) same h;
      only = λ table h. inr (subst (λ (ts : List Added). Contains ts table) (sym same) h);
    }
joined_by_all entry (a ∷ more) before after e =
    let rest = rest_of (put_on a before) entry (λ between. each_fits put_on (entry + 1) more between) after e in
    let one = joined_of a before rest.0 rest.1 in
    let all = joined_by_all (entry + 1) more rest.0 after rest.2 in
    record {
      comes = λ table h.
          elim (in_cons a table more h) [
            | inl same ↦ all.stays table (subst (λ (u : Added). Contains rest.0 u) same one.comes)
            | inr later ↦ all.comes table later
          ];
      stays = λ table h. all.stays table (one.stays table h);
      only = λ table h.
          elim (all.only table h) [
            | inl later ↦ inl (tail_in a table more later)
            | inr there ↦ elim (one.only table there) [
              | inl same ↦ inl (subst (λ (u : Added). Contains (a ∷ more) u) same (head_in a more))
              | inr stood ↦ inr stood
            ]
          ];
    }

-- ---- an edit

-- the two halves of an edit that was applied
record Halves (edit : Edit) (before after : List Added) : Type 0 where
  left : List Added
  goes : each_fits take_off 0 edit.removed before ≡ Ok left
  comes : each_fits put_on (length edit.removed) edit.added left ≡ Ok after

numbered_if : (b : Bool) (found after : Contents) (entry : ℕ) → cond b (Ok found) (Err entry) ≡ Ok after → found.tables ≡ after.tables
numbered_if true found after entry e =
    let same : found ≡ after = cc in
    ap (λ (v : Contents). v.tables) same
numbered_if false found after entry e = absurd cc

numbered : (edit : Edit) (v after : Contents) (tables : List Added) → renumbered edit v (Ok tables) ≡ Ok after → tables ≡ after.tables
numbered edit v after tables e =
    numbered_if (no_less edit v) (record { tables = tables; min_log = edit.min_log; next_file = edit.next_file; last_seq = edit.last_seq }) after
    (length edit.removed + length edit.added) e

halves_second : (edit : Edit) (v after : Contents) (left : List Added) (second : Result (List Added) ℕ) → each_fits take_off 0 edit.removed v.tables ≡ Ok left
    → each_fits put_on (length edit.removed) edit.added left ≡ second → renumbered edit v second ≡ Ok after → Halves edit v.tables after.tables
halves_second edit v after left (Err entry) goes comes e = absurd cc
halves_second edit v after left (Ok tables) goes comes e = record {
  left = left;
  goes = goes;
  comes = comes ∙ ap (λ (ts : List Added). Ok ts) (numbered edit v after tables e);
}

halves_first : (edit : Edit) (v after : Contents) (first : Result (List Added) ℕ) → each_fits take_off 0 edit.removed v.tables ≡ first
    → renumbered edit v (then_added edit first) ≡ Ok after → Halves edit v.tables after.tables
halves_first edit v after (Err entry) goes e = absurd cc
halves_first edit v after (Ok left) goes e =
    halves_second edit v after left (each_fits put_on (length edit.removed) edit.added left) goes refl e

pub applied_leaves : AppliedLeaves
applied_leaves edit before after levels is e =
    let halves = halves_first edit before after (each_fits take_off 0 edit.removed before.tables) refl e in
    let stand : Stand before.tables = record { apart = is.apart; levels = is.levels } in
    let left = left_by_all 0 edit.removed before.tables halves.left levels.removed stand halves.goes in
    let joined = joined_by_all (length edit.removed) edit.added halves.left after.tables halves.comes in
    record {
      comes = joined.comes;
      stays = λ table stays. joined.stays table (left.stays table stays.stood stays.unnamed);
      only = λ table h.
          elim (joined.only table h) [
            | inl comes ↦ inl comes
            | inr there ↦ inr (record { stood = left.stood table there; unnamed = left.unnamed table there })
          ];
    }

-- ---- the edit of a whole version

not_true : (b : Bool) → not b ≡ true → b ≡ false
not_true true h = absurd cc
not_true false h = refl

front_all : (front : List Added) (table : Added) (back : List Added) → are_apart (front ++ table ∷ back) ≡ true → list_all (λ t. goes_before t table) front ≡ true
front_all [] table back h = refl
front_all (t ∷ ts) table back h =
    let parts = and_parts (list_all (goes_before t) (ts ++ table ∷ back)) (are_apart (ts ++ table ∷ back)) h in
    and_from (goes_before t table) (list_all (λ u. goes_before u table) ts)
    (all_of (goes_before t) (ts ++ table ∷ back) table parts.0 (in_middle ts table back)) (front_all ts table back parts.1)

count_all : (a : Added) (ts : List Added) → list_all (λ t. goes_before t a) ts ≡ true → count_before a ts ≡ length ts
count_all a [] h = refl
count_all a (t ∷ ts) h =
    let parts = and_parts (goes_before t a) (list_all (λ u. goes_before u a) ts) h in
    let before = and_parts (is_before t a) (not (clash t a)) parts.0 in
    count_yes a t ts before.0 ∙ ap suc (count_all a ts parts.1)

none_clash : (a : Added) (ts : List Added) → list_all (λ t. goes_before t a) ts ≡ true → list_any (clash a) ts ≡ false
none_clash a [] h = refl
none_clash a (t ∷ ts) h =
    let parts = and_parts (goes_before t a) (list_all (λ u. goes_before u a) ts) h in
    let before = and_parts (is_before t a) (not (clash t a)) parts.0 in
    or_from (clash a t) (list_any (clash a) ts) (clash_swap a t ∙ not_true (clash t a) before.1) (none_clash a ts parts.1)

insert_last : (ts : List Added) (a : Added) → insert ts (length ts) a ≡ ts ++ a ∷ []
insert_last [] a = refl
insert_last (t ∷ ts) a = ap (λ (us : List Added). t ∷ us) (insert_last ts a)

put_last : (a : Added) (front : List Added) → list_all (λ t. goes_before t a) front ≡ true → put_on a front ≡ Some (front ++ a ∷ [])
put_last a front h = rw (none_clash a front h, count_all a front h, insert_last front a) refl

whole_from : (entry : ℕ) (front more : List Added) → are_apart (front ++ more) ≡ true → each_fits put_on entry more front ≡ Ok (front ++ more)
unfolding each_fits
whole_from entry front [] h = ap (λ (ts : List Added). Ok ts) (sym (append-nil front))
whole_from entry front (a ∷ more) h =
    let put = put_last a front (front_all front a more h) in
    let regrouped : (front ++ a ∷ []) ++ more ≡ front ++ a ∷ more = append_assoc front (a ∷ []) more in
    let rest = whole_from (entry + 1) (front ++ a ∷ []) more (ap are_apart regrouped ∙ h) in
    rw put (rest ∙ ap (λ (ts : List Added). Ok ts) regrouped)

none_go : (edit : Edit) → edit.removed ≡ [] → each_fits take_off 0 edit.removed [] ≡ Ok []
unfolding each_fits
none_go edit none = rw none refl

pub whole_edit : WholeEdit
whole_edit edit tables is none all =
    let first = none_go edit none in
    let second : each_fits put_on (length edit.removed) edit.added [] ≡ Ok tables = rw all (whole_from (length edit.removed) [] tables is.apart) in
    let numbers : no_less edit nothing ≡ true =
    and_from _ _ (le-leb 0 edit.min_log (omega arith)) (and_from _ _ (le-leb 0 edit.next_file (omega arith)) (le-leb 0 edit.last_seq (omega arith))) in
    let numbered : renumbered edit nothing (Ok tables) ≡ Ok (record { tables = tables; min_log = edit.min_log; next_file = edit.next_file; last_seq = edit.last_seq }) = rw numbers refl in
    ap (λ (r : Result (List Added) ℕ). renumbered edit nothing (then_added edit r)) first ∙ ap (renumbered edit nothing) second ∙ numbered

-- ---- the first of a level

kept_all : (q : Added → Bool) (b : Bool) (t : Added) (ts : List Added) → q t ≡ true → list_all q ts ≡ true → list_all q (cond b (t ∷ ts) ts) ≡ true
kept_all q true t ts here all = and_from (q t) (list_all q ts) here all
kept_all q false t ts here all = all

all_filter : (q p : Added → Bool) (ts : List Added) → list_all q ts ≡ true → list_all q (filter p ts) ≡ true
all_filter q p [] all = refl
all_filter q p (t ∷ ts) all =
    let parts = and_parts (q t) (list_all q ts) all in
    kept_all q (p t) t (filter p ts) parts.0 (all_filter q p ts parts.1)

kept_apart : (b : Bool) (t : Added) (ts : List Added) → list_all (goes_before t) ts ≡ true → are_apart ts ≡ true → are_apart (cond b (t ∷ ts) ts) ≡ true
kept_apart true t ts all h = and_from (list_all (goes_before t) ts) (are_apart ts) all h
kept_apart false t ts all h = h

apart_filter : (p : Added → Bool) (ts : List Added) → are_apart ts ≡ true → are_apart (filter p ts) ≡ true
apart_filter p [] h = refl
apart_filter p (t ∷ ts) h =
    let parts = and_parts (list_all (goes_before t) ts) (are_apart ts) h in
    kept_apart (p t) t (filter p ts) (all_filter (goes_before t) p ts parts.0) (apart_filter p ts parts.1)

passing_by : (p : Added → Bool) (b : Bool) (t : Added) (ts : List Added) → p t ≡ b → list_all p ts ≡ true → list_all p (cond b (t ∷ ts) ts) ≡ true
passing_by p true t ts here all = and_from (p t) (list_all p ts) here all
passing_by p false t ts here all = all

all_passing : (p : Added → Bool) (ts : List Added) → list_all p (filter p ts) ≡ true
all_passing p [] = refl
all_passing p (t ∷ ts) = passing_by p (p t) t (filter p ts) refl (all_passing p ts)

number_over : (level : ℕ) (first other : Added) → eqb first.level level ≡ true → eqb other.level level ≡ true → is_before first other ≡ true → ltb first.number other.number ≡ true
number_over level first other here there before = grind (arith, nat_tests)

numbers_over : (level : ℕ) (first : Added) (others : List Added) → eqb first.level level ≡ true → list_all (λ t. eqb t.level level) others ≡ true → list_all (goes_before first) others ≡ true
    → list_all (λ t. nat_lt first.number t.number) others ≡ true
numbers_over level first [] here there before = refl
numbers_over level first (t ∷ ts) here there before =
    let level_parts = and_parts (eqb t.level level) (list_all (λ u. eqb u.level level) ts) there in
    let before_parts = and_parts (goes_before first t) (list_all (goes_before first) ts) before in
    let is = and_parts (is_before first t) (not (clash first t)) before_parts.0 in
    and_from (nat_lt first.number t.number) (list_all (λ u. nat_lt first.number u.number) ts)
    (number_over level first t here level_parts.0 is.0) (numbers_over level first ts here level_parts.1 before_parts.1)

pub first_is_least : FirstIsLeast
first_is_least level tables first others is e =
    let apart : are_apart (first ∷ others) ≡ true = ap are_apart (sym e) ∙ apart_filter (λ t. eqb t.level level) tables is.apart in
    let levels : list_all (λ t. eqb t.level level) (first ∷ others) ≡ true = ap (list_all (λ t. eqb t.level level)) (sym e) ∙ all_passing (λ t. eqb t.level level) tables in
    let level_parts = and_parts (eqb first.level level) (list_all (λ u. eqb u.level level) others) levels in
    let apart_parts = and_parts (list_all (goes_before first) others) (are_apart others) apart in
    numbers_over level first others level_parts.0 level_parts.1 apart_parts.0
