-- Listings grow in the order of the printed names.
use Rattle.std.proofs.Common.{◌≡◌, ◌≢◌, ℕ, zero, suc, ◌+◌, ◌<◌, Bool, true, false, List, [], ◌∷◌, ◌++◌, All, IsTrue, IfSome, MatchOption, Option, Some, None, length, take, drop, get_or, refl, sym, ◌∙◌, ap, subst, inl, inr, arith, if◌then◌else◌}
use Rattle.std.specs.List.{AllPairs, insert, slice_get}
use Rattle.std.proofs.lemmas.List.Elements.{All-nil, All-cons, All-tail, All-append, All-take, All-drop, All-map}
use Rattle.std.proofs.lemmas.List.{length-map, get_or-map, take-append-drop, take_more}
use Rattle.std.proofs.lemmas.List.Kept.{AllPairs-cons}
use Rattle.keel_base.specs.declared.file_name.FileName.{FileName}
use Rattle.keel_base.specs.declared.listing.Entry.{Entry}
use Rattle.keel_base.specs.Keys.{key_lt}
use Rattle.keel_base.specs.Listings.{IsListing, size_listed}
use Rattle.keel_base.specs.Name.{name_eq, IsName, printed, listed_before}
use Rattle.keel_base.proofs.Names.{name_eq-same, name_eq-true}
use Rattle.keel_name.specs.declared.spelled.Spelled.{Spelled}
use Rattle.keel_name.specs.Sorting.{HaveSameSizes, IsSorted, IsPlace, TakesIn, entries, first_size}
use Rattle.keel_name.proofs.Listings.{in_order}

-- ---- order

abbrev pub InOrder : Spelled → Spelled → Type 0
InOrder earlier later = IsTrue (listed_before earlier.entry.name later.entry.name)

-- an element between those that stand before it and those behind
pairs-insert : (xs : List Spelled) (place : ℕ) (x : Spelled) → AllPairs InOrder xs → All (λ y. InOrder y x) (take place xs) → All (InOrder x) (drop place xs)
    → AllPairs InOrder (insert xs place x)
pairs-insert xs zero x pairs before behind = AllPairs-cons InOrder x xs behind pairs
pairs-insert [] (suc place) x pairs before behind = AllPairs-cons InOrder x [] behind pairs
pairs-insert (y ∷ xs) (suc place) x pairs before behind =
    let head : All (InOrder y) xs = λ k d lt. pairs 0 (suc k) d (omega arith) (omega arith) in
    let tail : AllPairs InOrder xs = λ i j d lt within. pairs (suc i) (suc j) d (omega arith) (omega arith) in
    let here : InOrder y x = before 0 x (omega arith) in
    let all : All (InOrder y) (insert xs place x) = All-append (InOrder y) (take place xs) (x ∷ drop place xs) (All-take (InOrder y) place xs head)
    (All-cons (InOrder y) x (drop place xs) here (All-drop (InOrder y) place xs head)) in
    AllPairs-cons InOrder y (insert xs place x) all (pairs-insert xs place x tail (All-tail (λ z. InOrder z x) y (take place xs) before) behind)

-- spellings are in the order of listings
as_spelled : (a b : Spelled) → key_lt a.spelling b.spelling ≡ listed_before a.entry.name b.entry.name
as_spelled a b = ap (λ (s : List ℕ). key_lt s b.spelling) a.spelled ∙ ap (λ (s : List ℕ). key_lt (printed a.entry.name) s) b.spelled

-- what stands before another has another name
apart : (x y : Spelled) → InOrder x y → x.entry.name ≢ y.entry.name
apart x y before same =
    let seen : listed_before y.entry.name y.entry.name ≡ true = subst (λ (n : FileName). listed_before n y.entry.name ≡ true) same before in
    let never : listed_before y.entry.name y.entry.name ≡ false = in_order.apart y.entry.name in
    cc

-- a file that isn't before another, of another name, is behind it
stands_behind : (x y : Spelled) → IsName x.entry.name → IsName y.entry.name → name_eq y.entry.name x.entry.name ≡ false → key_lt y.spelling x.spelling ≡ false → InOrder x y
stands_behind x y is_x is_y differ not_before =
    elim (in_order.one_of_two y.entry.name x.entry.name is_y is_x
    (λ same. let seen : name_eq y.entry.name x.entry.name ≡ true = subst (λ n. name_eq y.entry.name n ≡ true) same (name_eq-same y.entry.name) in cc)) [
      | inl before ↦ let seen : key_lt y.spelling x.spelling ≡ true = as_spelled y x ∙ before in cc
      | inr behind ↦ behind
    ]

-- all in front of its place stand before a file
all_before : (xs : List Spelled) (place : ℕ) (x : Spelled) → IsPlace x.spelling xs place → All (λ y. InOrder y x) (take place xs)
all_before xs place x is k d lt = sym (as_spelled (get_or (take place xs) k d) x) ∙ is.front k d lt

-- so are all from its place on behind it
all_behind : (xs : List Spelled) (place : ℕ) (x : Spelled) → AllPairs InOrder xs → All (λ s. IsName s.entry.name) xs → IsName x.entry.name
    → IfSome (slice_get xs place) (λ y. name_eq y.entry.name x.entry.name ≡ false) → IfSome (slice_get xs place) (λ y. key_lt y.spelling x.spelling ≡ false)
    → All (InOrder x) (drop place xs)
all_behind [] zero x pairs names named differ here = All-nil (InOrder x)
all_behind [] (suc place) x pairs names named differ here = All-nil (InOrder x)
all_behind (y ∷ xs) zero x pairs names named differ here =
    let first : InOrder x y = stands_behind x y named (names 0 y (omega arith)) differ here in
    All-cons (InOrder x) y xs first (λ k d lt. in_order.onward x.entry.name y.entry.name (get_or xs k d).entry.name first (pairs 0 (suc k) d (omega arith) (omega arith)))
all_behind (y ∷ xs) (suc place) x pairs names named differ here =
    all_behind xs place x (λ i j d lt within. pairs (suc i) (suc j) d (omega arith) (omega arith)) (All-tail (λ s. IsName s.entry.name) y xs names) named differ here

sorted-insert : (xs : List Spelled) (place : ℕ) (x : Spelled) → IsSorted xs → IsName x.entry.name → All (λ y. InOrder y x) (take place xs) → All (InOrder x) (drop place xs)
    → IsSorted (insert xs place x)
sorted-insert xs place x sorted named before behind = record {
  are_names = All-append (λ s. IsName s.entry.name) (take place xs) (x ∷ drop place xs) (All-take (λ s. IsName s.entry.name) place xs sorted.are_names)
      (All-cons (λ s. IsName s.entry.name) x (drop place xs) named (All-drop (λ s. IsName s.entry.name) place xs sorted.are_names));
  ascends = pairs-insert xs place x sorted.ascends before behind;
}

-- ---- sizes

-- the first of a name counts
pub size-append : (name : FileName) (xs ys : List Entry) → size_listed name (xs ++ ys) ≡ first_size (size_listed name xs) (size_listed name ys)
size-append name [] ys = refl
size-append name (x ∷ xs) ys = each (name_eq x.name name) (size-append name xs ys)
  where
    each : (here : Bool) → size_listed name (xs ++ ys) ≡ first_size (size_listed name xs) (size_listed name ys)
        → (if here then Some x.size else size_listed name (xs ++ ys)) ≡ first_size (if here then Some x.size else size_listed name xs) (size_listed name ys)
    each true rest = refl
    each false rest = rest

-- a name that no file has is not listed
not_listed : (name : FileName) (xs : List Spelled) → All (λ y. y.entry.name ≢ name) xs → size_listed name (entries xs) ≡ None
not_listed name [] differ = refl
not_listed name (y ∷ xs) differ =
    elim (name_eq y.entry.name name) as (λ b. name_eq y.entry.name name ≡ b → (if b then Some y.entry.size else size_listed name (entries xs)) ≡ None) [
      | true ↦ λ same. absurd (differ 0 y (omega arith) (name_eq-true y.entry.name name same))
      | false ↦ λ other. not_listed name xs (All-tail (λ z. z.entry.name ≢ name) y xs differ)
    ] refl

-- one file more, of a name that none in front of its place has
size-insert : (name : FileName) (xs : List Spelled) (place : ℕ) (x : Spelled) → All (λ y. y.entry.name ≢ x.entry.name) (take place xs)
    → size_listed name (entries (insert xs place x)) ≡ (if name_eq x.entry.name name then Some x.entry.size else size_listed name (entries xs))
size-insert name xs zero x differ = refl
size-insert name [] (suc place) x differ = refl
size-insert name (y ∷ xs) (suc place) x differ =
    ap (λ (o : Option ℕ). if name_eq y.entry.name name then Some y.entry.size else o) (size-insert name xs place x (All-tail (λ z. z.entry.name ≢ x.entry.name) y (take place xs) differ))
    ∙ swapped (name_eq y.entry.name name) (name_eq x.entry.name name) (Some y.entry.size) (Some x.entry.size) (size_listed name (entries xs))
    (λ one other. differ 0 y (omega arith) (name_eq-true y.entry.name name one ∙ sym (name_eq-true x.entry.name name other)))
  where
    swapped : (a b : Bool) (s t o : Option ℕ) → (a ≡ true → b ≡ true → ⊥) → (if a then s else (if b then t else o)) ≡ (if b then t else (if a then s else o))
    swapped true true s t o never = absurd (never refl refl)
    swapped true false s t o never = refl
    swapped false b s t o never = refl

none_more : (size : Option ℕ) → size ≡ first_size size None
none_more None = refl
none_more (Some size) = refl

-- a file is taken in already where one of its name is there
kept : (name : FileName) (xs : List Spelled) (place : ℕ) (x : Entry) → MatchOption (slice_get xs place) ⊥ (λ y. true ≡ name_eq y.entry.name x.name)
    → size_listed name (entries xs) ≡ first_size (size_listed name (entries xs)) (size_listed name (x ∷ []))
kept name [] zero x there = absurd there
kept name [] (suc place) x there = absurd there
kept name (y ∷ xs) zero x there = each (name_eq y.entry.name name) (name_eq x.name name) refl refl
  where
    each : (here same : Bool) → name_eq y.entry.name name ≡ here → name_eq x.name name ≡ same
        → (if here then Some y.entry.size else size_listed name (entries xs)) ≡ first_size (if here then Some y.entry.size else size_listed name (entries xs)) (if same then Some x.size else None)
    each true same is_here is_same = refl
    each false false is_here is_same = none_more (size_listed name (entries xs))
    each false true is_here is_same =
        let found : name_eq y.entry.name name ≡ true = subst (λ (n : FileName). name_eq y.entry.name n ≡ true) (name_eq-true x.name name is_same) (sym there) in
        cc
kept name (y ∷ xs) (suc place) x there = each (name_eq y.entry.name name) (kept name xs place x there)
  where
    each : (here : Bool) → size_listed name (entries xs) ≡ first_size (size_listed name (entries xs)) (size_listed name (x ∷ []))
        → (if here then Some y.entry.size else size_listed name (entries xs)) ≡ first_size (if here then Some y.entry.size else size_listed name (entries xs)) (size_listed name (x ∷ []))
    each true rest = refl
    each false rest = rest

-- ---- one file more

differ_all : (xs : List Spelled) (place : ℕ) (x : Spelled) → All (λ y. InOrder y x) (take place xs) → All (InOrder x) (drop place xs) → All (λ y. y.entry.name ≢ x.entry.name) xs
differ_all xs place x before behind =
    subst (λ (ys : List Spelled). All (λ y. y.entry.name ≢ x.entry.name) ys) (take-append-drop place xs)
    (All-append (λ y. y.entry.name ≢ x.entry.name) (take place xs) (drop place xs)
    (λ k d lt. apart (get_or (take place xs) k d) x (before k d lt))
    (λ k d lt same. apart x (get_or (drop place xs) k d) (behind k d lt) (sym same)))

put_sizes : (name : FileName) (xs : List Spelled) (place : ℕ) (x : Spelled) → All (λ y. y.entry.name ≢ x.entry.name) xs
    → size_listed name (entries (insert xs place x)) ≡ first_size (size_listed name (entries xs)) (size_listed name (x.entry ∷ []))
put_sizes name xs place x differ =
    size-insert name xs place x (All-take (λ y. y.entry.name ≢ x.entry.name) place xs differ)
    ∙ each (name_eq x.entry.name name) refl
  where
    each : (here : Bool) → name_eq x.entry.name name ≡ here
        → (if here then Some x.entry.size else size_listed name (entries xs)) ≡ first_size (size_listed name (entries xs)) (if here then Some x.entry.size else None)
    each false is = none_more (size_listed name (entries xs))
    each true is =
        let none : size_listed name (entries xs) ≡ None =
        subst (λ (n : FileName). size_listed n (entries xs) ≡ None) (name_eq-true x.entry.name name is) (not_listed x.entry.name xs differ) in
        ap (λ (size : Option ℕ). first_size size (Some x.entry.size)) (sym none)

put_in : (xs : List Spelled) (place : ℕ) (x : Spelled) → IsSorted xs → IsName x.entry.name → IsPlace x.spelling xs place
    → IfSome (slice_get xs place) (λ y. name_eq y.entry.name x.entry.name ≡ false) → TakesIn x.entry xs (insert xs place x)
put_in xs place x sorted named is differ =
    let before = all_before xs place x is in
    let behind = all_behind xs place x sorted.ascends sorted.are_names named differ is.here in
    record {
      order = sorted-insert xs place x sorted named before behind;
      sizes = λ name. put_sizes name xs place x (differ_all xs place x before behind);
    }

-- it is put at its place, where none of its name is there
pub put_more : (xs one other next : List Spelled) (spelling : List ℕ) (place : ℕ) (x : Spelled) (there : Bool) → IsSorted xs → IsName x.entry.name
    → one ≡ xs → other ≡ xs → spelling ≡ x.spelling → IsPlace spelling one place
    → MatchOption (slice_get other place) (there ≡ false) (λ y. there ≡ name_eq y.entry.name x.entry.name) → there ≡ false → next ≡ insert xs place x → TakesIn x.entry xs next
put_more xs one other next spelling place x there sorted named one_is other_is spelling_is is tested not_there next_is =
    let at : IsPlace x.spelling xs place = subst (λ (ys : List Spelled). IsPlace x.spelling ys place) one_is (subst (λ (s : List ℕ). IsPlace s one place) spelling_is is) in
    let test : MatchOption (slice_get xs place) (there ≡ false) (λ y. there ≡ name_eq y.entry.name x.entry.name) =
    subst (λ (ys : List Spelled). MatchOption (slice_get ys place) (there ≡ false) (λ y. there ≡ name_eq y.entry.name x.entry.name)) other_is tested in
    subst (λ (ys : List Spelled). TakesIn x.entry xs ys) (sym next_is) (put_in xs place x sorted named at (differs (slice_get xs place) test))
  where
    differs : (found : Option Spelled) → MatchOption found (there ≡ false) (λ y. there ≡ name_eq y.entry.name x.entry.name) → IfSome found (λ y. name_eq y.entry.name x.entry.name ≡ false)
    differs None none = tt
    differs (Some y) same = sym same ∙ not_there

-- it is left out, where one of its name is there
pub left_out : (xs other : List Spelled) (place : ℕ) (x : Entry) (there : Bool) → IsSorted xs → other ≡ xs
    → MatchOption (slice_get other place) (there ≡ false) (λ y. there ≡ name_eq y.entry.name x.name) → there ≡ true → TakesIn x xs xs
left_out xs other place x there sorted other_is tested is_there =
    let test : MatchOption (slice_get xs place) (there ≡ false) (λ y. there ≡ name_eq y.entry.name x.name) =
    subst (λ (ys : List Spelled). MatchOption (slice_get ys place) (there ≡ false) (λ y. there ≡ name_eq y.entry.name x.name)) other_is tested in
    record { order = sorted; sizes = λ name. kept name xs place x (found (slice_get xs place) test) }
  where
    found : (at : Option Spelled) → MatchOption at (there ≡ false) (λ y. there ≡ name_eq y.entry.name x.name) → MatchOption at ⊥ (λ y. true ≡ name_eq y.entry.name x.name)
    found None none = cc
    found (Some y) same = sym is_there ∙ same

-- the files up to another are taken in
pub taken_more : (files : List Entry) (i : ℕ) (d : Entry) (old new : List Spelled) → i < length files
    → HaveSameSizes (entries old) (take i files) → TakesIn (get_or files i d) old new → HaveSameSizes (entries new) (take (i + 1) files)
taken_more files i d old new lt had takes name =
    let x = get_or files i d in
    takes.sizes name
    ∙ ap (λ (size : Option ℕ). first_size size (size_listed name (x ∷ []))) (had name)
    ∙ sym (size-append name (take i files) (x ∷ []))
    ∙ sym (ap (size_listed name) (take_more files i d lt))

-- ---- the listing

-- entries are in the order of what they were made of
entries_ascend : (xs : List Spelled) (i j : ℕ) (d : Entry) → i < j → j < length xs → IsSorted xs
    → IsTrue (listed_before (get_or (entries xs) i d).name (get_or (entries xs) j d).name)
entries_ascend xs i j d lt within sorted =
    let e : Spelled = record { entry = d; spelling = printed d.name; spelled = refl } in
    let one = get_or-map (λ (s : Spelled). s.entry) xs i e d (omega arith) in
    let other = get_or-map (λ (s : Spelled). s.entry) xs j e d within in
    subst (λ (a : Entry). IsTrue (listed_before a.name (get_or (entries xs) j d).name)) (sym one)
    (subst (λ (b : Entry). IsTrue (listed_before (get_or xs i e).entry.name b.name)) (sym other) (sorted.ascends i j e lt within))

-- a list of entries is a listing as what it was made of
pub listing_of : (xs : List Spelled) (listing : List Entry) → listing ≡ entries xs → IsSorted xs → IsListing listing
listing_of xs listing is sorted =
    let made : IsListing (entries xs) = record {
      are_names = All-map (λ (entry : Entry). IsName entry.name) (λ (s : Spelled). s.entry) xs sorted.are_names;
      ascends = λ i j d lt within. entries_ascend xs i j d lt (omega (arith, within, length-map xs (λ (s : Spelled). s.entry))) sorted;
    } in
    subst IsListing (sym is) made
