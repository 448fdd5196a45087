-- Rows have one merge.
use Rattle.std.proofs.Common.{◌≡◌, ℕ, Bool, true, false, List, [], ◌∷◌, Some, None, refl, ap, sym, subst, ◌∙◌}
use Rattle.std.specs.declared.cmp.Ordering.{Ordering}
use Rattle.std.specs.declared.cmp.Ordering.TheVariants.{Less, Equal, Greater}
use Rattle.std.specs.Ordering.{is_lt, ordering_reverse}
use Rattle.std.proofs.lemmas.Cmp.{nat_list_cmp_total}
use Rattle.std.proofs.lemmas.Map.Lookups.{exact_bytes}
use Rattle.keel_base.specs.declared.row.Row.{Row}
use Rattle.keel_base.specs.Keys.{key_cmp, key_lt, key_eq}
use Rattle.keel_base.specs.Rows.{newer, newest}
use Rattle.keel_merge.specs.Order.{IsBeforeAll, AreStrictlyAscending}
use Rattle.keel_merge.specs.Laws.{OneMerge}
use Rattle.keel_base.proofs.KeyOrder.{eq_same, eq_itself}
use Rattle.keel_base.proofs.Newest.{newest_here, newest_behind}
use Rattle.keel_merge.proofs.Behind.{lt_lt_all}
use Rattle.keel_merge.proofs.Newer.{newest_none}

pub first_found : (row : Row) (rows : List Row) → IsBeforeAll key_lt row.key rows → newest row.key (row ∷ rows) ≡ Some row
first_found row rows all = newest_here row.key row rows (eq_itself row.key) ∙ ap (newer row) (newest_none row.key rows all)

abbrev AreAlike : List Row → List Row → Type 0
AreAlike one other = (key : List ℕ) → newest key one ≡ newest key other

tails_by_key : (x y : Row) (xs ys : List Row) → x.key ≡ y.key → IsBeforeAll key_lt x.key xs → IsBeforeAll key_lt y.key ys → AreAlike (x ∷ xs) (y ∷ ys)
    → (key : List ℕ) (b : Bool) → key_eq x.key key ≡ b → newest key xs ≡ newest key ys
tails_by_key x y xs ys same first second alike key true e =
    let is : x.key ≡ key = eq_same x.key key e in
    let left : newest key xs ≡ None = newest_none key xs (subst (λ (k : List ℕ). IsBeforeAll key_lt k xs) is first) in
    let right : newest key ys ≡ None = newest_none key ys (subst (λ (k : List ℕ). IsBeforeAll key_lt k ys) (sym same ∙ is) second) in
    left ∙ sym right
tails_by_key x y xs ys same first second alike key false e =
    let other : key_eq y.key key ≡ false = ap (λ (k : List ℕ). key_eq k key) (sym same) ∙ e in
    sym (newest_behind key x xs e) ∙ alike key ∙ newest_behind key y ys other

lists_by_first : (x y : Row) (xs ys : List Row) (o : Ordering) → key_cmp x.key y.key ≡ o → AreStrictlyAscending (x ∷ xs) → AreStrictlyAscending (y ∷ ys)
    → AreAlike (x ∷ xs) (y ∷ ys) → (AreAlike xs ys → xs ≡ ys) → x ∷ xs ≡ y ∷ ys
lists_by_first x y xs ys Less e a b alike tails =
    let lt : key_lt x.key y.key ≡ true = ap is_lt e in
    let none : newest x.key (y ∷ ys) ≡ None = newest_none x.key (y ∷ ys) (lt, lt_lt_all x.key y.key ys lt b.0) in
    let some : newest x.key (x ∷ xs) ≡ Some x = first_found x xs a.0 in
    let both : newest x.key (x ∷ xs) ≡ newest x.key (y ∷ ys) = alike x.key in
    let wrong : Some x ≡ None = sym some ∙ both ∙ none in
    cc
lists_by_first x y xs ys Equal e a b alike tails =
    let same : x.key ≡ y.key = exact_bytes x.key y.key e in
    let some : newest x.key (x ∷ xs) ≡ Some x = first_found x xs a.0 in
    let found : newest y.key (y ∷ ys) ≡ Some y = first_found y ys b.0 in
    let at : newest y.key (x ∷ xs) ≡ Some x = subst (λ (k : List ℕ). newest k (x ∷ xs) ≡ Some x) same some in
    let both : Some x ≡ Some y = sym at ∙ alike y.key ∙ found in
    let rows : x ≡ y = cc in
    let rest : xs ≡ ys = tails (λ key. tails_by_key x y xs ys same a.0 b.0 alike key (key_eq x.key key) refl) in
    cc
lists_by_first x y xs ys Greater e a b alike tails =
    let lt : key_lt y.key x.key ≡ true = ap is_lt (nat_list_cmp_total.antisymm y.key x.key ∙ ap ordering_reverse e) in
    let none : newest y.key (x ∷ xs) ≡ None = newest_none y.key (x ∷ xs) (lt, lt_lt_all y.key x.key xs lt a.0) in
    let some : newest y.key (y ∷ ys) ≡ Some y = first_found y ys b.0 in
    let both : newest y.key (x ∷ xs) ≡ newest y.key (y ∷ ys) = alike y.key in
    let wrong : None ≡ Some y = sym none ∙ both ∙ some in
    cc

pub one_list : (one other : List Row) → AreStrictlyAscending one → AreStrictlyAscending other → AreAlike one other → one ≡ other
one_list [] [] a b alike = refl
one_list [] (y ∷ ys) a b alike =
    let some : newest y.key (y ∷ ys) ≡ Some y = first_found y ys b.0 in
    let both : newest y.key [] ≡ newest y.key (y ∷ ys) = alike y.key in
    let wrong : None ≡ Some y = both ∙ some in
    cc
one_list (x ∷ xs) [] a b alike =
    let some : newest x.key (x ∷ xs) ≡ Some x = first_found x xs a.0 in
    let both : newest x.key (x ∷ xs) ≡ newest x.key [] = alike x.key in
    let wrong : Some x ≡ None = sym some ∙ both in
    cc
one_list (x ∷ xs) (y ∷ ys) a b alike = lists_by_first x y xs ys (key_cmp x.key y.key) refl a b alike (one_list xs ys a.1 b.1)

pub one_merge : OneMerge
one_merge rows one other last_level a b =
    one_list one other a.ascending b.ascending (λ key. a.newest_of_each key ∙ sym (b.newest_of_each key))
