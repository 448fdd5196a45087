-- The order of keys.
use Rattle.std.proofs.Common.{◌≡◌, ℕ, Bool, true, false, not, List, refl, ap, sym, subst, ◌∙◌}
use Rattle.std.specs.declared.cmp.Ordering.{Ordering}
use Rattle.std.specs.declared.cmp.Ordering.TheVariants.{Less, Equal, Greater}
use Rattle.std.specs.Ordering.{is_lt, is_gt, is_eq, ordering_reverse}
use Rattle.std.proofs.lemmas.Cmp.{nat_list_cmp_total, tied_itself, upto}
use Rattle.std.proofs.lemmas.Map.Lookups.{exact_bytes}
use Rattle.keel_base.specs.Keys.{key_cmp, key_lt, key_le, key_eq}

pub less : (o : Ordering) → is_lt o ≡ true → o ≡ Less
less Less e = refl
less Equal e = cc
less Greater e = cc

pub equal : (o : Ordering) → is_eq o ≡ true → o ≡ Equal
equal Less e = cc
equal Equal e = refl
equal Greater e = cc

not_greater : (o : Ordering) → not (is_gt o) ≡ true → is_gt o ≡ false
not_greater Less e = refl
not_greater Equal e = refl
not_greater Greater e = cc

pub eq_same : (a b : List ℕ) → key_eq a b ≡ true → a ≡ b
eq_same a b e = exact_bytes a b (equal (key_cmp a b) e)

pub eq_itself : (a : List ℕ) → key_eq a a ≡ true
eq_itself a = ap is_eq (tied_itself nat_list_cmp_total a)

pub cmp_itself : (a : List ℕ) → key_cmp a a ≡ Equal
cmp_itself a = tied_itself nat_list_cmp_total a

pub same_eq : (a b : List ℕ) → a ≡ b → key_eq a b ≡ true
same_eq a b e = subst (λ (k : List ℕ). key_eq a k ≡ true) e (eq_itself a)

pub le_itself : (a : List ℕ) → key_le a a ≡ true
le_itself a = ap (λ (o : Ordering). not (is_gt o)) (tied_itself nat_list_cmp_total a)

reversed_eq : (o p : Ordering) → p ≡ ordering_reverse o → is_eq o ≡ false → is_eq p ≡ false
reversed_eq Less p e differ = ap is_eq e
reversed_eq Equal p e differ = cc
reversed_eq Greater p e differ = ap is_eq e

pub eq_turned : (a b : List ℕ) → key_eq a b ≡ false → key_eq b a ≡ false
eq_turned a b differ = reversed_eq (key_cmp a b) (key_cmp b a) (nat_list_cmp_total.antisymm b a) differ

pub lt_then_lt : (a b c : List ℕ) → key_lt a b ≡ true → key_lt b c ≡ true → key_lt a c ≡ true
lt_then_lt a b c first second = ap is_lt (nat_list_cmp_total.trans a b c (less (key_cmp a b) first) (less (key_cmp b c) second))

lt_then : (a b c : List ℕ) (o : Ordering) → key_cmp b c ≡ o → key_lt a b ≡ true → not (is_gt o) ≡ true → key_lt a c ≡ true
lt_then a b c Less e first second = lt_then_lt a b c first (ap is_lt e)
lt_then a b c Equal e first second = subst (λ (k : List ℕ). key_lt a k ≡ true) (exact_bytes b c e) first
lt_then a b c Greater e first second = cc

pub lt_then_le : (a b c : List ℕ) → key_lt a b ≡ true → key_le b c ≡ true → key_lt a c ≡ true
lt_then_le a b c first second = lt_then a b c (key_cmp b c) refl first second

pub le_then_le : (a b c : List ℕ) → key_le a b ≡ true → key_le b c ≡ true → key_le a c ≡ true
le_then_le a b c first second =
    ap not (upto nat_list_cmp_total a b c (not_greater (key_cmp a b) first) (not_greater (key_cmp b c) second))

lt_is : (o : Ordering) → is_lt o ≡ true → not (is_gt o) ≡ true
lt_is Less e = refl
lt_is Equal e = cc
lt_is Greater e = cc

pub lt_is_le : (a b : List ℕ) → key_lt a b ≡ true → key_le a b ≡ true
lt_is_le a b e = lt_is (key_cmp a b) e

lt_is_not : (o p : Ordering) → p ≡ ordering_reverse o → is_lt o ≡ true → is_eq p ≡ false
lt_is_not Less p e lt = ap is_eq e
lt_is_not Equal p e lt = cc
lt_is_not Greater p e lt = cc

-- what stands behind a key has another
pub lt_differs : (a b : List ℕ) → key_lt a b ≡ true → key_eq b a ≡ false
lt_differs a b e = lt_is_not (key_cmp a b) (key_cmp b a) (nat_list_cmp_total.antisymm b a) e

le_is : (o p : Ordering) → p ≡ ordering_reverse o → not (is_gt o) ≡ true → is_eq p ≡ false → is_lt o ≡ true
le_is Less p e le differ = refl
le_is Equal p e le differ = let same : is_eq p ≡ true = ap is_eq e in cc
le_is Greater p e le differ = cc

pub le_differs : (a b : List ℕ) → key_le a b ≡ true → key_eq b a ≡ false → key_lt a b ≡ true
le_differs a b le differ = le_is (key_cmp a b) (key_cmp b a) (nat_list_cmp_total.antisymm b a) le differ

not_lt_is : (o p : Ordering) → p ≡ ordering_reverse o → is_lt o ≡ false → not (is_gt p) ≡ true
not_lt_is Less p e not_lt = cc
not_lt_is Equal p e not_lt = ap (λ (q : Ordering). not (is_gt q)) e
not_lt_is Greater p e not_lt = ap (λ (q : Ordering). not (is_gt q)) e

pub not_lt : (a b : List ℕ) → key_lt b a ≡ false → key_le a b ≡ true
not_lt a b e = not_lt_is (key_cmp b a) (key_cmp a b) (nat_list_cmp_total.antisymm a b) e

either : (b : Bool) → (b ≡ true → (let f : Bool = false in f) ≡ true) → b ≡ false
either true h = absurd (let e : false ≡ true = h refl in cc)
either false h = refl

-- what isn't over a key isn't over a greater one
pub lt_then_not_lt : (a b c : List ℕ) → key_lt a b ≡ true → key_lt a c ≡ false → key_lt b c ≡ false
lt_then_not_lt a b c first second = either (key_lt b c) (λ e. sym second ∙ lt_then_lt a b c first e)
