-- The order of changes: it goes on, none comes before itself, and of two that differ one comes before the other.
use Rattle.std.proofs.Common.{◌≡◌, ◌≢◌, ℕ, ◌≤◌, Bool, true, false, ltb, List, Option, Some, None, refl, sym, ap, ◌∙◌, arith}
use Rattle.std.specs.Prelude.{◌||◌, ◌&&◌, nat_lt}
use Rattle.std.specs.declared.cmp.Ordering.{Ordering}
use Rattle.std.specs.declared.cmp.Ordering.TheVariants.{Less, Equal, Greater}
use Rattle.std.specs.Ordering.{is_lt, is_eq, ordering_reverse}
use Rattle.std.proofs.lemmas.Bool.{ltb-true, ltb-false, lt-ltb, le-ltb}
use Rattle.std.proofs.lemmas.Cmp.{nat_list_cmp_total, tied_itself, alike_right}
use Rattle.std.proofs.lemmas.Map.Lookups.{exact_bytes}
use Rattle.keel_base.specs.Keys.{key_cmp, key_lt, key_eq}
use Rattle.keel_region.specs.declared.span.IndexEntry.{IndexEntry}
use Rattle.keel_region.specs.Order.{comes_before, entry_before, Precedes}
use Rattle.keel_region.specs.Spans.{bytes_at}

-- by how the keys compare
abbrev by_keys : Ordering → ℕ → ℕ → Bool
by_keys o seq other_seq = is_lt o || (is_eq o && nat_lt other_seq seq)

later : (a b d : ℕ) → ltb b a ≡ true → ltb d b ≡ true → ltb d a ≡ true
later a b d h g = lt-ltb d a (omega (arith, ltb-true b a h, ltb-true d b g))

onward : (p : Ordering) (i j k : ℕ) → ltb j i ≡ true → by_keys p j k ≡ true → by_keys p i k ≡ true
onward Less i j k h g = refl
onward Equal i j k h g = later i j k h g
onward Greater i j k h g = absurd cc

joined : (a b d : List ℕ) (i j k : ℕ) (o p : Ordering) → key_cmp a b ≡ o → key_cmp b d ≡ p → by_keys o i j ≡ true → by_keys p j k ≡ true
    → by_keys (key_cmp a d) i k ≡ true
joined a b d i j k Less Less e f h g = ap (λ (o : Ordering). by_keys o i k) (nat_list_cmp_total.trans a b d e f)
joined a b d i j k Less Equal e f h g = ap (λ (o : Ordering). by_keys o i k) (sym (alike_right nat_list_cmp_total b d a f) ∙ e)
joined a b d i j k Less Greater e f h g = absurd cc
joined a b d i j k Equal p e f h g = ap (λ (o : Ordering). by_keys o i k) (nat_list_cmp_total.congr a b d e ∙ f) ∙ onward p i j k h g
joined a b d i j k Greater p e f h g = absurd cc

pub comes_before-trans : (a : List ℕ) (i : ℕ) (b : List ℕ) (j : ℕ) (d : List ℕ) (k : ℕ) → comes_before a i b j ≡ true → comes_before b j d k ≡ true → comes_before a i d k ≡ true
comes_before-trans a i b j d k h g = joined a b d i j k (key_cmp a b) (key_cmp b d) refl refl h g

not_later : (i : ℕ) → ltb i i ≡ false
not_later i = le-ltb i i (omega arith)

pub comes_before-itself : (a : List ℕ) (i : ℕ) → comes_before a i a i ≡ false
comes_before-itself a i = ap (λ (o : Ordering). by_keys o i i) (tied_itself nat_list_cmp_total a) ∙ not_later i

turned : (a b : List ℕ) (i j : ℕ) (o : Ordering) → key_cmp a b ≡ o → by_keys o i j ≡ false → (a ≡ b → i ≢ j) → by_keys (ordering_reverse o) j i ≡ true
turned a b i j Less e h apart = absurd cc
turned a b i j Equal e h apart =
    let differ : i ≢ j = apart (exact_bytes a b e) in
    let most : i ≤ j = ltb-false j i h in
    lt-ltb i j (omega arith)
turned a b i j Greater e h apart = refl

pub comes_before-other : (a : List ℕ) (i : ℕ) (b : List ℕ) (j : ℕ) → comes_before a i b j ≡ false → (a ≡ b → i ≢ j) → comes_before b j a i ≡ true
comes_before-other a i b j h apart =
    ap (λ (o : Ordering). by_keys o j i) (nat_list_cmp_total.antisymm b a) ∙ turned a b i j (key_cmp a b) refl h apart

-- a lesser key isn't equal
lesser : (o : Ordering) → is_lt o ≡ true → is_eq o ≡ false
lesser Less h = refl
lesser Equal h = cc
lesser Greater h = refl

pub key_lt-differs : (a b : List ℕ) → key_lt a b ≡ true → key_eq a b ≡ false
key_lt-differs a b h = lesser (key_cmp a b) h

not_before : (o : Ordering) (i j : ℕ) → is_lt o ≡ false → is_eq o ≡ false → by_keys o i j ≡ true → ⊥
not_before Less i j h k g = cc
not_before Equal i j h k g = cc
not_before Greater i j h k g = cc

beyond : (a b d : List ℕ) (i j : ℕ) (p : Ordering) → key_cmp b d ≡ p → key_lt a d ≡ false → key_eq a d ≡ false → comes_before a i b j ≡ true → is_eq p ≡ false
beyond a b d i j Less f h k g = refl
beyond a b d i j Equal f h k g =
    let same : key_cmp a b ≡ key_cmp a d = alike_right nat_list_cmp_total b d a f in
    absurd (not_before (key_cmp a d) i j h k (ap (λ (o : Ordering). by_keys o i j) (sym same) ∙ g))
beyond a b d i j Greater f h k g = refl

-- behind a greater key none is equal
pub behind_greater : (a b d : List ℕ) (i j : ℕ) → key_lt a d ≡ false → key_eq a d ≡ false → comes_before a i b j ≡ true → key_eq b d ≡ false
behind_greater a b d i j h k g = beyond a b d i j (key_cmp b d) refl h k g

less_is : (o : Ordering) → is_lt o ≡ true → o ≡ Less
less_is Less h = refl
less_is Equal h = cc
less_is Greater h = cc

lt_joined : (a b d : List ℕ) (i j : ℕ) (o : Ordering) → key_cmp a b ≡ o → by_keys o i j ≡ true → key_lt b d ≡ true → key_lt a d ≡ true
lt_joined a b d i j Less e h g = ap is_lt (nat_list_cmp_total.trans a b d e (less_is (key_cmp b d) g))
lt_joined a b d i j Equal e h g = ap is_lt (nat_list_cmp_total.congr a b d e) ∙ g
lt_joined a b d i j Greater e h g = absurd cc

-- what precedes an entry that is before a place is before it too
pub Precedes-before : (bytes key : List ℕ) (seq : Option ℕ) (x y : IndexEntry) → Precedes bytes x y → entry_before bytes key seq y ≡ true → entry_before bytes key seq x ≡ true
Precedes-before bytes key None x y h g = lt_joined (bytes_at bytes x.key) (bytes_at bytes y.key) key x.seq y.seq _ refl h g
Precedes-before bytes key (Some seq) x y h g = comes_before-trans (bytes_at bytes x.key) x.seq (bytes_at bytes y.key) y.seq key seq h g
