-- The map of rows, and its pairs.
use Rattle.std.proofs.Common.{◌≡◌, ℕ, Bool, true, false, cond, List, [], ◌∷◌, Option, Some, None, refl, sym, ap, subst, ◌∙◌}
use Rattle.std.specs.Prelude.{not, filter}
use Rattle.std.proofs.lemmas.Bool.{lt-ltb, le-ltb, leb-true, leb-false}
use Rattle.std.specs.declared.cmp.Ordering.TheVariants.{Equal}
use Rattle.std.specs.Ordering.{eq_by_cmp}
use Rattle.std.proofs.lemmas.Cmp.{nat_list_cmp_total, eq_by_cmp_equiv}
use Rattle.std.proofs.lemmas.Map.Lookups.{exact_bytes}
use Rattle.std.specs.FinMap.{entries, get, insert, from_sorted, entries_sorted, entries-from_sorted, get-from_sorted, get-entries, entries-insert, get-insert}
use Rattle.std.specs.FinMap.Entries.{find, put, is_sorted-where_key, find-where_key}
use Rattle.keel_base.specs.declared.row.Row.{Row}
use Rattle.keel_base.specs.declared.row.Kind.{Kind}
use Rattle.keel_base.specs.declared.row.Kind.TheVariants as kinds
use Rattle.keel_base.specs.Keys.{key_cmp, key_eq}
use Rattle.keel_base.specs.Points.{Values}
use Rattle.keel_base.specs.Rows.{newer, newest, value_left, kept}
use Rattle.keel_base.proofs.KeyOrder.{eq_same, eq_itself}
use Rattle.keel_directory.specs.Answers.{PairList, Sets, ArePairsOf, is_over}

-- ---- keys

turned_key : (a b : List ℕ) → eq_by_cmp key_cmp b a ≡ key_eq a b
turned_key a b = sym ((eq_by_cmp_equiv nat_list_cmp_total).symm a b)

-- ---- a key with its value taken out

abbrev pub left : List ℕ → PairList → PairList
left key pairs = filter (λ pair. not (key_eq key pair.0)) pairs

abbrev stays : List ℕ → List ℕ → Bool
stays key other = not (key_eq key other)

alike : (key q x : List ℕ) → key_cmp q x ≡ Equal → stays key x ≡ stays key q
alike key q x e = ap (stays key) (sym (exact_bytes q x e))

turned : {A : Type 0} (b : Bool) (x y : A) → cond (not b) x y ≡ cond b y x
turned true x y = refl
turned false x y = refl

found_left : (key q : List ℕ) (pairs : PairList) → find key_cmp q (left key pairs) ≡ cond (key_eq key q) None (find key_cmp q pairs)
found_left key q pairs = find-where_key key_cmp (stays key) q (alike key q) pairs ∙ turned (key_eq key q) (find key_cmp q pairs) None

pub none_left : (key : List ℕ) (pairs : PairList) → find key_cmp key (left key pairs) ≡ None
none_left key pairs = found_left key key pairs ∙ ap (λ (b : Bool). cond b None (find key_cmp key pairs)) (eq_itself key)

-- the map without a key
record IsWithout (key : List ℕ) (values after : Values) : Type 0 where
  pairs : entries after ≡ left key (entries values)
  gets : (q : List ℕ) → get after q ≡ cond (key_eq key q) None (get values q)

without_key : (key : List ℕ) (values : Values) → (after : Values) × IsWithout key values after
without_key key values =
    let pairs : PairList = left key (entries values) in
    let sorted = is_sorted-where_key key_cmp (stays key) (entries values) (entries_sorted values) in (
      from_sorted pairs,
      record {
        pairs = entries-from_sorted key_cmp pairs sorted;
        gets = λ q. get-from_sorted key_cmp pairs q sorted ∙ found_left key q (entries values) ∙ ap (λ (v : Option (List ℕ)). cond (key_eq key q) None v) (sym (get-entries values q));
      },
    )

-- ---- what a row leaves is set

pub sets_delete : (row : Row) (pairs set : PairList) → row.kind ≡ kinds.Del → set ≡ left row.key pairs → Sets row pairs set
sets_delete row pairs set is taken values of =
    let w = without_key row.key values in
    let gone : kept row.kind row.value ≡ None = ap (λ (k : Kind). kept k row.value) is in
    (w.0, w.1.pairs ∙ ap (left row.key) of ∙ sym taken, λ key. w.1.gets key ∙ ap (λ (v : Option (List ℕ)). cond (key_eq row.key key) v (get values key)) (sym gone))

shadowed : {A : Type 0} (b : Bool) (x y z : A) → cond b x (cond b y z) ≡ cond b x z
shadowed true x y z = refl
shadowed false x y z = refl

pub sets_put : (row : Row) (pairs set : PairList) → row.kind ≡ kinds.Put → set ≡ put key_cmp row.key row.value (left row.key pairs) → Sets row pairs set
sets_put row pairs set is stored values of =
    let w = without_key row.key values in
    let here : kept row.kind row.value ≡ Some row.value = ap (λ (k : Kind). kept k row.value) is in (
      insert w.0 row.key row.value,
      entries-insert nat_list_cmp_total w.0 row.key row.value ∙ ap (put key_cmp row.key row.value) (w.1.pairs ∙ ap (left row.key) of) ∙ sym stored,
      λ key.
          get-insert nat_list_cmp_total w.0 row.key row.value key
          ∙ ap (λ (b : Bool). cond b (Some row.value) (get w.0 key)) (turned_key row.key key)
          ∙ ap (λ (v : Option (List ℕ)). cond (key_eq row.key key) (Some row.value) v) (w.1.gets key)
          ∙ shadowed (key_eq row.key key) (Some row.value) None (get values key)
          ∙ ap (λ (v : Option (List ℕ)). cond (key_eq row.key key) v (get values key)) (sym here),
    )

-- ---- rows

older : (row : Row) (found : Option Row) → is_over row found ≡ false → newer row found ≡ found
older row None e = cc
older row (Some other) e = rw (lt-ltb row.seq other.seq (leb-false other.seq row.seq e)) refl

over : (row : Row) (found : Option Row) → is_over row found ≡ true → newer row found ≡ Some row
over row None e = refl
over row (Some other) e = rw (le-ltb row.seq other.seq (leb-true other.seq row.seq e)) refl

chosen : {A : Type 0} (b : Bool) (x y z : A) → (b ≡ true → x ≡ z) → (b ≡ false → y ≡ z) → cond b x y ≡ z
chosen true x y z first second = first refl
chosen false x y z first second = second refl

-- rows with one before them that isn't the newest of its key have the same map
pub not_over : (row : Row) (rows : List Row) (pairs : PairList) → is_over row (newest row.key rows) ≡ false → ArePairsOf rows pairs → ArePairsOf (row ∷ rows) pairs
not_over row rows pairs below are =
    let same : (key : List ℕ) → newest key (row ∷ rows) ≡ newest key rows =
    λ key. chosen (key_eq row.key key) (newer row (newest key rows)) (newest key rows) (newest key rows)
    (λ e. subst (λ (k : List ℕ). newer row (newest k rows) ≡ newest k rows) (eq_same row.key key e) (older row (newest row.key rows) below)) (λ e. refl) in
    (are.0, λ key. are.1 key ∙ ap value_left (sym (same key)), are.2)

-- the newest of its key sets what it leaves
pub is_newest_row : (row : Row) (rows : List Row) (pairs set : PairList) → is_over row (newest row.key rows) ≡ true → Sets row pairs set → ArePairsOf rows pairs → ArePairsOf (row ∷ rows) set
is_newest_row row rows pairs set above sets are =
    let after = sets are.0 are.2 in
    let left_by : List ℕ → Option (List ℕ) = λ key. value_left (newest key (row ∷ rows)) in
    let here : (key : List ℕ) → key_eq row.key key ≡ true → left_by key ≡ kept row.kind row.value =
    λ key e. rw e (subst (λ (k : List ℕ). value_left (newer row (newest k rows)) ≡ kept row.kind row.value) (eq_same row.key key e) (ap value_left (over row (newest row.key rows) above))) in
    let there : (key : List ℕ) → key_eq row.key key ≡ false → left_by key ≡ get are.0 key = λ key e. rw e (sym (are.1 key)) in
    (after.0, λ key. after.2 key ∙ chosen (key_eq row.key key) (kept row.kind row.value) (get are.0 key) (left_by key) (λ e. sym (here key e)) (λ e. sym (there key e)), after.1)

pub no_pairs : ArePairsOf [] []
no_pairs = (from_sorted [], λ key. get-from_sorted key_cmp [] key tt, entries-from_sorted key_cmp [] tt)
