-- Of rows in order the first of each key is gathered.
use Rattle.std.proofs.Common.{◌≡◌, ℕ, suc, ◌≤◌, Bool, true, false, cond, List, [], ◌∷◌, ◌++◌, length, get_or, Option, Some, None, refl, ap, sym, subst, ◌∙◌, arith}
use Rattle.std.specs.Prelude.{◌||◌, ◌&&◌, nat_lt, All, AllPairs, find}
use Rattle.std.specs.List.Sorted.{IsPermutation}
use Rattle.std.specs.List.{AllByRecursion}
use Rattle.std.specs.declared.cmp.Ordering.{Ordering}
use Rattle.std.specs.declared.cmp.Ordering.TheVariants.{Less, Equal, Greater}
use Rattle.std.specs.Ordering.{is_lt, is_eq, ordering_reverse}
use Rattle.std.proofs.lemmas.Cmp.{nat_list_cmp_total}
use Rattle.std.proofs.lemmas.List.Elements.{All-head, All-tail}
use Rattle.keel_base.specs.declared.row.Row.{Row}
use Rattle.keel_base.specs.Keys.{key_cmp, key_eq, key_lt}
use Rattle.keel_base.specs.Rows.{IsRow, newest}
use Rattle.keel_base.proofs.KeyOrder.{eq_itself, eq_same}
use Rattle.keel_mem.specs.RowOrder.{AreInOrder, RowPrecedes, row_has}
use Rattle.keel_mem.specs.Totals.{least_seq, greatest_seq}
use Rattle.keel_mem.proofs.Newest.{scan_finds_newest}
use Rattle.keel_table.specs.Building.{key_before}
use Rattle.keel_table.specs.Opening.{row_of}
use Rattle.keel_table.specs.Spelling.{last_key}
use Rattle.keel_directory.specs.Sound.{first_key}
use Rattle.keel_draft.specs.declared.gathering.Gathering.{Gathering}
use Rattle.keel_draft.specs.Gathering.{HasGathered, GathersNewest}

-- the first of two that is there
abbrev pub or_else : Option Row → Option Row → Option Row
or_else None other = other
or_else (Some row) other = Some row

-- Of each key the newest row was gathered or is the first that is still to come, and what is to come isn't below the last key.
pub record IsGathering (all left : List Row) (g : Gathering) : Type 0 where
  pub rows : List Row
  pub gathered : HasGathered (least_seq all) (greatest_seq all) rows g
  pub says : (key : List ℕ) → newest key all ≡ or_else (row_of key rows) (find (row_has key) left)
  pub order : AreInOrder left
  pub over : All (λ row. key_lt row.key (last_key [] rows) ≡ false) left
  pub limits : All IsRow left

never_below : (key : List ℕ) → key_lt key [] ≡ false
never_below [] = refl
never_below (k ∷ key) = refl

pub begins : (all sorted : List Row) (g : Gathering) → IsPermutation all sorted → AreInOrder sorted → All IsRow sorted
    → HasGathered (least_seq all) (greatest_seq all) [] g → IsGathering all sorted g
begins all sorted g same order limits gathered = record {
  rows = [];
  gathered = gathered;
  says = λ key. scan_finds_newest key all sorted same order;
  order = order;
  over = λ k d lt. never_below (get_or sorted k d).key;
  limits = limits;
}

behind : {X : Type 0} (R : X → X → Type 0) (x : X) (xs : List X) → AllPairs R (x ∷ xs) → All (R x) xs
behind R x xs pairs = λ k d lt. pairs 0 (suc k) d (omega arith) (omega arith)

others : {X : Type 0} (R : X → X → Type 0) (x : X) (xs : List X) → AllPairs R (x ∷ xs) → AllPairs R xs
others R x xs pairs = λ i j d less within. pairs (suc i) (suc j) d (omega arith) (omega arith)

pub last_of : (before : List ℕ) (rows : List Row) (row : Row) → last_key before (rows ++ row ∷ []) ≡ row.key
last_of before [] row = refl
last_of before (other ∷ rows) row = last_of other.key rows row

row_of_more : (key : List ℕ) (rows : List Row) (row : Row) → row_of key (rows ++ row ∷ []) ≡ or_else (row_of key rows) (row_of key (row ∷ []))
row_of_more key [] row = refl
row_of_more key (other ∷ rows) row = either (key_eq other.key key) (row_of_more key rows row)
  where
    either : (b : Bool) → row_of key (rows ++ row ∷ []) ≡ or_else (row_of key rows) (row_of key (row ∷ []))
        → cond b (Some other) (row_of key (rows ++ row ∷ [])) ≡ or_else (cond b (Some other) (row_of key rows)) (row_of key (row ∷ []))
    either true h = refl
    either false h = h

or_else_assoc : (key : List ℕ) (o : Option Row) (row : Row) (left : List Row)
    → or_else o (find (row_has key) (row ∷ left)) ≡ or_else (or_else o (row_of key (row ∷ []))) (find (row_has key) left)
or_else_assoc key (Some r) row left = refl
or_else_assoc key None row left = either (key_eq row.key key)
  where
    either : (b : Bool) → cond b (Some row) (find (row_has key) left) ≡ or_else (cond b (Some row) None) (find (row_has key) left)
    either true = refl
    either false = refl

turned_lt : (o p : Ordering) (rest : Bool) → p ≡ ordering_reverse o → (is_lt o || (is_eq o && rest)) ≡ true → is_lt p ≡ false
turned_lt Less p rest e h = ap is_lt e
turned_lt Equal p rest e h = ap is_lt e
turned_lt Greater p rest e h = cc

-- a row behind another has no lesser key
not_below : (row other : Row) → RowPrecedes row other → key_lt other.key row.key ≡ false
not_below row other before = turned_lt (key_cmp row.key other.key) (key_cmp other.key row.key) (nat_lt other.seq row.seq) (nat_list_cmp_total.antisymm other.key row.key) before

pub adds : (all left : List Row) (row : Row) (g g' : Gathering) (h : IsGathering all (row ∷ left) g)
    → ((first last : ℕ) (rows : List Row) → HasGathered first last rows g → HasGathered first last (rows ++ row ∷ []) g') → IsGathering all left g'
adds all left row g g' h added = record {
  rows = h.rows ++ row ∷ [];
  gathered = added (least_seq all) (greatest_seq all) h.rows h.gathered;
  says = λ key. h.says key ∙ or_else_assoc key (row_of key h.rows) row left ∙ ap (λ (o : Option Row). or_else o (find (row_has key) left)) (sym (row_of_more key h.rows row));
  order = others RowPrecedes row left h.order;
  over = λ k d lt. subst (λ (last : List ℕ). key_lt (get_or left k d).key last ≡ false) (sym (last_of [] h.rows row)) (not_below row (get_or left k d) (behind RowPrecedes row left h.order k d lt));
  limits = All-tail IsRow row left h.limits;
}

both_not : (o p : Ordering) → p ≡ ordering_reverse o → is_lt o ≡ false → is_lt p ≡ false → is_eq o ≡ true
both_not Less p e one two = cc
both_not Equal p e one two = refl
both_not Greater p e one two = absurd (let f : is_lt p ≡ true = ap is_lt e in cc)

-- neither is below the other
pub same_key : (a b : List ℕ) → key_lt a b ≡ false → key_lt b a ≡ false → a ≡ b
same_key a b one two = eq_same a b (both_not (key_cmp a b) (key_cmp b a) (nat_list_cmp_total.antisymm b a) one two)

-- the last key's row was gathered
last_is_there : (before : List ℕ) (row : Row) (rows : List Row) (other : Option Row) → or_else (row_of (last_key before (row ∷ rows)) (row ∷ rows)) other ≡ row_of (last_key before (row ∷ rows)) (row ∷ rows)
last_is_there before row [] other = rw (eq_itself row.key) refl
last_is_there before row (next ∷ rows) other = either (key_eq row.key (last_key row.key (next ∷ rows))) (last_is_there row.key next rows other)
  where
    either : (b : Bool) → or_else (row_of (last_key row.key (next ∷ rows)) (next ∷ rows)) other ≡ row_of (last_key row.key (next ∷ rows)) (next ∷ rows)
        → or_else (cond b (Some row) (row_of (last_key row.key (next ∷ rows)) (next ∷ rows))) other ≡ cond b (Some row) (row_of (last_key row.key (next ∷ rows)) (next ∷ rows))
    either true h = refl
    either false h = h

there_of_last : (rows : List Row) (other : Option Row) → 1 ≤ length (last_key [] rows) → or_else (row_of (last_key [] rows) rows) other ≡ row_of (last_key [] rows) rows
there_of_last [] other h = absurd (omega arith)
there_of_last (row ∷ rows) other h = last_is_there [] row rows other

passes : (key last : List ℕ) (rows left : List Row) (row : Row) → last ≡ last_key [] rows → row.key ≡ last → 1 ≤ length row.key
    → or_else (row_of key rows) (find (row_has key) (row ∷ left)) ≡ or_else (row_of key rows) (find (row_has key) left)
passes key last rows left row is same some = either (key_eq row.key key) refl
  where
    either : (b : Bool) → key_eq row.key key ≡ b → or_else (row_of key rows) (cond b (Some row) (find (row_has key) left)) ≡ or_else (row_of key rows) (find (row_has key) left)
    either false e = refl
    either true e =
        let here : last_key [] rows ≡ key = sym is ∙ sym same ∙ eq_same row.key key e in
        let long : 1 ≤ length (last_key [] rows) = subst (λ (k : List ℕ). 1 ≤ length k) (same ∙ is) some in
        let there : (other : Option Row) → or_else (row_of key rows) other ≡ row_of key rows = λ other. subst (λ (k : List ℕ). or_else (row_of k rows) other ≡ row_of k rows) here (there_of_last rows other long) in
        there (Some row) ∙ sym (there (find (row_has key) left))

-- a row of the last key is older than the one that was gathered
pub skips : (all left : List Row) (row : Row) (g : Gathering) (h : IsGathering all (row ∷ left) g) → key_lt (key_before g.builder) row.key ≡ false → IsGathering all left g
skips all left row g h below =
    let is : key_before g.builder ≡ last_key [] h.rows = h.gathered.building.key_is in
    let over : key_lt row.key (last_key [] h.rows) ≡ false = All-head (λ (r : Row). key_lt r.key (last_key [] h.rows) ≡ false) row left h.over in
    let under : key_lt (last_key [] h.rows) row.key ≡ false = subst (λ (k : List ℕ). key_lt k row.key ≡ false) is below in
    let same : row.key ≡ last_key [] h.rows = same_key row.key (last_key [] h.rows) over under in
    let here : IsRow row = All-head IsRow row left h.limits in
    record {
      rows = h.rows;
      gathered = h.gathered;
      says = λ key. h.says key ∙ passes key (last_key [] h.rows) h.rows left row refl same here.least;
      order = others RowPrecedes row left h.order;
      over = All-tail (λ (r : Row). key_lt r.key (last_key [] h.rows) ≡ false) row left h.over;
      limits = All-tail IsRow row left h.limits;
    }

or_none : (o : Option Row) → or_else o None ≡ o
or_none None = refl
or_none (Some row) = refl

pub ends : (all : List Row) (g : Gathering) → IsGathering all [] g → GathersNewest all g
ends all g h = record {
  rows = h.rows;
  gathered = h.gathered;
  newest = record { rise = h.gathered.building.rise; says = λ key. sym (h.says key ∙ or_none (row_of key h.rows)) };
}

-- the least key behind one row more, where it was set by the first row
pub least_set : (rows : List Row) (row : Row) (least : List ℕ) → AllByRecursion IsRow rows → least ≡ first_key rows → length least ≡ 0 → row.key ≡ first_key (rows ++ row ∷ [])
least_set [] row least each is e = refl
least_set (other ∷ rows) row least each is e = absurd (omega (arith, each.0.least, ap length is))

pub least_kept : (rows : List Row) (row : Row) (least : List ℕ) → least ≡ first_key rows → 1 ≤ length least → least ≡ first_key (rows ++ row ∷ [])
least_kept [] row least is some = absurd (omega (arith, ap length is))
least_kept (other ∷ rows) row least is some = is
