-- The entry that covers a key, found by halving.
use Rattle.std.proofs.Common.{◌≡◌, ℕ, zero, suc, ◌+◌, ◌-◌, ◌<◌, ◌≤◌, Bool, true, false, List, [], ◌∷◌, length, get_or, take, Option, Some, None, Ok, Result, refl, sym, ap, subst, ◌∙◌, arith, inl, inr}
use Rattle.std.specs.Prelude.{◌&&◌, ◌==◌, slice_get, IfOk}
use Rattle.std.proofs.lemmas.Bool.{cases_lt}
use Rattle.keel_base.specs.Keys.{key_lt}
use Rattle.keel_fields.specs.Reading.{◌>>=◌}
use Rattle.keel_fields.proofs.Fields.{bind_ok, check_ok, ok_is}
use Rattle.keel_table.specs.declared.index.BlockEntry.{BlockEntry}
use Rattle.keel_table.specs.Fields.{entry_fits, next_entry_at, entries_at, in_order}
use Rattle.keel_base.specs.declared.row.Row.{Row}
use Rattle.keel_disk.specs.Told.{Told}
use Rattle.keel_table.specs.declared.fault.TableFault.{TableFault}
use Rattle.keel_table.specs.Answers.{Answers, BlockAnswers, GetAnswers}
use Rattle.keel_table.specs.Blocks.{FitEntry, FitCovering}
use Rattle.keel_table.specs.Opening.{Covering, last_key_of, nth_entry, covering, block_found, row_found}
use Rattle.keel_table.specs.Walking.{row_among}
use Rattle.keel_table.proofs.Loops.{taken_entry, both_hold}
use Rattle.keel_base.proofs.KeyOrder.{lt_then_lt, lt_then_not_lt}

-- ---- entries in order

both_true : (b c : Bool) → b ≡ true → c ≡ true → (b && c) ≡ true
both_true b c p q = rw (p, q) refl

-- entries that were read are in order, and as many as were asked for
pub entries_listed : (index n offset : ℕ) (before : Option (List ℕ)) (bytes : List ℕ) (es : List BlockEntry) → entries_at index n offset before bytes ≡ Ok es
    → (in_order index offset before es ≡ true) × (length es ≡ n)
unfolding entries_at next_entry_at
entries_listed index zero offset before bytes es h =
    let g = check_ok ((length bytes == 0) && (offset == index)) (length bytes) [] es h in
    subst (λ (xs : List BlockEntry). (in_order index offset before xs ≡ true) × (length xs ≡ 0)) g.1 ((both_hold _ _ g.0).1, refl)
entries_listed index (suc n) offset before bytes es h =
    let a = bind_ok (next_entry_at index offset before bytes) (λ e. entries_at index n (offset + (e.0.size + 4)) (Some e.0.last) e.1 >>= λ others. Ok (e.0 ∷ others)) es h in
    let b = bind_ok (entries_at index n (offset + (a.0.0.size + 4)) (Some a.0.0.last) a.0.1) (λ others. Ok (a.0.0 ∷ others)) es a.2 in
    let t = taken_entry (length bytes) index offset before _ a.0 a.1 in
    let rest = entries_listed index n (offset + (a.0.0.size + 4)) (Some a.0.0.last) a.0.1 b.0 b.1 in
    let made : List BlockEntry = a.0.0 ∷ b.0 in
    subst (λ (xs : List BlockEntry). (in_order index offset before xs ≡ true) × (length xs ≡ suc n)) (ok_is made es b.2) (both_true _ _ t.1 rest.0, ap suc rest.1)

abbrev found : BlockEntry → Option BlockEntry
found x = Some x

entry_is : (x y : BlockEntry) → found x ≡ found y → x ≡ y
entry_is x y e = cc

no_entry : (x : BlockEntry) → found x ≡ (let none : Option BlockEntry = None in none) → ⊥
no_entry x e = cc

-- the keys behind one are over it
over : (index offset : ℕ) (key : List ℕ) (es : List BlockEntry) (k : ℕ) (x : BlockEntry) → in_order index offset (Some key) es ≡ true → found x ≡ slice_get es k → key_lt key x.last ≡ true
over index offset key [] k x h e = absurd (no_entry x e)
over index offset key (first ∷ es) zero x h e =
    let fits = both_hold (entry_fits index offset (Some key) first) _ h in
    subst (λ (y : BlockEntry). key_lt key y.last ≡ true) (sym (entry_is x first e)) (both_hold _ _ (both_hold _ _ fits.0).1).1
over index offset key (first ∷ es) (suc k) x h e =
    let fits = both_hold (entry_fits index offset (Some key) first) _ h in
    lt_then_lt key first.last x.last ((both_hold _ _ (both_hold _ _ fits.0).1).1) (over index (offset + (first.size + 4)) first.last es k x fits.1 e)

-- the last keys rise
pub rising : (index offset : ℕ) (before : Option (List ℕ)) (es : List BlockEntry) (k m : ℕ) (x y : BlockEntry) → in_order index offset before es ≡ true → k < m
    → found x ≡ slice_get es k → found y ≡ slice_get es m → key_lt x.last y.last ≡ true
rising index offset before [] k m x y h lt e f = absurd (no_entry x e)
rising index offset before (first ∷ es) k zero x y h lt e f = absurd (omega (arith, lt))
rising index offset before (first ∷ es) zero (suc m) x y h lt e f =
    let fits = both_hold (entry_fits index offset before first) _ h in
    subst (λ (z : BlockEntry). key_lt z.last y.last ≡ true) (sym (entry_is x first e)) (over index (offset + (first.size + 4)) first.last es m y fits.1 f)
rising index offset before (first ∷ es) (suc k) (suc m) x y h lt e f =
    let fits = both_hold (entry_fits index offset before first) _ h in
    rising index (offset + (first.size + 4)) (Some first.last) es k m x y fits.1 (omega (arith, lt)) e f

-- ---- halving

-- the entries before an offset are below a key
abbrev pub AreBelow : List BlockEntry → List ℕ → ℕ → Type 0
AreBelow es key n = (k : ℕ) (e : BlockEntry) → k < n → found e ≡ slice_get es k → key_lt e.last key ≡ true

-- the entries from an offset on aren't
abbrev pub AreNotBelow : List BlockEntry → List ℕ → ℕ → Type 0
AreNotBelow es key n = (k : ℕ) (e : BlockEntry) → n ≤ k → found e ≡ slice_get es k → key_lt e.last key ≡ false

pub below_through : (index : ℕ) (es : List BlockEntry) (key : List ℕ) (middle : ℕ) (e : BlockEntry) → in_order index 0 None es ≡ true → found e ≡ slice_get es middle → key_lt e.last key ≡ true → AreBelow es key (middle + 1)
below_through index es key middle e order at below k x lt h =
    elim (cases_lt k middle) [
      | inl before ↦ lt_then_lt x.last e.last key (rising index 0 None es k middle x e order before h at) below
      | inr behind ↦
          let same : k ≡ middle = omega (arith, behind, lt) in
          subst (λ (y : BlockEntry). key_lt y.last key ≡ true) (entry_is e x (at ∙ ap (slice_get es) (sym same) ∙ sym h)) below
    ]

pub not_below_from : (index : ℕ) (es : List BlockEntry) (key : List ℕ) (middle : ℕ) (e : BlockEntry) → in_order index 0 None es ≡ true → found e ≡ slice_get es middle → key_lt e.last key ≡ false → AreNotBelow es key middle
not_below_from index es key middle e order at over k x le h =
    elim (cases_lt middle k) [
      | inl behind ↦ lt_then_not_lt e.last x.last key (rising index 0 None es middle k e x order behind at h) over
      | inr there ↦
          let same : k ≡ middle = omega (arith, there, le) in
          subst (λ (y : BlockEntry). key_lt y.last key ≡ false) (entry_is e x (at ∙ ap (slice_get es) (sym same) ∙ sym h)) over
    ]

pub past_end : (es : List BlockEntry) (key : List ℕ) → AreNotBelow es key (length es)
past_end [] key k e le h = absurd (no_entry e h)
past_end (first ∷ es) key zero e le h = absurd (omega (arith, le))
past_end (first ∷ es) key (suc k) e le h = past_end es key k e (omega (arith, le)) h

-- ---- what is found

pub nth_is : (before : List ℕ) (es : List BlockEntry) (i : ℕ) (e : BlockEntry) → found e ≡ slice_get es i → nth_entry before es i ≡ Some (last_key_of before (take i es), e)
nth_is before [] i e h = absurd (no_entry e h)
nth_is before (first ∷ es) zero e h = ap (λ (x : BlockEntry). Some (before, x)) (sym (entry_is e first h))
nth_is before (first ∷ es) (suc i) e h = nth_is first.last es i e h

pub covers : (before : List ℕ) (es : List BlockEntry) (key : List ℕ) (i : ℕ) (e : BlockEntry) → AreBelow es key i → found e ≡ slice_get es i → key_lt e.last key ≡ false
    → covering before es key ≡ Some (last_key_of before (take i es), e)
covers before [] key i e below h over = absurd (no_entry e h)
covers before (first ∷ es) key zero e below h over =
    let is : e ≡ first = entry_is e first h in
    let test : key_lt first.last key ≡ false = subst (λ (x : BlockEntry). key_lt x.last key ≡ false) is over in
    rw test (ap (λ (x : BlockEntry). Some (before, x)) (sym is))
covers before (first ∷ es) key (suc i) e below h over =
    let test : key_lt first.last key ≡ true = below 0 first (omega arith) refl in
    rw test (covers first.last es key i e (λ k x lt g. below (suc k) x (omega (arith, lt)) g) h over)

pub covers_none : (before : List ℕ) (es : List BlockEntry) (key : List ℕ) (i : ℕ) → AreBelow es key i → length es ≤ i → covering before es key ≡ None
covers_none before [] key i below le = refl
covers_none before (first ∷ es) key zero below le = absurd (omega (arith, le))
covers_none before (first ∷ es) key (suc i) below le =
    let test : key_lt first.last key ≡ true = below 0 first (omega arith) refl in
    rw test (covers_none first.last es key i (λ k x lt g. below (suc k) x (omega (arith, lt)) g) (omega (arith, le)))

last_behind : (n : ℕ) (first : BlockEntry) (es : List BlockEntry) (e : BlockEntry) → n ≡ length es → found e ≡ slice_get (first ∷ es) n → e.last ≡ last_key_of first.last es
last_behind n first [] e is h = ap (λ (x : BlockEntry). x.last) (entry_is e first (h ∙ ap (slice_get (first ∷ [])) is))
last_behind n first (next ∷ es) e is h = last_behind (length es) next es e refl (h ∙ ap (slice_get (first ∷ next ∷ es)) is)

pub last_one : (before : List ℕ) (es : List BlockEntry) (e : BlockEntry) → found e ≡ slice_get es (length es - 1) → e.last ≡ last_key_of before es
last_one before [] e h = absurd (no_entry e h)
last_one before (first ∷ es) e h = last_behind (length es) first es e refl (h ∙ ap (slice_get (first ∷ es)) (omega arith))

-- the entry at an index
pub at_index : (es : List BlockEntry) (i : ℕ) (e d : BlockEntry) → i < length es → e ≡ get_or es i d → found e ≡ slice_get es i
at_index [] i e d lt is = absurd (omega (arith, lt))
at_index (first ∷ es) zero e d lt is = ap found is
at_index (first ∷ es) (suc i) e d lt is = at_index es i e d (omega (arith, lt)) is

-- ---- what blocks and rows are answered

abbrev pair : List ℕ → BlockEntry → Covering
pair before e = (before, e)

pub block_answered : (es : List BlockEntry) (i : ℕ) (before : List ℕ) (e d : BlockEntry) (number : ℕ) (told : Option Told) (result : Result (List Row) TableFault) → i < length es → e ≡ get_or es i d
    → before ≡ last_key_of [] (take i es) → Answers (λ (rows : List Row). rows) (block_found before e) number told result → BlockAnswers (nth_entry [] es i) number told result
block_answered es i before e d number told result lt is key h =
    let nth : nth_entry [] es i ≡ Some (pair before e) = nth_is [] es i e (at_index es i e d lt is) ∙ ap (λ (k : List ℕ). Some (pair k e)) (sym key) in
    subst (λ (c : Option Covering). BlockAnswers c number told result) (sym nth) h

pub block_fits : (es : List BlockEntry) (i : ℕ) (before : List ℕ) (e d : BlockEntry) (result : Result (List Row) TableFault) → i < length es → e ≡ get_or es i d
    → before ≡ last_key_of [] (take i es) → IfOk result (FitEntry before e) → IfOk result (FitCovering (nth_entry [] es i))
block_fits es i before e d result lt is key h =
    let nth : nth_entry [] es i ≡ Some (pair before e) = nth_is [] es i e (at_index es i e d lt is) ∙ ap (λ (k : List ℕ). Some (pair k e)) (sym key) in
    subst (λ (c : Option Covering). IfOk result (FitCovering c)) (sym nth) h

pub none_answered : (es : List BlockEntry) (i : ℕ) (key : List ℕ) (number : ℕ) (told : Option Told) → AreBelow es key i → length es ≤ i → GetAnswers (covering [] es key) key number told (Ok None)
none_answered es i key number told below le = subst (λ (c : Option Covering). GetAnswers c key number told (Ok None)) (sym (covers_none [] es key i below le)) refl

covered : (es : List BlockEntry) (i : ℕ) (before key : List ℕ) (e d : BlockEntry) → AreBelow es key i → AreNotBelow es key i → i < length es → e ≡ get_or es i d → before ≡ last_key_of [] (take i es)
    → covering [] es key ≡ Some (pair before e)
covered es i before key e d below from lt is at =
    let here : found e ≡ slice_get es i = at_index es i e d lt is in
    covers [] es key i e below here (from i e (omega arith) here) ∙ ap (λ (k : List ℕ). Some (pair k e)) (sym at)

pub row_answered : (es : List BlockEntry) (i : ℕ) (before key : List ℕ) (e d : BlockEntry) (number : ℕ) (told : Option Told) (result : Result (Option Row) TableFault) → AreBelow es key i → AreNotBelow es key i → i < length es
    → e ≡ get_or es i d → before ≡ last_key_of [] (take i es) → Answers (λ (row : Option Row). row) (λ bytes. row_among key (block_found before e bytes)) number told result → GetAnswers (covering [] es key) key number told result
unfolding row_found
row_answered es i before key e d number told result below from lt is at h =
    subst (λ (c : Option Covering). GetAnswers c key number told result) (sym (covered es i before key e d below from lt is at)) h
