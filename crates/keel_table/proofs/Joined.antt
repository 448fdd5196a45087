-- The rows of blocks, joined in their order.
use Rattle.std.proofs.Common.{◌≡◌, ℕ, zero, suc, true, take, refl, arith, List, [], ◌∷◌, ◌++◌, length, subst, sym}
use Rattle.std.specs.List.{AllByRecursion}
use Rattle.keel_base.specs.declared.row.Row.{Row}
use Rattle.keel_base.specs.Keys.{key_lt}
use Rattle.keel_table.specs.declared.index.BlockEntry.{BlockEntry}
use Rattle.keel_base.specs.Rows.{IsRow}
use Rattle.keel_table.specs.Spelling.{Ascend, last_key, rows_of}
use Rattle.keel_table.specs.Opening.{nth_entry}
use Rattle.keel_table.specs.Blocks.{FitCovering, FitEntries, IsBelow, BlocksAscend}
use Rattle.keel_table.proofs.Searching.{AreBelow}
use Rattle.keel_table.proofs.Opens.{below_last}

all_joined : {A : Type 0} (P : A → Type 0) (xs ys : List A) → AllByRecursion P xs → AllByRecursion P ys → AllByRecursion P (xs ++ ys)
all_joined P [] ys h k = k
all_joined P (x ∷ xs) ys h k = (h.0, all_joined P xs ys h.1 k)

ascend_joined : (before : List ℕ) (xs ys : List Row) → Ascend before xs → Ascend (last_key before xs) ys → Ascend before (xs ++ ys)
ascend_joined before [] ys h k = k
ascend_joined before (x ∷ xs) ys h k = (h.0, ascend_joined x.key xs ys h.1 k)

more : (before : List ℕ) (blocks : List (List Row)) (entries : List BlockEntry) (block : List Row) → FitEntries before blocks entries
    → FitCovering (nth_entry before entries (length blocks)) block → FitEntries before (blocks ++ block ∷ []) entries
more before [] [] block h k = absurd k
more before [] (e ∷ es) block h k = (k, tt)
more before (first ∷ blocks) [] block h k = absurd h
more before (first ∷ blocks) (e ∷ es) block h k = (h.0, more e.last blocks es block h.1 k)

each : (before : List ℕ) (blocks : List (List Row)) (entries : List BlockEntry) → FitEntries before blocks entries → AllByRecursion IsRow (rows_of blocks)
each before [] entries h = tt
each before (block ∷ blocks) [] h = absurd h
each before (block ∷ blocks) (e ∷ es) h = all_joined IsRow block (rows_of blocks) h.0.each (each e.last blocks es h.1)

rise : (before : List ℕ) (blocks : List (List Row)) (entries : List BlockEntry) → FitEntries before blocks entries → Ascend before (rows_of blocks)
rise before [] entries h = tt
rise before (block ∷ blocks) [] h = absurd h
rise before (block ∷ blocks) (e ∷ es) h =
    let P : List ℕ → Type 0 = λ key. Ascend key (rows_of blocks) in
    let behind : P (last_key before block) = subst P (sym h.0.last) (rise e.last blocks es h.1) in
    ascend_joined before block (rows_of blocks) h.0.rise behind

-- ---- rows before an offset

block_below : (before : List ℕ) (rows : List Row) (key : List ℕ) → Ascend before rows → key_lt (last_key before rows) key ≡ true → AllByRecursion (IsBelow key) rows
block_below before [] key h lt = tt
block_below before (row ∷ rows) key h lt = (below_last key row rows h.1 lt, block_below row.key rows key h.1 lt)

pub rows_below : (n : ℕ) (before : List ℕ) (blocks : List (List Row)) (entries : List BlockEntry) (key : List ℕ) → FitEntries before blocks entries → AreBelow entries key n
    → AllByRecursion (IsBelow key) (rows_of (take n blocks))
rows_below zero before [] entries key h below = tt
rows_below zero before (block ∷ blocks) entries key h below = tt
rows_below (suc n) before [] entries key h below = tt
rows_below (suc n) before (block ∷ blocks) [] key h below = absurd h
rows_below (suc n) before (block ∷ blocks) (e ∷ es) key h below =
    let here : key_lt e.last key ≡ true = below 0 e (omega arith) refl in
    let last : key_lt (last_key before block) key ≡ true = subst (λ (k : List ℕ). key_lt k key ≡ true) (sym h.0.last) here in
    all_joined (IsBelow key) block (rows_of (take n blocks)) (block_below before block key h.0.rise last)
    (rows_below n e.last blocks es key h.1 (λ k x lt g. below (suc k) x (omega (arith, lt)) g))

pub blocks_ascend : BlocksAscend
blocks_ascend = record { more = more; each = each; rise = rise }
