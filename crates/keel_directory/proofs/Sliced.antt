-- What is left of a slice from an index on.
use Rattle.std.proofs.Common.{◌≡◌, ℕ, zero, suc, ◌+◌, ◌-◌, ◌<◌, ◌≤◌, List, [], ◌∷◌, length, take, drop, get_or, refl, sym, ap, ◌∙◌, arith, add-one, length-drop}
use Rattle.std.proofs.lemmas.List.{take_all}
use Rattle.std.proofs.Math.Seq.{drop-cons}

-- the items from an index on are the one there and those behind it
pub next_item : {A : Type 0} (items : List A) (i : ℕ) (item : A) → i < length items → item ≡ get_or items i item → drop i items ≡ item ∷ drop (i + 1) items
next_item items i item lt is = rw add-one (drop-cons items i item lt ∙ ap (λ x. x ∷ drop (suc i) items) (sym is))

pub none_behind : {A : Type 0} (items : List A) (i : ℕ) → length items ≤ i → drop i items ≡ []
none_behind [] zero h = refl
none_behind [] (suc i) h = refl
none_behind (item ∷ items) zero h = absurd (omega (arith, h))
none_behind (item ∷ items) (suc i) h = none_behind items i (omega (arith, h))

pub rest_whole : {A : Type 0} (items : List A) (left : ℕ) → drop left items ≡ take (length items - left) (drop left items)
rest_whole items left = sym (take_all (length items - left) (drop left items) (omega (arith, length-drop left items)))

-- the items from the one before an index on are that one and those from the index on
pub item_before : {A : Type 0} (items : List A) (left : ℕ) (item : A) → 0 < left → left ≤ length items → item ≡ get_or items (left - 1) item
    → drop (left - 1) items ≡ item ∷ take (length items - left) (drop left items)
item_before items left item some within is =
    let back : left - 1 + 1 ≡ left = omega (arith, some) in
    next_item items (left - 1) item (omega (arith, some, within)) is ∙ ap (λ n. item ∷ drop n items) back ∙ ap (λ rest. item ∷ rest) (rest_whole items left)
