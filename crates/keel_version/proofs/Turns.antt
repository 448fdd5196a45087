-- Entries in turn, as a loop takes them.
use Rattle.std.proofs.Common.{◌≡◌, ℕ, suc, ◌+◌, ◌<◌, ◌≤◌, List, [], ◌∷◌, length, get_or, drop, Option, Some, None, Result, Ok, Err, refl, sym, ap, subst, ◌∙◌, arith, add-one, drop-cons, length-drop}
use Rattle.std.proofs.lemmas.List.{nil_from_length}
use Rattle.keel_edit.specs.declared.edit.Added.{Added}
use Rattle.std.specs.Prelude.{Bool, true, false, position, remove}
use Rattle.keel_edit.specs.declared.edit.Removed.{Removed}
use Rattle.keel_version.specs.Applying.{each_fits, is_named, without, take_off, put_on, Puts}

-- the list from a place on begins with the element at that place
drop_is : {E : Type 0} (es : List E) (i : ℕ) (d e : E) → i < length es → get_or es i d ≡ e → drop i es ≡ e ∷ drop (i + 1) es
drop_is {E} es i d e lt is =
    rw (add-one) (drop-cons es i d lt ∙ ap (λ (x : E). x ∷ drop (suc i) es) is)

-- an entry that fits
pub fits : {E : Type 0} (change : E → List Added → Option (List Added)) (first i : ℕ) (es : List E) (d e : E) (tables after : List Added) (total : Result (List Added) ℕ)
    → i < length es → get_or es i d ≡ e → change e tables ≡ Some after
    → each_fits change (first + i) (drop i es) tables ≡ total → each_fits change (first + (i + 1)) (drop (i + 1) es) after ≡ total
unfolding each_fits
fits change first i es d e tables after total lt is fit so_far =
    let split : drop i es ≡ e ∷ drop (i + 1) es = drop_is es i d e lt is in
    let number : first + i + 1 ≡ first + (i + 1) = omega arith in
    let step : each_fits change (first + i) (drop i es) tables ≡ each_fits change (first + i + 1) (drop (i + 1) es) after = rw (split, fit) refl in
    subst (λ (n : ℕ). each_fits change n (drop (i + 1) es) after ≡ total) number (sym step ∙ so_far)

-- an entry that doesn't fit
pub ends : {E : Type 0} (change : E → List Added → Option (List Added)) (first i : ℕ) (es : List E) (d e : E) (tables : List Added) (total : Result (List Added) ℕ)
    → i < length es → get_or es i d ≡ e → change e tables ≡ None
    → each_fits change (first + i) (drop i es) tables ≡ total → total ≡ Err (first + i)
unfolding each_fits
ends change first i es d e tables total lt is none so_far =
    let split : drop i es ≡ e ∷ drop (i + 1) es = drop_is es i d e lt is in
    let step : each_fits change (first + i) (drop i es) tables ≡ Err (first + i) = rw (split, none) refl in
    sym so_far ∙ step

-- no entry is left
pub is_done : {E : Type 0} (change : E → List Added → Option (List Added)) (first i : ℕ) (es : List E) (tables : List Added) (total : Result (List Added) ℕ)
    → length es ≤ i → each_fits change (first + i) (drop i es) tables ≡ total → total ≡ Ok tables
unfolding each_fits
is_done change first i es tables total le so_far =
    let nothing : drop i es ≡ [] = nil_from_length (drop i es) (omega (arith, length-drop i es)) in
    let step : each_fits change (first + i) (drop i es) tables ≡ Ok tables = rw nothing refl in
    sym so_far ∙ step

-- a table that goes, found at a place or not
pub taken_off : (r : Removed) (tables seen after : List Added) (place : ℕ) → seen ≡ tables → Some place ≡ position (is_named r) seen → after ≡ remove tables place → take_off r tables ≡ Some after
taken_off r tables seen after place same found is =
    let here : position (is_named r) tables ≡ Some place = rw (← same) (sym found) in
    ap (without tables) here ∙ ap (λ (left : List Added). Some left) (sym is)

pub not_there : (r : Removed) (tables seen : List Added) → seen ≡ tables → None ≡ position (is_named r) seen → take_off r tables ≡ None
not_there r tables seen same found =
    let here : position (is_named r) tables ≡ None = rw (← same) (sym found) in
    ap (without tables) here

-- a table that comes, put on or not
pub was_put : (a : Added) (before after : List Added) (b : Bool) → Puts a before after (Ok b) → b ≡ true → put_on a before ≡ Some after
was_put a before after true h is = h
was_put a before after false h is = absurd cc

pub was_not_put : (a : Added) (before after : List Added) (b : Bool) → Puts a before after (Ok b) → b ≡ false → put_on a before ≡ None
was_not_put a before after true h is = absurd cc
was_not_put a before after false h is = h
