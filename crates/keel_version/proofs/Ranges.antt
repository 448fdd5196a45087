-- What is near tables meets their range.
use Rattle.std.proofs.Common.{◌≡◌, ℕ, Bool, true, false, List, [], ◌∷◌, refl, sym, ap, ◌∙◌, inl, inr, ◌⊎◌}
use Rattle.std.specs.Prelude.{◌||◌, Contains}
use Rattle.std.specs.List.{list_any}
use Rattle.keel_base.specs.Keys.{key_le}
use Rattle.keel_base.proofs.KeyOrder.{le_then_le}
use Rattle.keel_edit.specs.declared.edit.Added.{Added}
use Rattle.keel_version.specs.Ranges.{IsRange, NearIsMeeting}
use Rattle.keel_version.proofs.Newest.{head_in, tail_in, in_cons, in_nil}

-- ---- some of a list

or_true : (b c : Bool) → (b || c) ≡ true → (b ≡ true) ⊎ (c ≡ true)
or_true true c h = inl refl
or_true false c h = inr h

or_left : (b c : Bool) → b ≡ true → (b || c) ≡ true
or_left b c h = rw h refl

or_right : (b c : Bool) → c ≡ true → (b || c) ≡ true
or_right true c h = refl
or_right false c h = h

any_from : (p : Added → Bool) (ts : List Added) (t : Added) → Contains ts t → p t ≡ true → list_any p ts ≡ true
any_from p [] t h passes = absurd (in_nil t h)
any_from p (u ∷ us) t h passes =
    elim (in_cons u t us h) [
      | inl same ↦ or_left (p u) (list_any p us) (ap p same ∙ passes)
      | inr later ↦ or_right (p u) (list_any p us) (any_from p us t later passes)
    ]

-- an element that passes
record Passes (p : Added → Bool) (ts : List Added) : Type 0 where
  table : Added
  stands : Contains ts table
  passes : p table ≡ true

any_some : (p : Added → Bool) (ts : List Added) → list_any p ts ≡ true → Passes p ts
any_some p [] h = absurd cc
any_some p (u ∷ us) h =
    elim (or_true (p u) (list_any p us) h) [
      | inl here ↦ record { table = u; stands = head_in u us; passes = here }
      | inr later ↦
          let found = any_some p us later in
          record { table = found.table; stands = tail_in u found.table us found.stands; passes = found.passes }
    ]

same_truth : (b c : Bool) → (b ≡ true → c ≡ true) → (c ≡ true → b ≡ true) → b ≡ c
same_truth true c to from = sym (to refl)
same_truth false true to from = from refl
same_truth false false to from = refl

-- ---- ranges

begins_by : (tables : List Added) (least greatest key : List ℕ) → IsRange tables least greatest → list_any (λ t. key_le t.least key) tables ≡ key_le least key
begins_by tables least greatest key range =
    same_truth (list_any (λ t. key_le t.least key) tables) (key_le least key)
    (λ some.
    let found = any_some (λ t. key_le t.least key) tables some in
    le_then_le least found.table.least key (range.from found.table found.stands) found.passes)
    (λ below. any_from (λ t. key_le t.least key) tables range.first range.begins (ap (λ (k : List ℕ). key_le k key) range.least_is ∙ below))

ends_from : (tables : List Added) (least greatest key : List ℕ) → IsRange tables least greatest → list_any (λ t. key_le key t.greatest) tables ≡ key_le key greatest
ends_from tables least greatest key range =
    same_truth (list_any (λ t. key_le key t.greatest) tables) (key_le key greatest)
    (λ some.
    let found = any_some (λ t. key_le key t.greatest) tables some in
    le_then_le key found.table.greatest greatest found.passes (range.upto found.table found.stands))
    (λ below. any_from (λ t. key_le key t.greatest) tables range.last range.ends (ap (key_le key) range.greatest_is ∙ below))

pub near_is_meeting : NearIsMeeting
near_is_meeting tables least greatest table range =
    rw (begins_by tables least greatest table.greatest range, ends_from tables least greatest table.least range) refl
