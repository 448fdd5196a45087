-- Tables that aren't refused are all there and open.
use Rattle.std.proofs.Common.{◌≡◌, ℕ, Bool, true, false, cond, ltb, List, [], ◌∷◌, Option, Some, None, Result, Ok, Err, refl, sym, ap, ◌∙◌, ◌⊎◌, inl, inr}
use Rattle.std.specs.Prelude.{is_some, is_none}
use Rattle.std.specs.List.{AllByRecursion}
use Rattle.keel_disk.specs.Directory.{Named}
use Rattle.keel_edit.specs.declared.edit.Added.{Added}
use Rattle.keel_table.specs.Opening.{Damage, Opened}
use Rattle.keel_directory.specs.Refusals.{Refusal}
use Rattle.keel_directory.specs.TableFiles.{TableFile, open_sized, damage_of, damage_in, bytes_of, lesser, least, damage_refused, refused_for_damage, refused_for_missing, refusal_of, Opens, AllOpen}

abbrev no_table : Option Added
no_table = None

abbrev this_table : Added → Option Added
this_table t = Some t

never_none : (t : Added) (found : Option Added) → lesser t found ≡ no_table → ⊥
never_none t None = λ e. cc
never_none t (Some other) = elim (ltb other.number t.number) as (λ b. cond b (this_table other) (this_table t) ≡ no_table → ⊥) [
  | true ↦ λ e. cc
  | false ↦ λ e. cc
]

split_none : (b : Bool) (t : Added) (found : Option Added) → cond b (lesser t found) found ≡ no_table → (b ≡ false) × (found ≡ no_table)
split_none true t found e = absurd (never_none t found e)
split_none false t found e = (refl, e)

-- no table is found where the least of those found is none
none_found : (finds : Added → Bool) (tables : List Added) → least finds tables ≡ None → AllByRecursion (λ t. finds t ≡ false) tables
none_found finds [] e = tt
none_found finds (t ∷ tables) e =
    let split = split_none (finds t) t (least finds tables) e in
    (split.0, none_found finds tables split.1)

one_of : (t : Added) (found : Option Added) (x : Added) → lesser t found ≡ this_table x → (x ≡ t) ⊎ (found ≡ this_table x)
one_of t None x = λ e. inl cc
one_of t (Some other) x = elim (ltb other.number t.number) as (λ b. cond b (this_table other) (this_table t) ≡ this_table x → (x ≡ t) ⊎ (this_table other ≡ this_table x)) [
  | true ↦ λ e. inr e
  | false ↦ λ e. inl cc
]

split_some : (b : Bool) (t x : Added) (found : Option Added) → cond b (lesser t found) found ≡ this_table x → ((b ≡ true) × (x ≡ t)) ⊎ (found ≡ this_table x)
split_some true t x found e =
    elim (one_of t found x e) [
      | inl here ↦ inl (refl, here)
      | inr there ↦ inr there
    ]
split_some false t x found e = inr e

-- the least of the tables that are found is found
least_is_found : (finds : Added → Bool) (tables : List Added) (x : Added) → least finds tables ≡ this_table x → finds x ≡ true
least_is_found finds [] x e = cc
least_is_found finds (t ∷ tables) x e =
    elim (split_some (finds t) t x (least finds tables) e) [
      | inl here ↦ ap finds here.1 ∙ here.0
      | inr there ↦ least_is_found finds tables x there
    ]

-- ---- no refusal

abbrev no_refusal : Option Refusal
no_refusal = None

none_missing : (found : Option Added) (other : Option Refusal) → refused_for_missing found other ≡ no_refusal → (found ≡ None) × (other ≡ no_refusal)
none_missing None other e = (refl, e)
none_missing (Some t) other e = absurd cc

undamaged : (number : ℕ) (damage : Option Damage) → damage_refused number damage ≡ no_refusal → is_some damage ≡ false
undamaged number None e = refl
undamaged number (Some damage) e = absurd cc

abbrev is_damaged : Named (List ℕ) → Added → Bool
is_damaged image t = is_some (damage_in t.size (bytes_of image t))

none_damaged : (image : Named (List ℕ)) (tables : List Added) (found : Option Added) → least (is_damaged image) tables ≡ found → refused_for_damage image found ≡ no_refusal → found ≡ None
none_damaged image tables None is e = refl
none_damaged image tables (Some t) is e =
    let yes : is_damaged image t ≡ true = least_is_found (is_damaged image) tables t is in
    let no : is_damaged image t ≡ false = undamaged t.number (damage_in t.size (bytes_of image t)) e in
    absurd (let both : true ≡ false = sym yes ∙ no in cc)

-- ---- opening

opens_file : (image : Named (List ℕ)) (t : Added) (bytes : List ℕ) (file : Result Opened Damage) → bytes_of image t ≡ Some bytes → open_sized t.size bytes ≡ file → is_some (damage_of file) ≡ false → (f : TableFile) × Opens image t f
opens_file image t bytes (Ok file) there opens whole = (record { entry = t; bytes = bytes; file = file }, record { entry = refl; there = there; opens = opens })
opens_file image t bytes (Err damage) there opens whole = absurd cc

opens_one : (image : Named (List ℕ)) (t : Added) (bytes : Option (List ℕ)) → bytes_of image t ≡ bytes → is_none bytes ≡ false → is_some (damage_in t.size bytes) ≡ false → (f : TableFile) × Opens image t f
opens_one image t None is there whole = absurd cc
opens_one image t (Some bytes) is there whole = opens_file image t bytes (open_sized t.size bytes) is refl whole

open_each : (image : Named (List ℕ)) (tables : List Added) → AllByRecursion (λ t. is_none (bytes_of image t) ≡ false) tables → AllByRecursion (λ t. is_damaged image t ≡ false) tables
    → (files : List TableFile) × AllOpen image tables files
open_each image [] there whole = ([], tt)
open_each image (t ∷ tables) there whole =
    let first = opens_one image t (bytes_of image t) refl there.0 whole.0 in
    let rest = open_each image tables there.1 whole.1 in
    (first.0 ∷ rest.0, (first.1, rest.1))

-- tables of which none is refused open
pub all_open : (image : Named (List ℕ)) (tables : List Added) → refusal_of image tables ≡ None → (files : List TableFile) × AllOpen image tables files
all_open image tables e =
    let split = none_missing (least (λ t. is_none (bytes_of image t)) tables) (refused_for_damage image (least (is_damaged image) tables)) e in
    let whole = none_damaged image tables (least (is_damaged image) tables) refl split.1 in
    open_each image tables (none_found (λ t. is_none (bytes_of image t)) tables split.0) (none_found (is_damaged image) tables whole)
