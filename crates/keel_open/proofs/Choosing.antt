-- The damaged table of the least number, chosen table by table.
use Rattle.std.proofs.Common.{◌≡◌, ℕ, Bool, true, false, cond, ltb, List, ◌∷◌, Option, Some, None, Ok, Err, refl, sym, ap, subst, ◌∙◌}
use Rattle.std.specs.Prelude.{is_some}
use Rattle.keel_disk.specs.Directory.{Named}
use Rattle.keel_disk.specs.Plain.{image_read}
use Rattle.keel_disk.specs.Told.{Told}
use Rattle.keel_edit.specs.declared.edit.Added.{Added}
use Rattle.keel_table.specs.declared.fault.TableFault.{TableFault}
use Rattle.keel_table.specs.declared.fault.TableFault.TheVariants as fault
use Rattle.keel_directory.specs.TableFiles.{lesser, least}
use Rattle.keel_open.specs.declared.refusal.OpenRefusal.{OpenRefusal}
use Rattle.keel_open.specs.declared.tables.DamagedTable.{DamagedTable}
use Rattle.keel_open.specs.TableAnswers.{damage_read, is_damaged, DamageIs, DamageTells, LeastDamaged, ChosenTells, DamagedTell, is_below, with_damage}

-- where a table isn't damaged the choice stays
undamaged : (image : Named (List ℕ)) (t : Added) (rest : List Added) → damage_read image t ≡ None → least (is_damaged image) (t ∷ rest) ≡ least (is_damaged image) rest
undamaged image t rest e = let no : is_damaged image t ≡ false = ap is_some e in rw no refl

stays : (image : Named (List ℕ)) (t : Added) (rest : List Added) (found : Option DamagedTable) → damage_read image t ≡ None → LeastDamaged image rest found → LeastDamaged image (t ∷ rest) found
stays image t rest None e h = undamaged image t rest e ∙ h
stays image t rest (Some found) e h = record { entry = h.entry; least_is = undamaged image t rest e ∙ h.least_is; number_is = h.number_is; damage_is = h.damage_is }

-- where the chosen one has a lesser number it stays
passed : (b : Bool) (t entry : Added) → ltb entry.number t.number ≡ true → cond b (lesser t (Some entry)) (Some entry) ≡ Some entry
passed true t entry below = rw below refl
passed false t entry below = refl

pub below_stays : (told : Option Told) (t : Added) (rest : List Added) (found : Option DamagedTable) → is_below found t.number ≡ true → ChosenTells told rest found → ChosenTells told (t ∷ rest) found
below_stays None t rest found below h = tt
below_stays (Some told) t rest None below h = absurd cc
below_stays (Some told) t rest (Some found) below h =
    let image = image_read told.state in
    let under : ltb h.entry.number t.number ≡ true = subst (λ (n : ℕ). ltb n t.number ≡ true) (sym h.number_is) below in
    record {
      entry = h.entry;
      least_is = ap (λ (other : Option Added). cond (is_damaged image t) (lesser t other) other) h.least_is ∙ passed (is_damaged image t) t h.entry under;
      number_is = h.number_is;
      damage_is = h.damage_is;
    }

-- a damaged table of a number that isn't greater is chosen
damaged_is : (image : Named (List ℕ)) (t : Added) (f : TableFault) → DamageIs image t (Some f) → is_damaged image t ≡ true
damaged_is image t (fault.Device f) h = absurd h
damaged_is image t fault.Absent h = absurd h
damaged_is image t (fault.BadCheck stored computed) h = ap is_some h
damaged_is image t (fault.BadShape at) h = ap is_some h
damaged_is image t fault.OutOfMemory h = absurd h

lesser_is : (image : Named (List ℕ)) (t : Added) (rest : List Added) (found : Option DamagedTable) → is_below found t.number ≡ false → LeastDamaged image rest found → lesser t (least (is_damaged image) rest) ≡ Some t
lesser_is image t rest None below h = ap (lesser t) h
lesser_is image t rest (Some found) below h =
    let over : ltb h.entry.number t.number ≡ false = subst (λ (n : ℕ). ltb n t.number ≡ false) (sym h.number_is) below in
    ap (lesser t) h.least_is ∙ rw over refl

chosen : (image : Named (List ℕ)) (t : Added) (rest : List Added) (found : Option DamagedTable) (f : TableFault) → is_below found t.number ≡ false → DamageIs image t (Some f) → LeastDamaged image rest found
    → LeastDamaged image (t ∷ rest) (Some (record { number = t.number; fault = f }))
chosen image t rest found f below damage h =
    let yes : is_damaged image t ≡ true = damaged_is image t f damage in
    record { entry = t; least_is = rw yes (lesser_is image t rest found below h); number_is = refl; damage_is = damage }

pub with_table_tells : (told : Option Told) (t : Added) (rest : List Added) (found : Option DamagedTable) (damage : Option TableFault) → is_below found t.number ≡ false → DamageTells told t (Ok damage) → ChosenTells told rest found
    → ChosenTells told (t ∷ rest) (with_damage t.number damage found)
with_table_tells None t rest found damage below tells h = tt
with_table_tells (Some told) t rest found None below tells h = stays (image_read told.state) t rest found tells h
with_table_tells (Some told) t rest found (Some f) below tells h = chosen (image_read told.state) t rest found f below tells h

pub refused_tells : (told : Option Told) (t : Added) (tables : List Added) (e : OpenRefusal) → DamageTells told t (Err e) → DamagedTell told tables (Err e)
refused_tells None t tables e h = tt
refused_tells (Some told) t tables e h = h
