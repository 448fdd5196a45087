-- What the tables of a version answer.
use Rattle.std.specs.Prelude.{◌≡◌, ℕ, Bool, false, List, Option, Some, None, Result, Ok, Err, is_none, is_some, nat_lt, option_map, if◌then◌else◌}
use Rattle.keel_base.specs.declared.file_name.FileName.TheVariants.{Table}
use Rattle.keel_base.specs.declared.listing.Entry.{Entry}
use Rattle.keel_disk.specs.Directory.{Named}
use Rattle.keel_disk.specs.Listings.{size_listed}
use Rattle.keel_disk.specs.Plain.{image_read}
use Rattle.keel_disk.specs.Told.{Told}
use Rattle.keel_edit.specs.declared.edit.Added.{Added}
use Rattle.keel_table.specs.declared.fault.TableFault.{TableFault}
use Rattle.keel_table.specs.declared.fault.TableFault.TheVariants as fault
use Rattle.keel_table.specs.declared.table.Table as table
use Rattle.keel_table.specs.Opening.{Damage}
use Rattle.keel_directory.specs.TableFiles.{bytes_of, damage_in, least, refusal_of}
use Rattle.keel_open.specs.declared.refusal.OpenRefusal.{OpenRefusal}
use Rattle.keel_open.specs.declared.refusal.OpenRefusal.TheVariants as refusal
use Rattle.keel_open.specs.declared.tables.DamagedTable.{DamagedTable}
use Rattle.keel_open.specs.Refusals.{Damages, Names}

-- ---- missing tables

-- the table has no file in the listing
abbrev pub is_unlisted : List Entry → Added → Bool
is_unlisted listing t = is_none (size_listed (Table t.number) listing)

-- of two numbers the lesser
abbrev pub lesser_number : ℕ → Option ℕ → ℕ
lesser_number number None = number
lesser_number number (Some other) = if nat_lt other number then other else number

-- the number of a table
abbrev pub number_found : Option Added → Option ℕ
number_found found = option_map (λ t. t.number) found

-- ---- damaged tables

-- what is wrong with a table's file
abbrev pub damage_read : Named (List ℕ) → Added → Option Damage
damage_read image t = damage_in t.size (bytes_of image t)

-- whether anything is
abbrev pub is_damaged : Named (List ℕ) → Added → Bool
is_damaged image t = is_some (damage_read image t)

-- this damage is told of a table
abbrev pub DamageIs : Named (List ℕ) → Added → Option TableFault → Type 0
DamageIs image t None = damage_read image t ≡ None
DamageIs image t (Some fault) = Damages fault (λ damage. damage_read image t ≡ Some damage)

-- an answer about a table's damage; that a listed table isn't there is never told
abbrev pub DamageAnswers : Named (List ℕ) → Added → Result (Option TableFault) OpenRefusal → Type 0
DamageAnswers image t (Ok damage) = DamageIs image t damage
DamageAnswers image t (Err e) = Names e (λ refusal. ⊥)

abbrev pub DamageTells : Option Told → Added → Result (Option TableFault) OpenRefusal → Type 0
DamageTells None t answer = Unit {0}
DamageTells (Some told) t answer = DamageAnswers (image_read told.state) t answer

-- what the opening of a table tells of its damage
abbrev pub damage_told : ℕ → Result table.Table TableFault → Result (Option TableFault) OpenRefusal
damage_told number (Ok opened) = Ok None
damage_told number (Err (fault.Device f)) = Err (refusal.Device f)
damage_told number (Err fault.Absent) = Err (refusal.MissingTable number)
damage_told number (Err (fault.BadCheck stored computed)) = Ok (Some (fault.BadCheck stored computed))
damage_told number (Err (fault.BadShape at)) = Ok (Some (fault.BadShape at))
damage_told number (Err fault.OutOfMemory) = Err refusal.OutOfMemory

-- the table of the least number among damaged ones, where it has that number and damage
pub record IsLeastDamaged (image : Named (List ℕ)) (tables : List Added) (found : DamagedTable) : Type 0 where
  pub entry : Added
  pub least_is : least (is_damaged image) tables ≡ Some entry
  pub number_is : entry.number ≡ found.number
  pub damage_is : DamageIs image entry (Some found.fault)

abbrev pub LeastDamaged : Named (List ℕ) → List Added → Option DamagedTable → Type 0
LeastDamaged image tables None = least (is_damaged image) tables ≡ None
LeastDamaged image tables (Some found) = IsLeastDamaged image tables found

-- whether a damaged table is chosen that has a lesser number
abbrev pub is_below : Option DamagedTable → ℕ → Bool
is_below None number = false
is_below (Some other) number = nat_lt other.number number

-- a table that is damaged is chosen in place of another
abbrev pub with_damage : ℕ → Option TableFault → Option DamagedTable → Option DamagedTable
with_damage number None found = found
with_damage number (Some fault) found = Some (record { number = number; fault = fault })

-- the damaged table that is chosen among some, where the device tells it
abbrev pub ChosenTells : Option Told → List Added → Option DamagedTable → Type 0
ChosenTells None tables found = Unit {0}
ChosenTells (Some told) tables found = LeastDamaged (image_read told.state) tables found

abbrev pub DamagedTell : Option Told → List Added → Result (Option DamagedTable) OpenRefusal → Type 0
DamagedTell told tables (Ok found) = ChosenTells told tables found
DamagedTell None tables (Err e) = Unit {0}
DamagedTell (Some told) tables (Err e) = Names e (λ refusal. ⊥)

-- ---- all tables

-- they are there and open, or the first refusal
abbrev pub TablesAnswer : Named (List ℕ) → List Added → Result (Unit {0}) OpenRefusal → Type 0
TablesAnswer image tables (Ok done) = refusal_of image tables ≡ None
TablesAnswer image tables (Err e) = Names e (λ refusal. refusal_of image tables ≡ Some refusal)

abbrev pub TablesTell : Option Told → List Added → Result (Unit {0}) OpenRefusal → Type 0
TablesTell None tables answer = Unit {0}
TablesTell (Some told) tables answer = TablesAnswer (image_read told.state) tables answer
