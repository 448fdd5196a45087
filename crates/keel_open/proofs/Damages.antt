-- What is wrong with the file of a table.
use Rattle.std.proofs.Common.{◌≡◌, ℕ, ◌<◌, ◌≤◌, List, length, Option, Some, None, Result, Ok, Err, option_map, refl, sym, ap, subst, ◌∙◌, inl, inr}
use Rattle.std.proofs.lemmas.Bool.{cases_lt, eq-eqb, ne_eqb, lt-leb}
use Rattle.keel_base.specs.declared.file_name.FileName.TheVariants.{Table as TableName}
use Rattle.keel_base.specs.declared.listing.Entry.{Entry}
use Rattle.keel_base.specs.Name.{IsName}
use Rattle.keel_disk.specs.Listings.{size_listed}
use Rattle.keel_disk.specs.Plain.{image_read}
use Rattle.keel_disk.specs.State.{file_at, file_of}
use Rattle.keel_disk.specs.Told.{Told, TellsListing, TellsSize}
use Rattle.keel_disk.specs.Told.{bytes_of as told_bytes}
use Rattle.keel_edit.specs.declared.edit.Added.{Added}
use Rattle.keel_listing.proofs.Files.{image_has}
use Rattle.keel_table.specs.declared.fault.TableFault.{TableFault}
use Rattle.keel_table.specs.declared.fault.TableFault.TheVariants as fault
use Rattle.keel_table.specs.declared.table.Table.{Table}
use Rattle.keel_table.specs.Answers.{Answers, Causes}
use Rattle.keel_table.specs.Opening.{Damage, bad_check, bad_shape, Opened, opened}
use Rattle.keel_table.specs.Tables.{shown}
use Rattle.keel_directory.specs.TableFiles.{open_sized, damage_of, damage_in}
use Rattle.keel_open.specs.TableAnswers.{damage_read, DamageAnswers, DamageTells, damage_told}

-- a file that has another size
wrong_size : (size : ℕ) (bytes : List ℕ) → (length bytes ≡ size → ⊥) → damage_of (open_sized size bytes) ≡ Some (bad_shape 0)
wrong_size size bytes h = rw (ne_eqb (length bytes) size h) refl

right_size : (size : ℕ) (bytes : List ℕ) (found : Result Opened Damage) → length bytes ≡ size → opened size bytes ≡ found → damage_of (open_sized size bytes) ≡ damage_of found
right_size size bytes found h e = rw (eq-eqb (length bytes) size h) (ap damage_of e)

too_small : (size : ℕ) (bytes : List ℕ) → size < 52 → opened size bytes ≡ Err (bad_shape 0)
unfolding opened
too_small size bytes h = rw (lt-leb 52 size h) refl

sized : (bytes : Option (List ℕ)) (size : ℕ) → option_map length bytes ≡ Some size → (all : List ℕ) × (bytes ≡ Some all) × (length all ≡ size)
sized None size e = absurd cc
sized (Some all) size e = (all, refl, cc)

of_size : (bytes : Option (List ℕ)) (all : List ℕ) (size : ℕ) → option_map length bytes ≡ Some size → bytes ≡ Some all → length all ≡ size
of_size None all size e h = absurd cc
of_size (Some other) all size e h = let a : length other ≡ size = cc in let b : other ≡ all = cc in ap length (sym b) ∙ a

read_as : (told : Told) (t : Added) (bytes : List ℕ) → told_bytes (TableName t.number) told ≡ Some bytes → damage_read (image_read told.state) t ≡ damage_of (open_sized t.size bytes)
read_as told t bytes e = ap (damage_in t.size) (image_has told (TableName t.number) ∙ e)

pub other_size : (told : Option Told) (t : Added) (size : ℕ) → TellsSize (TableName t.number) told (Ok size) → (size ≡ t.size → ⊥) → DamageTells told t (Ok (Some (fault.BadShape 0)))
other_size None t size tells h = tt
other_size (Some told) t size tells h =
    let found = sized (told_bytes (TableName t.number) told) size tells in
    read_as told t found.0 found.1 ∙ wrong_size t.size found.0 (λ e. h (sym found.2 ∙ e))

given : (told : Told) (t : Added) (bytes : List ℕ) (found : Result Opened Damage) → TellsSize (TableName t.number) (Some told) (Ok t.size) → told_bytes (TableName t.number) told ≡ Some bytes → opened t.size bytes ≡ found
    → damage_read (image_read told.state) t ≡ damage_of found
given told t bytes found tells there e =
    read_as told t bytes there ∙ right_size t.size bytes found (of_size (told_bytes (TableName t.number) told) bytes t.size tells there) e

not_absent : (told : Told) (t : Added) → TellsSize (TableName t.number) (Some told) (Ok t.size) → file_of (TableName t.number) told.state ≡ None → ⊥
not_absent told t tells none =
    let absent : option_map length (told_bytes (TableName t.number) told) ≡ None = ap (λ (number : Option ℕ). option_map length (option_map (λ n. (file_at n told.state.files).read) number)) none in
    let size : option_map length (told_bytes (TableName t.number) told) ≡ Some t.size = tells in cc

by_answer : (told : Told) (t : Added) (answer : Result Table TableFault) → TellsSize (TableName t.number) (Some told) (Ok t.size) → Causes shown (opened t.size) (TableName t.number) told answer
    → DamageAnswers (image_read told.state) t (damage_told t.number answer)
by_answer told t (Ok x) tells h = given told t h.0 (Ok (shown x)) tells h.1 h.2
by_answer told t (Err (fault.Device f)) tells h = tt
by_answer told t (Err fault.Absent) tells h = not_absent told t tells h
by_answer told t (Err (fault.BadCheck stored computed)) tells h = given told t h.0 (Err (bad_check stored computed)) tells h.1 h.2
by_answer told t (Err (fault.BadShape at)) tells h = given told t h.0 (Err (bad_shape at)) tells h.1 h.2
by_answer told t (Err fault.OutOfMemory) tells h = tt

small_file : (told : Told) (t : Added) → TellsSize (TableName t.number) (Some told) (Ok t.size) → t.size < 52 → damage_read (image_read told.state) t ≡ Some (bad_shape 0)
small_file told t tells low =
    let found = sized (told_bytes (TableName t.number) told) t.size tells in
    given told t found.0 (Err (bad_shape 0)) tells found.1 (too_small t.size found.0 low)

opens : (told : Option Told) (t : Added) (answer : Result Table TableFault) → TellsSize (TableName t.number) told (Ok t.size) → (t.size < 52 → answer ≡ Err (fault.BadShape 0))
    → (52 ≤ t.size → Answers shown (opened t.size) t.number told answer) → DamageTells told t (damage_told t.number answer)
opens None t answer tells small large = tt
opens (Some told) t answer tells small large =
    elim (cases_lt t.size 52) [
      | inl low ↦ subst (λ (r : Result Table TableFault). DamageAnswers (image_read told.state) t (damage_told t.number r)) (sym (small low)) (small_file told t tells low)
      | inr high ↦ by_answer told t answer tells (large high)
    ]

pub opening_tells : (told : Option Told) (t : Added) (size : ℕ) (answer : Result Table TableFault) → size ≡ t.size → TellsSize (TableName t.number) told (Ok size) → (size < 52 → answer ≡ Err (fault.BadShape 0))
    → (52 ≤ size → Answers shown (opened size) t.number told answer) → DamageTells told t (damage_told t.number answer)
opening_tells told t size answer e tells small large =
    opens told t answer (subst (λ (n : ℕ). TellsSize (TableName t.number) told (Ok n)) e tells) (subst (λ (n : ℕ). n < 52 → answer ≡ Err (fault.BadShape 0)) e small)
    (subst (λ (n : ℕ). 52 ≤ n → Answers shown (opened n) t.number told answer) e large)

-- a table that isn't listed isn't there, and has no damage
pub unlisted_tells : (told : Option Told) (listing : List Entry) (t : Added) → TellsListing told listing → IsName (TableName t.number) → size_listed (TableName t.number) listing ≡ None → DamageTells told t (Ok None)
unlisted_tells None listing t tells is none = tt
unlisted_tells (Some told) listing t tells is none = ap (damage_in t.size) (image_has told (TableName t.number) ∙ absent (told_bytes (TableName t.number) told) (sym (tells (TableName t.number) is) ∙ none))
  where
    absent : (bytes : Option (List ℕ)) → option_map length bytes ≡ None → bytes ≡ None
    absent None e = refl
    absent (Some bytes) e = absurd cc

pub listed_size : (told : Option Told) (listing : List Entry) (t : Added) (size : ℕ) → TellsListing told listing → IsName (TableName t.number) → size_listed (TableName t.number) listing ≡ Some size → TellsSize (TableName t.number) told (Ok size)
listed_size None listing t size tells is e = tt
listed_size (Some told) listing t size tells is e = sym (tells (TableName t.number) is) ∙ e
