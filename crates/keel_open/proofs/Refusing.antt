-- Why the tables of a version aren't read.
use Rattle.std.proofs.Common.{◌≡◌, ℕ, Bool, cond, List, [], ◌∷◌, length, Option, Some, None, Ok, Err, option_map, refl, sym, ap, ◌∙◌}
use Rattle.std.specs.Prelude.{All, is_none}
use Rattle.std.proofs.lemmas.List.Elements.{All-head, All-tail}
use Rattle.keel_base.specs.declared.file_name.FileName.TheVariants.{Table as TableName}
use Rattle.keel_base.specs.declared.listing.Entry.{Entry}
use Rattle.keel_disk.specs.Directory.{Named}
use Rattle.keel_disk.specs.Plain.{image_read}
use Rattle.keel_disk.specs.Told.{Told, TellsListing}
use Rattle.keel_disk.specs.Told.{bytes_of as told_bytes}
use Rattle.keel_edit.specs.declared.edit.Added.{Added}
use Rattle.keel_edit.specs.Spelling.{IsAdded}
use Rattle.keel_listing.proofs.Files.{image_has}
use Rattle.keel_directory.specs.Refusals.{missing_table, bad_table}
use Rattle.keel_directory.specs.TableFiles.{bytes_of, damage_refused, lesser, least, refused_for_damage, refused_for_missing, refusal_of}
use Rattle.keel_open.specs.declared.refusal.OpenRefusal.{OpenRefusal}
use Rattle.keel_open.specs.declared.refusal.OpenRefusal.TheVariants as refusal
use Rattle.keel_open.specs.declared.tables.DamagedTable.{DamagedTable}
use Rattle.keel_open.specs.TableAnswers.{is_unlisted, number_found, damage_read, is_damaged, DamagedTell, TablesTell}
use Rattle.keel_open.proofs.Naming.{damages_map, names_map}

-- ---- missing tables

abbrev pub is_missing : Named (List ℕ) → Added → Bool
is_missing image t = is_none (bytes_of image t)

none_either_way : (bytes : Option (List ℕ)) → is_none (option_map length bytes) ≡ is_none bytes
none_either_way None = refl
none_either_way (Some bytes) = refl

unlisted_is_missing : (told : Told) (listing : List Entry) (t : Added) → TellsListing (Some told) listing → IsAdded t → is_unlisted listing t ≡ is_missing (image_read told.state) t
unlisted_is_missing told listing t tells is =
    ap is_none (tells (TableName t.number) is.number) ∙ none_either_way (told_bytes (TableName t.number) told) ∙ ap is_none (sym (image_has told (TableName t.number)))

least_same : (told : Told) (listing : List Entry) (tables : List Added) → TellsListing (Some told) listing → All IsAdded tables → least (is_unlisted listing) tables ≡ least (is_missing (image_read told.state)) tables
least_same told listing [] tells all = refl
least_same told listing (t ∷ tables) tells all =
    let head = unlisted_is_missing told listing t tells (All-head IsAdded t tables all) in
    let tail = least_same told listing tables tells (All-tail IsAdded t tables all) in
    λ i. cond (head i) (lesser t (tail i)) (tail i)

numbered : (found : Option Added) (number : ℕ) → Some number ≡ number_found found → (t : Added) × (found ≡ Some t) × (t.number ≡ number)
numbered None number e = absurd cc
numbered (Some t) number e = (t, refl, cc)

not_numbered : (found : Option Added) → None ≡ number_found found → found ≡ None
not_numbered None e = refl
not_numbered (Some t) e = absurd cc

pub missing_tells : (told : Option Told) (listing : List Entry) (tables : List Added) (number : ℕ) → TellsListing told listing → All IsAdded tables → Some number ≡ number_found (least (is_unlisted listing) tables)
    → TablesTell told tables (Err (refusal.MissingTable number))
missing_tells None listing tables number tells all e = tt
missing_tells (Some told) listing tables number tells all e =
    let found = numbered (least (is_unlisted listing) tables) number e in
    let image = image_read told.state in
    let other = refused_for_damage image (least (is_damaged image) tables) in
    ap (λ (missing : Option Added). refused_for_missing missing other) (sym (least_same told listing tables tells all) ∙ found.1) ∙ ap (λ (n : ℕ). Some (missing_table n)) found.2

-- ---- damaged tables

-- the refusal where no table is missing
none_missing : (told : Told) (listing : List Entry) (tables : List Added) → TellsListing (Some told) listing → All IsAdded tables → None ≡ number_found (least (is_unlisted listing) tables)
    → (let image = image_read told.state in refusal_of image tables ≡ refused_for_damage image (least (is_damaged image) tables))
none_missing told listing tables tells all e =
    let image = image_read told.state in
    let other = refused_for_damage image (least (is_damaged image) tables) in
    ap (λ (missing : Option Added). refused_for_missing missing other) (sym (least_same told listing tables tells all) ∙ not_numbered (least (is_unlisted listing) tables) e)

pub open_tells : (told : Option Told) (listing : List Entry) (tables : List Added) → TellsListing told listing → All IsAdded tables → None ≡ number_found (least (is_unlisted listing) tables)
    → DamagedTell told tables (Ok None) → TablesTell told tables (Ok tt)
open_tells None listing tables tells all e h = tt
open_tells (Some told) listing tables tells all e h = none_missing told listing tables tells all e ∙ ap (refused_for_damage (image_read told.state)) h

pub damaged_tells : (told : Option Told) (listing : List Entry) (tables : List Added) (found : DamagedTable) → TellsListing told listing → All IsAdded tables → None ≡ number_found (least (is_unlisted listing) tables)
    → DamagedTell told tables (Ok (Some found)) → TablesTell told tables (Err (refusal.BadTable found.number found.fault))
damaged_tells None listing tables found tells all e h = tt
damaged_tells (Some told) listing tables found tells all e h =
    let image = image_read told.state in
    let is = none_missing told listing tables tells all e ∙ ap (refused_for_damage image) h.least_is in
    damages_map found.fault (λ d. damage_read image h.entry ≡ Some d) (λ d. refusal_of image tables ≡ Some (bad_table found.number d))
    (λ d damage. is ∙ ap (damage_refused h.entry.number) damage ∙ ap (λ (n : ℕ). Some (bad_table n d)) h.number_is) h.damage_is

pub failed_tells : (told : Option Told) (tables : List Added) (e : OpenRefusal) → DamagedTell told tables (Err e) → TablesTell told tables (Err e)
failed_tells None tables e h = tt
failed_tells (Some told) tables e h = names_map e (λ r. ⊥) (λ r. refusal_of (image_read told.state) tables ≡ Some r) (λ r never. absurd never) h
