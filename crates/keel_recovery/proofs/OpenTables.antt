-- The tables of a version that are firm open.
use Rattle.std.specs.Prelude.{is_some, is_none}
use Rattle.std.specs.List.{AllByRecursion, flat_map}
use Rattle.std.proofs.Common.{◌≡◌, ℕ, ◌≤◌, Bool, false, List, [], ◌∷◌, ◌++◌, Option, Some, None, Ok, refl, sym, ap, subst, ◌∙◌, arith}
use Rattle.keel_base.specs.declared.row.Row.{Row}
use Rattle.keel_base.specs.declared.file_name.FileName.TheVariants.{Table}
use Rattle.keel_disk.specs.Directory.{Named, find}
use Rattle.keel_disk.specs.State.{State}
use Rattle.keel_edit.specs.declared.edit.Added.{Added}
use Rattle.keel_directory.specs.Refusals.{Refusal}
use Rattle.keel_directory.specs.Sound.{IsAsSaid}
use Rattle.keel_directory.specs.TableFiles.{TableFile, table_rows, bytes_of, damage_in, damage_of, least, refusal_of, AllOpen, TablesGive, TablesAre}
use Rattle.keel_recovery.specs.Roots.{IsFirmTable, AreFirmTables}
use Rattle.keel_recovery.proofs.Rows.{AreKnown}

least_none : (finds : Added → Bool) (tables : List Added) → AllByRecursion (λ t. finds t ≡ false) tables → least finds tables ≡ None
least_none finds [] h = refl
least_none finds (t ∷ tables) h = rw h.0 (least_none finds tables h.1)

none_missing : (image : Named (List ℕ)) (tables : List Added) (files : List TableFile) → AllOpen image tables files → AllByRecursion (λ t. is_none (bytes_of image t) ≡ false) tables
none_missing image [] files h = tt
none_missing image (t ∷ tables) [] h = absurd h
none_missing image (t ∷ tables) (file ∷ files) h = (ap is_none h.0.there, none_missing image tables files h.1)

none_damaged : (image : Named (List ℕ)) (tables : List Added) (files : List TableFile) → AllOpen image tables files → AllByRecursion (λ t. is_some (damage_in t.size (bytes_of image t)) ≡ false) tables
none_damaged image [] files h = tt
none_damaged image (t ∷ tables) [] h = absurd h
none_damaged image (t ∷ tables) (file ∷ files) h =
    (ap (λ (o : Option (List ℕ)). is_some (damage_in t.size o)) h.0.there ∙ ap (λ o. is_some (damage_of o)) h.0.opens, none_damaged image tables files h.1)

-- tables that open are the tables
pub open_are : (image : Named (List ℕ)) (tables : List Added) (files : List TableFile) → AllOpen image tables files → TablesAre image tables (Ok files)
open_are image tables files h =
    let none : refusal_of image tables ≡ None =
    rw (least_none (λ t. is_none (bytes_of image t)) tables (none_missing image tables files h), least_none (λ t. is_some (damage_in t.size (bytes_of image t))) tables (none_damaged image tables files h)) refl in
    subst (λ (first : Option Refusal). TablesGive first image tables (Ok files)) (sym none) h

-- firm tables open where their bytes are shown
pub firm_open : (state : State) (image : Named (List ℕ)) (tables : List Added) (files : List TableFile)
    → ((table : Added) (file : TableFile) → IsFirmTable state table file → find (Table table.number) image ≡ Some file.bytes)
    → AreFirmTables state tables files → AllOpen image tables files
firm_open state image [] [] shown h = tt
firm_open state image [] (file ∷ files) shown h = absurd h
firm_open state image (table ∷ tables) [] shown h = absurd h
firm_open state image (table ∷ tables) (file ∷ files) shown h =
    (record { entry = h.0.entry; there = shown table file h.0; opens = h.0.opens }, firm_open state image tables files shown h.1)

-- ---- their rows

both_known : (last : ℕ) (rows others : List Row) → AreKnown last rows → AreKnown last others → AreKnown last (rows ++ others)
both_known last [] others h k = k
both_known last (row ∷ rows) others h k = (h.0, both_known last rows others h.1 k)

rows_known : (last first most : ℕ) (rows : List Row) → most ≤ last → AllByRecursion (λ (row : Row). (first ≤ row.seq) × (row.seq ≤ most)) rows → AreKnown last rows
rows_known last first most [] le h = tt
rows_known last first most (row ∷ rows) le h = (omega (arith, le, h.0.1), rows_known last first most rows le h.1)

-- no row of tables that are as the version says is numbered over its last
pub said_known : (last : ℕ) (tables : List TableFile) → AllByRecursion (IsAsSaid last) tables → AreKnown last (flat_map table_rows tables)
said_known last [] said = tt
said_known last (t ∷ tables) said =
    both_known last (table_rows t) (flat_map table_rows tables) (rows_known last t.file.footer.first t.file.footer.last (table_rows t) said.0.known said.0.within) (said_known last tables said.1)
