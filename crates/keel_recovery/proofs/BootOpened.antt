-- The tables of a reading open, and those of a device at rest are there whatever a crash does.
use Rattle.std.proofs.Common.{◌≡◌, ℕ, true, false, List, [], ◌∷◌, length, Option, Some, None, Result, Ok, Err, refl, sym, ap, subst, ◌∙◌, if◌then◌else◌}
use Rattle.std.specs.List.{AllByRecursion}
use Rattle.keel_base.specs.declared.file_name.FileName.{FileName}
use Rattle.keel_base.specs.declared.file_name.FileName.TheVariants.{Current, Table}
use Rattle.keel_base.specs.Name.{name_eq}
use Rattle.keel_base.specs.Points.{Point}
use Rattle.keel_disk.specs.declared.state.File.{File}
use Rattle.keel_disk.specs.declared.state.Operation.{Operation}
use Rattle.keel_disk.specs.Directory.{Named, find, operated_all}
use Rattle.keel_disk.specs.State.{State, file_at, directory_read, has_waiting_cut}
use Rattle.keel_disk.specs.Steady.{IsHeld}
use Rattle.keel_disk.specs.Image.{AllFirm}
use Rattle.keel_disk.specs.Plain.{bytes_read, image_read}
use Rattle.keel_disk.specs.Sound.{IsAtRest}
use Rattle.keel_disk.proofs.Operating.{is_below}
use Rattle.keel_edit.specs.declared.edit.Added.{Added}
use Rattle.keel_directory.specs.Reading.{Reading, StoreRead, new, held, refused, IsReading, FoundBy, ManifestOf, VersionOf, TablesOf, LogsOf, PointOf, WithCurrent, first_used, without_current}
use Rattle.keel_directory.specs.Refusals.{Refusal}
use Rattle.keel_directory.specs.Replays.{Replay}
use Rattle.keel_version.specs.Tables.{Contents}
use Rattle.keel_directory.specs.TableFiles.{TableFile, TablesAre, TablesGive, AllOpen, Opens, bytes_of, open_sized, refusal_of}
use Rattle.keel_machine.specs.Opening.{tables_in}
use Rattle.keel_recovery.specs.Booting.{IsOldTable}
use Rattle.keel_recovery.proofs.BootNames.{behind_none}

some_none : {A P : Type 0} (x : A) → Some x ≡ None → P
some_none x e = cc

not_held : (o : Option FileName) (f : StoreRead) (p : Point) → held f p ≡ without_current o → ⊥
not_held None f p e = cc
not_held (Some n) f p e = cc

-- ---- the tables of a reading open

tables_given : (image : Named (List ℕ)) (refusal : Option Refusal) (tables : List Added) (files : List TableFile) → TablesGive refusal image tables (Ok files) → AllOpen image tables files
tables_given image (Some r) tables files is = cc
tables_given image None tables files are = are

module _ (image : Named (List ℕ)) where
  abbrev pub Opens_all : StoreRead → Type 0
  Opens_all f = AllOpen image f.version.tables f.tables

  by_logs : (m : ℕ) (version : Contents) (files : List TableFile) (logs : Result Replay Refusal) (f : StoreRead) → LogsOf image m version files logs (Ok f) → AllOpen image version.tables files → Opens_all f
  by_logs m version files (Ok replay) f is open_ =
      let same : f ≡ record { manifest = m; version = version; tables = files; replay = replay } = cc is in
      rw same open_
  by_logs m version files (Err r) f is open_ = cc

  by_tables : (m : ℕ) (version : Contents) (tables : Result (List TableFile) Refusal) (f : StoreRead) → TablesAre image version.tables tables → TablesOf image m version tables (Ok f) → Opens_all f
  by_tables m version (Ok files) f are is = by_logs m version files is.0 f is.2 (tables_given image (refusal_of image version.tables) version.tables files are)
  by_tables m version (Err r) f are is = cc

  by_version : (m : ℕ) (version : Result Contents Refusal) (f : StoreRead) → VersionOf image m version (Ok f) → Opens_all f
  by_version m (Ok version) f of = by_tables m version of.0 f of.1 of.2
  by_version m (Err r) f of = cc

  by_manifest : (manifest : Result ℕ Refusal) (f : StoreRead) → ManifestOf image manifest (Ok f) → Opens_all f
  by_manifest (Ok m) f of = by_version m of.0 f of.2
  by_manifest (Err r) f of = cc

  by_answer : (answer : Result StoreRead Refusal) (current : List ℕ) (f : StoreRead) (point : Point) → FoundBy image current answer → PointOf answer (held f point) → Opens_all f
  by_answer (Ok found) current f point found_by is = subst Opens_all (sym is.0) (by_manifest found_by.0 found found_by.2)
  by_answer (Err r) current f point found_by is = absurd is

  by_current : (current : Option (List ℕ)) (f : StoreRead) (point : Point) → WithCurrent image current (held f point) → Opens_all f
  by_current None f point is = absurd (not_held (first_used image) f point is)
  by_current (Some current) f point is = by_answer is.0 current f point is.1 is.2

  pub held_open : (f : StoreRead) (point : Point) → IsReading image (held f point) → Opens_all f
  unfolding IsReading
  held_open f point is = by_current (find Current image) f point is

  each_open : (tables : List Added) (files : List TableFile) → AllOpen image tables files → AllByRecursion (λ (table : TableFile). Opens image table.entry table) files
  each_open [] [] are = tt
  each_open [] (file ∷ files) are = absurd are
  each_open (table ∷ tables) [] are = absurd are
  each_open (table ∷ tables) (file ∷ files) are =
      (record { entry = refl; there = ap (bytes_of image) are.0.entry ∙ are.0.there; opens = ap (λ (t : Added). open_sized t.size file.bytes) are.0.entry ∙ are.0.opens }, each_open tables files are.1)

  -- the tables of a reading are there, and open
  pub levels_open : (reading : Reading) → IsReading image reading → AllByRecursion (λ (table : TableFile). Opens image table.entry table) (tables_in reading)
  levels_open new is = tt
  levels_open (held f point) is = each_open f.version.tables f.tables (held_open f point is)
  levels_open (refused refusal) is = tt

-- ---- a device at rest

-- a file that reads find is firm, and has the bytes that they give
read_found : (files : List File) (d : Named ℕ) (name : FileName) (bytes : List ℕ) → AllFirm files d → find name (bytes_read files d) ≡ Some bytes
    → (file : ℕ) × (find name d ≡ Some file) × IsHeld (file_at file files) bytes
read_found files [] name bytes firm is = cc
read_found files (entry ∷ rest) name bytes firm is =
    elim (name_eq entry.0 name)
    as (λ b. (if b then Some (file_at entry.1 files).read else find name (bytes_read files rest)) ≡ Some bytes
    → (file : ℕ) × ((if b then Some entry.1 else find name rest) ≡ Some file) × IsHeld (file_at file files) bytes) [
      | true ↦ λ here.
          let read : (file_at entry.1 files).read ≡ bytes = cc here in (
            entry.1,
            refl,
            record {
              meant = sym firm.0.read ∙ read;
              firm = firm.0.whole ∙ ap length (sym firm.0.read ∙ read);
              read = read;
            },
          )
      | false ↦ λ later. read_found files rest name bytes firm.1 later
    ] is

module _ (state : State) (rest : IsAtRest state) where
  abbrev total : ℕ
  total = length state.files

  none_waits : state.waiting ≡ []
  none_waits = rest.settled.none_waits

  old_table : (table : TableFile) → Opens (image_read state) table.entry table → IsOldTable total state table
  old_table table opens =
      let found = read_found state.files (directory_read state) (Table table.entry.number) table.bytes
      (subst (λ (ops : List Operation). AllFirm state.files (operated_all ops state.firm)) (sym none_waits) rest.settled.firm) opens.there in
      record {
        file = found.0;
        steady = record {
          named = λ count. behind_none count (Table table.entry.number) state none_waits ∙ found.1;
          not_cut = ap (has_waiting_cut found.0) none_waits;
        };
        old = is_below total (Table table.entry.number) found.0 state.firm (rest.sound.one_to_one 0)
            (subst (λ (ops : List Operation). find (Table table.entry.number) (operated_all ops state.firm) ≡ Some found.0) none_waits found.1);
        held = found.2;
        opens = opens.opens;
      }

  -- the tables of a reading are there whatever operations are done
  pub old_tables : (levels : List TableFile) → AllByRecursion (λ (table : TableFile). Opens (image_read state) table.entry table) levels → AllByRecursion (IsOldTable total state) levels
  old_tables [] opens = tt
  old_tables (table ∷ levels) opens = (old_table table opens.0, old_tables levels opens.1)
