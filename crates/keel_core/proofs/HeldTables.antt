-- The tables of a reading are there, and open.
use Rattle.std.proofs.Common.{◌≡◌, ℕ, List, Option, Some, None, Result, Ok, Err, sym, subst}
use Rattle.keel_base.specs.declared.file_name.FileName.{FileName}
use Rattle.keel_base.specs.declared.file_name.FileName.TheVariants.{Current}
use Rattle.keel_base.specs.Points.{Point}
use Rattle.keel_disk.specs.Directory.{Named, find}
use Rattle.keel_edit.specs.declared.edit.Added.{Added}
use Rattle.keel_directory.specs.Reading.{StoreRead, held, IsReading, FoundBy, ManifestOf, VersionOf, TablesOf, LogsOf, PointOf, WithCurrent, first_used, without_current}
use Rattle.keel_directory.specs.Refusals.{Refusal}
use Rattle.keel_directory.specs.Replays.{Replay}
use Rattle.keel_version.specs.Tables.{Contents}
use Rattle.keel_directory.specs.TableFiles.{TableFile, TablesAre, TablesGive, AllOpen, refusal_of}

not_held : (o : Option FileName) (f : StoreRead) (p : Point) → held f p ≡ without_current o → ⊥
not_held None f p e = cc
not_held (Some n) f p e = cc

-- ---- the tables of a reading open

tables_given : (image : Named (List ℕ)) (refusal : Option Refusal) (tables : List Added) (files : List TableFile) → TablesGive refusal image tables (Ok files) → AllOpen image tables files
tables_given image (Some r) tables files is = cc
tables_given image None tables files are = are

module _ (image : Named (List ℕ)) where
  abbrev pub Opens_all : StoreRead → Type 0
  Opens_all f = AllOpen image f.version.tables f.tables

  by_logs : (m : ℕ) (version : Contents) (files : List TableFile) (logs : Result Replay Refusal) (f : StoreRead) → LogsOf image m version files logs (Ok f) → AllOpen image version.tables files → Opens_all f
  by_logs m version files (Ok replay) f is open_ =
      let same : f ≡ record { manifest = m; version = version; tables = files; replay = replay } = cc is in
      rw same open_
  by_logs m version files (Err r) f is open_ = cc

  by_tables : (m : ℕ) (version : Contents) (tables : Result (List TableFile) Refusal) (f : StoreRead) → TablesAre image version.tables tables → TablesOf image m version tables (Ok f) → Opens_all f
  by_tables m version (Ok files) f are is = by_logs m version files is.0 f is.2 (tables_given image (refusal_of image version.tables) version.tables files are)
  by_tables m version (Err r) f are is = cc

  by_version : (m : ℕ) (version : Result Contents Refusal) (f : StoreRead) → VersionOf image m version (Ok f) → Opens_all f
  by_version m (Ok version) f of = by_tables m version of.0 f of.1 of.2
  by_version m (Err r) f of = cc

  by_manifest : (manifest : Result ℕ Refusal) (f : StoreRead) → ManifestOf image manifest (Ok f) → Opens_all f
  by_manifest (Ok m) f of = by_version m of.0 f of.2
  by_manifest (Err r) f of = cc

  by_answer : (answer : Result StoreRead Refusal) (current : List ℕ) (f : StoreRead) (point : Point) → FoundBy image current answer → PointOf answer (held f point) → Opens_all f
  by_answer (Ok found) current f point found_by is = subst Opens_all (sym is.0) (by_manifest found_by.0 found found_by.2)
  by_answer (Err r) current f point found_by is = absurd is

  by_current : (current : Option (List ℕ)) (f : StoreRead) (point : Point) → WithCurrent image current (held f point) → Opens_all f
  by_current None f point is = absurd (not_held (first_used image) f point is)
  by_current (Some current) f point is = by_answer is.0 current f point is.1 is.2

  pub held_open : (f : StoreRead) (point : Point) → IsReading image (held f point) → Opens_all f
  unfolding IsReading
  held_open f point is = by_current (find Current image) f point is
