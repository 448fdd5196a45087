-- A reading goes over to a directory that has all that it has, with further files that no reading needs.
use Rattle.std.proofs.Common.{◌≡◌, ℕ, List, [], ◌∷◌, Option, Some, None, Result, Ok, Err, refl, sym, ap, subst, ◌∙◌}
use Rattle.std.specs.List.{AllByRecursion}
use Rattle.keel_base.specs.declared.file_name.FileName.{FileName}
use Rattle.keel_base.specs.declared.file_name.FileName.TheVariants.{Current, Manifest}
use Rattle.keel_base.specs.Points.{Point}
use Rattle.keel_disk.specs.Directory.{Named, find}
use Rattle.keel_edit.specs.declared.edit.Added.{Added}
use Rattle.keel_version.specs.Tables.{Contents}
use Rattle.keel_directory.specs.Manifests.{ManifestIs}
use Rattle.keel_directory.specs.Reading.{StoreRead, held, IsReading, FoundBy, ManifestOf, VersionOf, TablesOf, LogsOf, PointOf, WithCurrent, first_used, without_current}
use Rattle.keel_directory.specs.Refusals.{Refusal}
use Rattle.keel_directory.specs.Replays.{Replay, logs_from}
use Rattle.keel_directory.specs.TableFiles.{TableFile, TablesAre, TablesGive, AllOpen, bytes_of, refusal_of}
use Rattle.keel_directory.proofs.Needed.{unneeded}

not_held : (o : Option FileName) (f : StoreRead) (p : Point) → held f p ≡ without_current o → ⊥
not_held None f p e = cc
not_held (Some n) f p e = cc

made_of : (m : ℕ) (version : Contents) (files : List TableFile) (replay : Replay) (f : StoreRead) → LogsOf [] m version files (Ok replay) (Ok f)
    → f ≡ record { manifest = m; version = version; tables = files; replay = replay }
made_of m version files replay f is = cc is

manifest_of : (m : ℕ) (version : Contents) (files : List TableFile) (replay : Replay) (f : StoreRead) → LogsOf [] m version files (Ok replay) (Ok f) → f.manifest ≡ m
manifest_of m version files replay f is = ap (λ (g : StoreRead). g.manifest) (made_of m version files replay f is)

version_of : (m : ℕ) (version : Contents) (files : List TableFile) (replay : Replay) (f : StoreRead) → LogsOf [] m version files (Ok replay) (Ok f) → f.version ≡ version
version_of m version files replay f is = ap (λ (g : StoreRead). g.version) (made_of m version files replay f is)

module _ (a b : Named (List ℕ)) (more : (name : FileName) (bytes : List ℕ) → find name a ≡ Some bytes → find name b ≡ Some bytes) where
  same_some : (name : FileName) (bytes : List ℕ) → find name a ≡ Some bytes → find name a ≡ find name b
  same_some name bytes is = is ∙ sym (more name bytes is)

  tables_open : (tables : List Added) (files : List TableFile) → AllOpen a tables files → AllByRecursion (λ t. bytes_of a t ≡ bytes_of b t) tables
  tables_open [] [] are = tt
  tables_open [] (file ∷ files) are = absurd are
  tables_open (table ∷ tables) [] are = absurd are
  tables_open (table ∷ tables) (file ∷ files) are = (same_some _ file.bytes are.0.there, tables_open tables files are.1)

  tables_given : (refusal : Option Refusal) (tables : List Added) (files : List TableFile) → TablesGive refusal a tables (Ok files) → AllByRecursion (λ t. bytes_of a t ≡ bytes_of b t) tables
  tables_given (Some r) tables files is = cc
  tables_given None tables files are = tables_open tables files are

  abbrev Same : StoreRead → Type 0
  Same f = (find (Manifest f.manifest) a ≡ find (Manifest f.manifest) b) × AllByRecursion (λ t. bytes_of a t ≡ bytes_of b t) f.version.tables

  by_logs : (m : ℕ) (version : Contents) (files : List TableFile) (logs : Result Replay Refusal) (f : StoreRead) → LogsOf a m version files logs (Ok f)
      → find (Manifest m) a ≡ find (Manifest m) b → AllByRecursion (λ t. bytes_of a t ≡ bytes_of b t) version.tables → Same f
  by_logs m version files (Ok replay) f is manifest tables = (rw (manifest_of m version files replay f is) manifest, rw (version_of m version files replay f is) tables)
  by_logs m version files (Err r) f is manifest tables = cc

  by_tables : (m : ℕ) (version : Contents) (tables : Result (List TableFile) Refusal) (f : StoreRead) → find (Manifest m) a ≡ find (Manifest m) b
      → TablesAre a version.tables tables → TablesOf a m version tables (Ok f) → Same f
  by_tables m version (Ok files) f manifest are is = by_logs m version files is.0 f is.2 manifest (tables_given (refusal_of a version.tables) version.tables files are)
  by_tables m version (Err r) f manifest are is = cc

  manifest_there : (m : ℕ) (found : Option (List ℕ)) (version : Contents) → find (Manifest m) a ≡ found → ManifestIs found (Ok version) → find (Manifest m) a ≡ find (Manifest m) b
  manifest_there m None version at is = cc
  manifest_there m (Some bytes) version at is = same_some (Manifest m) bytes at

  by_version : (m : ℕ) (version : Result Contents Refusal) (f : StoreRead) → ManifestIs (find (Manifest m) a) version → VersionOf a m version (Ok f) → Same f
  by_version m (Ok version) f is of = by_tables m version of.0 f (manifest_there m (find (Manifest m) a) version refl is) of.1 of.2
  by_version m (Err r) f is of = cc

  by_manifest : (manifest : Result ℕ Refusal) (f : StoreRead) → ManifestOf a manifest (Ok f) → Same f
  by_manifest (Ok m) f of = by_version m of.0 f of.1 of.2
  by_manifest (Err r) f of = cc

  by_answer : (answer : Result StoreRead Refusal) (current : List ℕ) (f : StoreRead) (point : Point) → FoundBy a current answer → PointOf answer (held f point) → Same f
  by_answer (Ok found) current f point found_by is = subst Same (sym is.0) (by_manifest found_by.0 found found_by.2)
  by_answer (Err r) current f point found_by is = absurd is

  by_current : (current : Option (List ℕ)) (f : StoreRead) (point : Point) → find Current a ≡ current → WithCurrent a current (held f point) → (find Current a ≡ find Current b) × Same f
  by_current None f point at is = absurd (not_held (first_used a) f point is)
  by_current (Some current) f point at is = (same_some Current current at, by_answer is.0 current f point is.1 is.2)

  by_reading : (f : StoreRead) (point : Point) → IsReading a (held f point) → (find Current a ≡ find Current b) × Same f
  unfolding IsReading
  by_reading f point is = by_current (find Current a) f point refl is

  -- where the logs are the same, what is held stays
  pub held_over : (f : StoreRead) (point : Point) → logs_from f.version.min_log a ≡ logs_from f.version.min_log b → IsReading a (held f point) → IsReading b (held f point)
  held_over f point logs is =
      let same = by_reading f point is in
      unneeded a b f point is (record { current = same.0; manifest = same.1.0; tables = same.1.1; logs = logs })
