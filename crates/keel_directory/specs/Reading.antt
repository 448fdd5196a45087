-- The reading of a directory: what a store that is opened over it contains, or why it isn't opened. All rows of all
-- tables and logs stand in one list, and the newest of a key counts.
use Rattle.std.specs.Prelude.{◌≡◌, ℕ, Bool, true, false, not, ◌==◌, List, [], ◌∷◌, ◌++◌, length, Option, Some, None, Result, Ok, Err, if◌then◌else◌}
use Rattle.std.specs.List.{flat_map}
use Rattle.keel_base.specs.declared.row.Row.{Row}
use Rattle.keel_base.specs.declared.file_name.FileName.{FileName}
use Rattle.keel_base.specs.declared.file_name.FileName.TheVariants.{Log, Table, Trash, Manifest, Current}
use Rattle.keel_base.specs.Name.{listed_before}
use Rattle.keel_base.specs.Points.{Point, origin}
use Rattle.keel_base.specs.Rows.{IsMapOf}
use Rattle.keel_disk.specs.Directory.{Named, find}
use Rattle.keel_version.specs.Tables.{Contents}
use Rattle.keel_directory.specs.Refusals.{Refusal, no_current}
use Rattle.keel_directory.specs.Manifests.{CurrentIs, ManifestIs}
use Rattle.keel_directory.specs.TableFiles.{TableFile, TablesAre, table_rows}
use Rattle.keel_directory.specs.Replays.{Replay, LogsAre, replayed_rows}

-- ---- a new store

-- a table, a trash file, or a log with a byte: such a file is of no new store
abbrev pub is_used : FileName × List ℕ → Bool
is_used (Table n, bytes) = true
is_used (Trash n, bytes) = true
is_used (Log n, bytes) = not (length bytes == 0)
is_used _ = false

abbrev pub earlier : FileName → Option FileName → Option FileName
earlier name None = Some name
earlier name (Some other) = if listed_before other name then Some other else Some name

-- of the files in use the first of the listing
abbrev pub first_used : Named (List ℕ) → Option FileName
first_used [] = None
first_used (file ∷ rest) = if is_used file then earlier file.0 (first_used rest) else first_used rest

-- ---- the parts of a store

-- what a directory with CURRENT holds
pub record StoreRead : Type 0 where
  pub manifest : ℕ
  pub version : Contents
  pub tables : List TableFile
  pub replay : Replay

-- the rows of all tables and of all ops of the logs
abbrev pub all_rows : StoreRead → List Row
all_rows f = flat_map table_rows f.tables ++ replayed_rows f.replay.batches

-- each part is read where no part before it is refused
abbrev pub LogsOf : Named (List ℕ) → ℕ → Contents → List TableFile → Result Replay Refusal → Result StoreRead Refusal → Type 0
LogsOf image manifest version tables (Ok logs) answer = answer ≡ Ok (record { manifest = manifest; version = version; tables = tables; replay = logs })
LogsOf image manifest version tables (Err refusal) answer = answer ≡ Err refusal

abbrev pub TablesOf : Named (List ℕ) → ℕ → Contents → Result (List TableFile) Refusal → Result StoreRead Refusal → Type 0
TablesOf image manifest version (Ok tables) answer =
    (logs : Result Replay Refusal) × LogsAre image version.min_log version.last_seq logs × LogsOf image manifest version tables logs answer
TablesOf image manifest version (Err refusal) answer = answer ≡ Err refusal

abbrev pub VersionOf : Named (List ℕ) → ℕ → Result Contents Refusal → Result StoreRead Refusal → Type 0
VersionOf image manifest (Ok version) answer =
    (tables : Result (List TableFile) Refusal) × TablesAre image version.tables tables × TablesOf image manifest version tables answer
VersionOf image manifest (Err refusal) answer = answer ≡ Err refusal

abbrev pub ManifestOf : Named (List ℕ) → Result ℕ Refusal → Result StoreRead Refusal → Type 0
ManifestOf image (Ok manifest) answer =
    (version : Result Contents Refusal) × ManifestIs (find (Manifest manifest) image) version × VersionOf image manifest version answer
ManifestOf image (Err refusal) answer = answer ≡ Err refusal

-- what a directory whose CURRENT has these bytes holds
abbrev pub FoundBy : Named (List ℕ) → List ℕ → Result StoreRead Refusal → Type 0
FoundBy image current answer = (manifest : Result ℕ Refusal) × CurrentIs current manifest × ManifestOf image manifest answer

-- ---- the reading

pub data Reading : Type 0 where
  -- a new store
  new : Reading
  -- what the files hold, and the point that they lead to
  held : StoreRead → Point → Reading
  refused : Refusal → Reading

-- of all rows of a key the newest counts; the number is that of the last op
abbrev pub PointOf : Result StoreRead Refusal → Reading → Type 0
PointOf (Ok found) (held f point) = (f ≡ found) × IsMapOf (all_rows found) point.values × (point.seq ≡ found.replay.last)
PointOf (Err refusal) (refused r) = r ≡ refusal
PointOf _ _ = ⊥

-- without CURRENT a directory in use is refused
abbrev pub without_current : Option FileName → Reading
without_current None = new
without_current (Some name) = refused (no_current name)

abbrev pub WithCurrent : Named (List ℕ) → Option (List ℕ) → Reading → Type 0
WithCurrent image None reading = reading ≡ without_current (first_used image)
WithCurrent image (Some current) reading = (answer : Result StoreRead Refusal) × FoundBy image current answer × PointOf answer reading

-- the directory is read so
unfoldable pub IsReading : Named (List ℕ) → Reading → Type 0
IsReading image reading = WithCurrent image (find Current image) reading

-- the point of a reading, where it has one
abbrev pub HasPoint : Reading → Point → Type 0
HasPoint new point = point ≡ origin
HasPoint (held found at) point = point ≡ at
HasPoint (refused refusal) point = ⊥
