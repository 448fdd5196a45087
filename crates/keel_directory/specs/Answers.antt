-- What the program that reads a directory answers.
use Rattle.std.specs.Prelude.{◌≡◌, ℕ, ◌+◌, ◌<◌, ◌^◌, Bool, true, nat_le, List, Option, Some, None, Result, Ok, Err, if◌then◌else◌}
use Rattle.std.specs.List.{flat_map}
use Rattle.std.specs.FinMap.{entries, get}
use Rattle.keel_base.specs.declared.row.Row.{Row}
use Rattle.keel_base.specs.Keys.{key_eq}
use Rattle.keel_base.specs.Points.{Point, Values}
use Rattle.keel_base.specs.Rows.{kept, IsMapOf}
use Rattle.keel_disk.specs.Directory.{Named}
use Rattle.keel_edit.specs.declared.edit.Added.{Added}
use Rattle.keel_table.specs.Opening.{Damage, bad_check, bad_shape}
use Rattle.keel_directory.specs.declared.answer.Damaged.{Damaged}
use Rattle.keel_directory.specs.declared.answer.Damaged.TheVariants as damaged
use Rattle.keel_directory.specs.declared.answer.DirectoryRefusal.{DirectoryRefusal}
use Rattle.keel_directory.specs.declared.answer.DirectoryRefusal.TheVariants as errors
use Rattle.keel_directory.specs.declared.answer.Held.{Held}
use Rattle.keel_directory.specs.declared.answer.Directory.{Directory}
use Rattle.keel_directory.specs.declared.answer.Directory.TheVariants as directory
use Rattle.keel_directory.specs.Refusals.{Refusal, no_current, bad_current, damaged_manifest, missing_table, bad_table, bad_log, log_gap}
use Rattle.keel_directory.specs.TableFiles.{TableFile, TablesAre, table_rows}
use Rattle.keel_directory.specs.Reading.{StoreRead, FoundBy, PointOf, new, held, refused, IsReading}

-- the same damage
abbrev pub damage_named : Damaged → Damage
damage_named (damaged.BadCheck stored computed) = bad_check stored computed
damage_named (damaged.BadShape at) = bad_shape at

-- of the refusal that an error names this holds; want of memory names none
abbrev pub Names : DirectoryRefusal → (Refusal → Type 0) → Type 0
Names (errors.NoCurrent file) Holds = Holds (no_current file)
Names (errors.BadCurrent bytes) Holds = Holds (bad_current bytes)
Names (errors.DamagedManifest at) Holds = Holds (damaged_manifest at)
Names (errors.MissingTable number) Holds = Holds (missing_table number)
Names (errors.BadTable number damage) Holds = Holds (bad_table number (damage_named damage))
Names (errors.BadLog log at) Holds = Holds (bad_log log at)
Names (errors.LogGap log last found) Holds = Holds (log_gap log (last + 1) found)
Names errors.OutOfMemory Holds = Unit {0}

-- why logs aren't read; the number before a gap is far below 2 ^ 64
abbrev pub IsOfLogs : DirectoryRefusal → Type 0
IsOfLogs (errors.BadLog log at) = Unit {0}
IsOfLogs (errors.LogGap log last found) = last < 2 ^ 63
IsOfLogs errors.OutOfMemory = Unit {0}
IsOfLogs _ = ⊥

-- of what was answered, seen by view, this holds, unless memory ran out
abbrev pub Answers : {A B : Type 0} → (A → B) → (Result B Refusal → Type 0) → Result A DirectoryRefusal → Type 0
Answers view Holds (Ok x) = Holds (Ok (view x))
Answers view Holds (Err e) = Names e (λ refusal. Holds (Err refusal))

-- the rows of all tables, or the refusal
abbrev pub TableRowsAre : Named (List ℕ) → List Added → Result (List Row) Refusal → Type 0
TableRowsAre image tables (Ok rows) = (files : List TableFile) × TablesAre image tables (Ok files) × (rows ≡ flat_map table_rows files)
TableRowsAre image tables (Err refusal) = TablesAre image tables (Err refusal)

-- keys with their values
abbrev pub PairList : Type 0
PairList = List (List ℕ × List ℕ)

-- what a row leaves of its key is set, and the other keys keep theirs
abbrev pub Sets : Row → PairList → PairList → Type 0
Sets row pairs set =
    (values : Values) → entries values ≡ pairs
    → (after : Values) × (entries after ≡ set) × ((key : List ℕ) → get after key ≡ (if key_eq row.key key then kept row.kind row.value else get values key))

-- the pairs are those of the map of these rows
abbrev pub ArePairsOf : List Row → PairList → Type 0
ArePairsOf rows pairs = (values : Values) × IsMapOf rows values × (entries values ≡ pairs)

-- whether a row counts before another of its key
abbrev pub is_over : Row → Option Row → Bool
is_over row None = true
is_over row (Some other) = nat_le other.seq row.seq

-- the manifest, version, map and last number of what was found
pub record IsHeld (h : Held) (found : StoreRead) (point : Point) : Type 0 where
  pub manifest : found.manifest ≡ h.manifest
  pub version : found.version ≡ h.version
  pub pairs : entries point.values ≡ h.pairs
  pub last : point.seq ≡ h.last

-- what a directory whose CURRENT has these bytes holds, or why it isn't read
abbrev pub HoldsAs : Named (List ℕ) → List ℕ → Result Held DirectoryRefusal → Type 0
HoldsAs image current (Ok h) = (found : StoreRead) × (point : Point) × FoundBy image current (Ok found) × PointOf (Ok found) (held found point) × IsHeld h found point
HoldsAs image current (Err e) = Names e (λ refusal. FoundBy image current (Err refusal))

-- the directory is read so
abbrev pub Says : Named (List ℕ) → Directory → Type 0
Says image directory.New = IsReading image new
Says image (directory.Held h) = (found : StoreRead) × (point : Point) × IsReading image (held found point) × IsHeld h found point

-- what reading a directory answers is its reading, unless memory ran out
abbrev pub Reads : Named (List ℕ) → Result Directory DirectoryRefusal → Type 0
Reads image (Ok directory) = Says image directory
Reads image (Err e) = Names e (λ refusal. IsReading image (refused refusal))
