-- What a key has, and what the keys of a range have.
use Rattle.std.specs.Prelude.{◌≡◌, ℕ, ◌+◌, ◌==◌, ◌&&◌, ◌||◌, Bool, true, List, [], ◌∷◌, ◌++◌, length, map, Contains, Some, None}
use Rattle.std.specs.FinMap.{get}
use Rattle.std.specs.List.{AllByRecursion, flat_map}
use Rattle.keel_base.specs.declared.row.Row.{Row}
use Rattle.keel_base.specs.Keys.{key_le, key_lt}
use Rattle.keel_base.specs.Points.{Values}
use Rattle.keel_machine.specs.declared.answers.Got.{Got}
use Rattle.keel_machine.specs.declared.answers.Got.TheVariants.{Value, Absent, ReadFault, OutOfMemory}
use Rattle.keel_machine.specs.declared.answers.Scanned.{Scanned}
use Rattle.keel_machine.specs.declared.answers.Scanned.TheVariants as scanned
use Rattle.keel_base.specs.declared.op.Op.{Op}
use Rattle.keel_base.specs.Rows.{IsMapOf}
use Rattle.keel_directory.specs.Sound.{IsAsSaid}
use Rattle.keel_directory.specs.TableFiles.{TableFile, Opens, table_rows}
use Rattle.keel_disk.specs.Plain.{image_read}
use Rattle.keel_disk.specs.Told.{Told}
use Rattle.keel_disk.specs.Seen.{IsQuiet, Seen}
use Rattle.keel_machine.specs.States.{State, Footing, Known, Unknown, Segment, point_of}
use Rattle.keel_draft.specs.Drafts.{batch_rows, count_ops}
use Rattle.keel_table.specs.declared.fault.TableFault.{TableFault}
use Rattle.keel_table.specs.declared.fault.TableFault.TheVariants as fault

-- the map of the published batches
abbrev pub contents : State → Values
contents s = (point_of s.story).values

-- ---- what reads ask of the device

-- the rows of all segments, the first of which begins behind that number
abbrev pub segment_rows : ℕ → List (List (List Op)) → List Row
segment_rows seq [] = []
segment_rows seq (batches ∷ segments) = batch_rows (seq + 1) batches ++ segment_rows (seq + count_ops batches) segments

abbrev pub all_segments : State → List (List (List Op))
all_segments s = map (λ (segment : Segment). segment.batches) s.segments.immutable ++ s.segments.active.batches ∷ []

-- the rows of all tables and segments
abbrev pub rows_of : State → List Row
rows_of s = flat_map table_rows s.levels ++ segment_rows s.numbers.in_tables (all_segments s)

-- The device tells its state, and has the tables, which are whole. Of the rows of tables and segments the newest of a key says
-- what the store contains.
pub record BearsOut (s : State) : Type 0 where
  pub told : Told
  pub is_told : s.device.told ≡ Some told
  pub tables : AllByRecursion (λ (table : TableFile). Opens (image_read told.state) table.entry table) s.levels
  pub said : AllByRecursion (IsAsSaid s.numbers.in_tables) s.levels
  pub says : IsMapOf (rows_of s) (contents s)

-- of a known device that is so
abbrev pub WhereKnown : Footing → Type 0 → Type 0
WhereKnown Known holds = holds
WhereKnown Unknown holds = Unit {0}

abbrev pub IsBorne : State → Type 0
IsBorne s = WhereKnown s.footing (BearsOut s)

-- ---- reads

-- Why a table wasn't read: a fault that the device counted, or damage, which no known device has.
abbrev pub IsReadFault : State → TableFault → Seen → Type 0
IsReadFault s (fault.Device cause) device = IsQuiet s.device (Some cause) device
IsReadFault s fault.OutOfMemory device = ⊥
IsReadFault s damage device = (s.footing ≡ Unknown) × IsQuiet s.device None device

abbrev pub GetAnswers : State → List ℕ → Got → Seen → Type 0
GetAnswers s key (Value value) device = WhereKnown s.footing (get (contents s) key ≡ Some value) × IsQuiet s.device None device
GetAnswers s key Absent device = WhereKnown s.footing (get (contents s) key ≡ None) × IsQuiet s.device None device
GetAnswers s key (ReadFault number cause) device = IsReadFault s cause device
GetAnswers s key OutOfMemory device = IsQuiet s.device None device

-- ---- ranges

-- a key from one on and below another; an empty one is no upper bound
abbrev pub in_range : List ℕ → List ℕ → List ℕ → Bool
in_range from to key = key_le from key && ((length to == 0) || key_lt key to)

-- each key is over the one before
abbrev pub Rise : List Row → Type 0
Rise [] = Unit {0}
Rise (row ∷ []) = Unit {0}
Rise (row ∷ next ∷ rows) = (key_lt row.key next.key ≡ true) × Rise (next ∷ rows)

-- the row's key is in the range, and has its value
pub record IsRowOf (values : Values) (from to : List ℕ) (row : Row) : Type 0 where
  pub inside : in_range from to row.key ≡ true
  pub value_is : get values row.key ≡ Some row.value

-- The rows are those of the keys in the range that have a value, by key.
pub record AreRowsOf (values : Values) (from to : List ℕ) (rows : List Row) : Type 0 where
  pub rise : Rise rows
  pub each : AllByRecursion (IsRowOf values from to) rows
  pub whole : (key value : List ℕ) → in_range from to key ≡ true → get values key ≡ Some value → Contains (map (λ (row : Row). row.key) rows) key

abbrev pub ScanAnswers : State → List ℕ → List ℕ → Scanned → Seen → Type 0
ScanAnswers s from to (scanned.Rows rows) device = WhereKnown s.footing (AreRowsOf (contents s) from to rows) × IsQuiet s.device None device
ScanAnswers s from to (scanned.ReadFault number cause) device = IsReadFault s cause device
ScanAnswers s from to scanned.OutOfMemory device = IsQuiet s.device None device
