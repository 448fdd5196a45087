-- The readings that a crash may leave of manifests, and the tables that each of them names.
use Rattle.std.specs.Prelude.{◌≡◌, ◌⊎◌, ℕ, ◌<◌, ◌≤◌, ◌++◌, false, nat_le, List, [], ◌∷◌, length, take, map, Option, Some, None, Result, Ok, Err, if◌then◌else◌}
use Rattle.std.specs.List.{AllByRecursion, flat_map}
use Rattle.keel_base.specs.Points.{Point, fold_batches}
use Rattle.keel_base.specs.Rows.{IsMapOf}
use Rattle.keel_base.specs.declared.file_name.FileName.TheVariants.{Table, Manifest, Current}
use Rattle.keel_disk.specs.State.{State, file_at, has_waiting_cut}
use Rattle.keel_disk.specs.Steady.{file_behind, IsSteady, IsHeld}
use Rattle.keel_edit.specs.declared.edit.Added.{Added}
use Rattle.keel_edit.specs.declared.edit.Edit.{Edit}
use Rattle.keel_edit.specs.Spelling.{spelling, IsEdit}
use Rattle.keel_version.specs.Tables.{Contents, nothing}
use Rattle.keel_version.specs.Applying.{applied}
use Rattle.keel_directory.specs.TableFiles.{TableFile, table_rows, open_sized}
use Rattle.keel_directory.specs.Sound.{IsAsSaid, AllAgree, AreLayered}
use Rattle.keel_frag.specs.Writing.{records_bytes}
use Rattle.keel_name.specs.Current.{current_of}
use Rattle.keel_machine.specs.States.{Story}
use Rattle.keel_recovery.specs.Chains.{Chained, size_of_first, OthersEmpty}

-- the point behind the first so many batches of a story
abbrev pub point_at : ℕ → Story → Point
point_at count story = fold_batches story.start (take count (story.log ++ story.limbo))

-- ---- manifests

-- A manifest that CURRENT may name: all edits that were handed to it, of which so many at least are firm.
pub record Way : Type 0 where
  pub manifest : ℕ
  pub file : ℕ
  pub edits : List Edit
  pub firm : ℕ

-- its file holds the records of its edits
pub record IsWay (way : Way) (state : State) : Type 0 where
  pub some : 1 ≤ way.firm
  pub within : way.firm ≤ length way.edits
  pub are_edits : AllByRecursion IsEdit way.edits
  pub meant_is : (file_at way.file state.files).meant ≡ records_bytes 0 (map spelling way.edits)
  pub firm_to : size_of_first way.firm (map spelling way.edits) ≤ (file_at way.file state.files).firm
  pub read_to : size_of_first way.firm (map spelling way.edits) ≤ length (file_at way.file state.files).read
  pub not_cut : has_waiting_cut way.file state.waiting ≡ false

-- behind so many of the waiting operations CURRENT names it, and it is there
pub record Goes (count : ℕ) (way : Way) (state : State) : Type 0 where
  pub current : ℕ
  pub named : file_behind count Current state ≡ Some current
  pub says : IsHeld (file_at current state.files) (current_of way.manifest)
  pub not_cut : has_waiting_cut current state.waiting ≡ false
  pub manifest : file_behind count (Manifest way.manifest) state ≡ Some way.file

abbrev pub IsOneWay : List Way → Way → Type 0
IsOneWay [] way = ⊥
IsOneWay (one ∷ ways) way = (way ≡ one) ⊎ IsOneWay ways way

-- whatever operations are done, CURRENT names one of these
abbrev pub AllGo : List Way → State → Type 0
AllGo ways state = (count : ℕ) → (way : Way) × IsOneWay ways way × IsWay way state × Goes count way state

-- ---- versions

abbrev pub then_behind : {E : Type 0} → Result Contents E → (Contents → Option Contents) → Option Contents
then_behind (Err error) next = None
then_behind (Ok version) next = next version

-- the version behind edits that apply in turn
abbrev pub version_behind : Contents → List Edit → Option Contents
version_behind version [] = Some version
version_behind version (edit ∷ edits) = then_behind (applied edit version) (λ next. version_behind next edits)

-- ---- tables

-- a table's name is steady, its file is firm in whole, has its size, and opens
pub record IsFirmTable (state : State) (table : Added) (found : TableFile) : Type 0 where
  pub entry : found.entry ≡ table
  pub file : ℕ
  pub steady : IsSteady (Table table.number) file state
  pub held : IsHeld (file_at file state.files) found.bytes
  pub opens : open_sized table.size found.bytes ≡ Ok found.file

abbrev pub AreFirmTables : State → List Added → List TableFile → Type 0
AreFirmTables state [] [] = Unit {0}
AreFirmTables state (table ∷ tables) (found ∷ others) = IsFirmTable state table found × AreFirmTables state tables others
AreFirmTables state _ _ = ⊥

-- tables that are sound and say this map
pub record Say (last_seq : ℕ) (tables : List TableFile) (point : Point) : Type 0 where
  pub said : AllByRecursion (IsAsSaid last_seq) tables
  pub agree : AllAgree (flat_map table_rows tables)
  pub layered : AllByRecursion (λ upper. AllByRecursion (AreLayered upper) tables) tables
  pub map : IsMapOf (flat_map table_rows tables) point.values

-- ---- roots

-- the first log from a number on
abbrev pub first_from : ℕ → List Chained → Option Chained
first_from least [] = None
first_from least (log ∷ logs) = if nat_le least log.number then Some log else first_from least logs

-- The logs that a root reads begin where its tables end; where it has none, its tables have all that is published.
abbrev pub BeginsAt : ℕ → Option Chained → Story → Type 0
BeginsAt place None story = place ≡ length story.log
BeginsAt place (Some log) story = place ≡ log.before

-- The edits give a version whose tables are firm and say what the story says at a place, and the logs go on from there.
pub record IsRoot (edits : List Edit) (logs : List Chained) (story : Story) (next_file : ℕ) (state : State) : Type 0 where
  pub version : Contents
  pub is_version : version_behind nothing edits ≡ Some version
  pub place : ℕ
  pub published : place ≤ length story.log
  pub ends : version.last_seq ≡ (point_at place story).seq
  pub tables : List TableFile
  pub firm : AreFirmTables state version.tables tables
  pub say : Say version.last_seq tables (point_at place story)
  pub begins : BeginsAt place (first_from version.min_log logs) story
  pub others : OthersEmpty version.min_log logs state
  pub log_drawn : version.min_log < next_file
  pub drawn : AllByRecursion (λ (table : Added). table.number < next_file) version.tables

-- so it is with each number of edits that a crash may leave of a way
abbrev pub AreRoots : Way → List Chained → Story → ℕ → State → Type 0
AreRoots way logs story next_file state =
    (count : ℕ) → way.firm ≤ count → count ≤ length way.edits → IsRoot (take count way.edits) logs story next_file state

-- and of each way
abbrev pub AllRoots : List Way → List Chained → Story → ℕ → State → Type 0
AllRoots ways logs story next_file state = (way : Way) → IsOneWay ways way → AreRoots way logs story next_file state
