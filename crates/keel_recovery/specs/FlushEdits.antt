-- The edit of a flush: what its calls leave of what is kept, what it makes of the tables, and what its end leaves behind.
use Rattle.std.specs.Prelude.{◌≡◌, ℕ, ◌+◌, ◌^◌, ◌<◌, ◌≤◌, List, [], ◌∷◌, ◌++◌, All, length, take, Some}
use Rattle.keel_base.specs.declared.file_name.FileName.TheVariants.{Log, Table, Manifest}
use Rattle.keel_disk.specs.declared.change.Change.{Change}
use Rattle.keel_disk.specs.declared.change.Change.TheVariants.{Append, Sync}
use Rattle.keel_disk.specs.declared.change.Change.TheVariants as change
use Rattle.keel_disk.specs.Sound.{IsOneToOne}
use Rattle.keel_disk.specs.State.{State, file_at}
use Rattle.keel_disk.specs.Step.{DiskStep}
use Rattle.keel_disk.specs.Steady.{IsGoing, IsSteady}
use Rattle.keel_directory.specs.TableFiles.{TableFile}
use Rattle.keel_draft.specs.Drafts.{IsDraftOf, bytes_in}
use Rattle.keel_edit.specs.declared.edit.Edit.{Edit}
use Rattle.keel_edit.specs.Spelling.{IsAdded, IsEdit, spelling}
use Rattle.keel_flush.specs.Plans.{Job, edit_of, number_of}
use Rattle.keel_frag.specs.Writing.{record_bytes}
use Rattle.keel_machine.specs.Flushing.{levels_with}
use Rattle.keel_machine.specs.States.{Story, entries_in}
use Rattle.keel_version.specs.Tables.{AreLevels, Contents, nothing}
use Rattle.keel_recovery.specs.Calls.{Answer, ByAnswer}
use Rattle.keel_recovery.specs.Chains.{Chained}
use Rattle.keel_recovery.specs.FlushFiles.{AreTablesBelow, IsFast}
use Rattle.keel_recovery.specs.Keeping.{Keeps}
use Rattle.keel_recovery.specs.Roots.{Way, IsRoot, point_at, version_behind}

-- ---- the manifest in use

-- its name is steady, no call on it failed, and it has so many bytes
pub record IsOpenWay (way : Way) (size : ℕ) (state : State) : Type 0 where
  pub steady : IsSteady (Manifest way.manifest) way.file state
  pub going : IsGoing (file_at way.file state.files)
  pub size_is : length (file_at way.file state.files).meant ≡ size

-- with an edit more
abbrev pub with_edit : Edit → Way → Way
with_edit edit way = record way { edits = way.edits ++ edit ∷ [] }

-- all its edits are firm
abbrev pub all_firm : Way → Way
all_firm way = record way { firm = length way.edits }

-- An edit whose version the logs go on from. A crash leaves the manifest with it or without, also where the call failed.
abbrev pub EditAppendKeeps : Type 0
EditAppendKeeps =
    (way : Way) (place next_file size : ℕ) (logs : List Chained) (levels : List TableFile) (story : Story) (edit : Edit) (answer : Answer) (state after : State)
    → IsOneToOne state → Keeps (way ∷ []) place logs levels story next_file state → IsOpenWay way size state
    → IsEdit edit → IsRoot (way.edits ++ edit ∷ []) logs story next_file state
    → DiskStep state (Append (Manifest way.manifest) (record_bytes size (spelling edit))) answer after
    → ByAnswer answer
    (Keeps (with_edit edit way ∷ []) place logs levels story next_file after × IsOpenWay (with_edit edit way) (size + length (record_bytes size (spelling edit))) after)
    (Keeps (with_edit edit way ∷ []) place logs levels story next_file after) (after ≡ state)

-- Behind its sync a crash leaves it with all its edits.
abbrev pub EditSyncKeeps : Type 0
EditSyncKeeps =
    (way : Way) (place next_file size : ℕ) (logs : List Chained) (levels : List TableFile) (story : Story) (answer : Answer) (state after : State)
    → IsOneToOne state → Keeps (way ∷ []) place logs levels story next_file state → IsOpenWay way size state
    → DiskStep state (Sync (Manifest way.manifest)) answer after
    → ByAnswer answer
    (Keeps (all_firm way ∷ []) place logs levels story next_file after × IsOpenWay (all_firm way) size after)
    (Keeps (way ∷ []) place logs levels story next_file after) (after ≡ state)

-- a call of a group, or of a table: it isn't about a manifest
abbrev pub IsOfNoManifest : Change → Type 0
IsOfNoManifest (change.Create (Log number)) = Unit {0}
IsOfNoManifest (Append (Log number) bytes) = Unit {0}
IsOfNoManifest (Sync (Log number)) = Unit {0}
IsOfNoManifest (change.Create (Table number)) = Unit {0}
IsOfNoManifest (Append (Table number) bytes) = Unit {0}
IsOfNoManifest (Sync (Table number)) = Unit {0}
IsOfNoManifest change.SyncDir = Unit {0}
IsOfNoManifest _ = ⊥

abbrev pub OpenWayStays : Type 0
OpenWayStays =
    (way : Way) (size : ℕ) (change : Change) (answer : Answer) (state after : State)
    → IsOneToOne state → IsOfNoManifest change → DiskStep state change answer after → IsOpenWay way size state → IsOpenWay way size after

-- ---- what the manifest says

-- Its firm edits give the version of these tables, whose last number is that, and which reads the logs from that one on.
pub record IsInUse (way : Way) (levels : List TableFile) (in_tables first_log next_file : ℕ) : Type 0 where
  pub version : Contents
  pub is_version : version_behind nothing (take way.firm way.edits) ≡ Some version
  pub tables : version.tables ≡ entries_in levels
  pub last : version.last_seq ≡ in_tables
  pub min_log : version.min_log ≤ first_log
  pub next : version.next_file ≤ next_file
  pub order : AreLevels (entries_in levels)
  pub each : All IsAdded (entries_in levels)

-- A flush of the segment whose log is the first, behind which others stand: all edits are firm, its table is, too.
pub record IsToAppend (way : Way) (place in_tables next_file : ℕ) (first next : Chained) (rest : List Chained) (levels : List TableFile) (story : Story) (job : Job) (state : State) : Type 0 where
  pub keeps : Keeps (way ∷ []) place (first ∷ next ∷ rest) levels story next_file state
  pub in_use : IsInUse way levels in_tables first.number next_file
  pub all_firm : way.firm ≡ length way.edits
  pub to : (point_at place story).seq ≡ in_tables
  pub draft : IsDraftOf in_tables first.batches job.draft
  pub some : 1 ≤ length first.batches
  pub published : place + length first.batches ≤ length story.log
  pub min_log : job.min_log ≡ next.number
  pub table : IsFast (number_of job) (bytes_in job.draft) state
  pub below : AreTablesBelow (way ∷ []) levels (number_of job)
  pub drawn : 1 ≤ number_of job
  pub few : length levels + 1 < 2 ^ 32
  pub most : next_file ≤ 2 ^ 56
  pub numbered : number_of job < next_file

-- The edit is one that a manifest may hold, and the logs go on from its version, which has the table more.
pub record FlushGives (way : Way) (in_tables next_file : ℕ) (first next : Chained) (rest : List Chained) (levels : List TableFile) (story : Story) (job : Job) (state : State) : Type 0 where
  pub is_edit : IsEdit (edit_of job next_file)
  pub root : IsRoot (way.edits ++ edit_of job next_file ∷ []) (first ∷ next ∷ rest) story next_file state
  pub in_use : IsInUse (all_firm (with_edit (edit_of job next_file) way)) (levels_with job levels) job.draft.last next.number next_file

abbrev pub EditGives : Type 0
EditGives =
    (way : Way) (place in_tables next_file : ℕ) (first next : Chained) (rest : List Chained) (levels : List TableFile) (story : Story) (job : Job) (state : State)
    → IsToAppend way place in_tables next_file first next rest levels story job state → FlushGives way in_tables next_file first next rest levels story job state

-- ---- its end

-- Where all edits are firm, the last of which brought the table of the first log's batches, that log is needed no more.
abbrev pub FlushEnds : Type 0
FlushEnds =
    (way : Way) (place in_tables next_file : ℕ) (first next : Chained) (rest : List Chained) (levels : List TableFile) (story : Story) (job : Job) (state : State)
    → Keeps (way ∷ []) place (first ∷ next ∷ rest) levels story next_file state
    → way.firm ≡ length way.edits → IsInUse way (levels_with job levels) job.draft.last next.number next_file
    → (point_at place story).seq ≡ in_tables → IsDraftOf in_tables first.batches job.draft → 1 ≤ length first.batches → place + length first.batches ≤ length story.log
    → IsFast (number_of job) (bytes_in job.draft) state → number_of job < next_file
    → Keeps (way ∷ []) (place + length first.batches) (next ∷ rest) (levels_with job levels) story next_file state
