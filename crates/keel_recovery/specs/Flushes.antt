-- What a store keeps of its manifest, and of the flush that runs.
use Rattle.std.specs.Prelude.{◌≡◌, ◌⊎◌, ℕ, ◌+◌, ◌^◌, ◌<◌, ◌≤◌, List, [], ◌∷◌, ◌++◌, length, map, Option, Some, None}
use Rattle.std.specs.List.{flat_map}
use Rattle.keel_base.specs.declared.failure.Failure.{Failure}
use Rattle.keel_disk.specs.State.{State as Disk}
use Rattle.keel_directory.specs.TableFiles.{TableFile}
use Rattle.keel_draft.specs.Drafts.{IsDraftOf, bytes_in, pieces_in}
use Rattle.keel_edit.specs.declared.edit.Edit.{Edit}
use Rattle.keel_flush.specs.Plans.{Job, AddPiece, SyncTable, AppendEdit, SyncManifest, edit_acts, left_of, plan_of}
use Rattle.keel_manifest.specs.declared.manifest.Progress.{Progress}
use Rattle.keel_manifest.specs.declared.manifest.Progress.TheVariants.{Firm, Appended}
use Rattle.keel_manifest.specs.State.{ManifestState}
use Rattle.keel_machine.specs.Flushing.{levels_with}
use Rattle.keel_recovery.specs.Chains.{Chained}
use Rattle.keel_recovery.specs.FlushEdits.{IsInUse, IsOpenWay, all_firm, with_edit}
use Rattle.keel_recovery.specs.FlushFiles.{AreTablesBelow, IsBegun, IsFast, IsWhole}
use Rattle.keel_recovery.specs.Roots.{Way}

abbrev pub first_number : List Chained → ℕ
first_number [] = 0
first_number (log ∷ logs) = log.number

-- ---- the manifest

-- the manifest in use as the store knows it
pub record IsKnown (way : Way) (progress : Progress) (manifest : ManifestState) : Type 0 where
  pub edits : ℕ
  pub in_use : manifest.in_use ≡ Some (record { number = way.manifest; edits = edits; progress = progress })

-- an edit may be appended to it: all are firm, and no call on it failed
pub record IsReady (way : Way) (manifest : ManifestState) (state : Disk) : Type 0 where
  pub size : ℕ
  pub opened : IsOpenWay way size state
  pub firm : way.firm ≡ length way.edits
  pub known : IsKnown way (Firm size) manifest

-- its last edit was appended and isn't firm
pub record IsBetween (way : Way) (edit : Edit) (manifest : ManifestState) (state : Disk) : Type 0 where
  pub own : Way
  pub way_is : way ≡ with_edit edit own
  pub firm : own.firm ≡ length own.edits
  pub size : ℕ
  pub opened : IsOpenWay way size state
  pub known : IsKnown way (Appended size) manifest

-- ---- the flush

-- its table was made, with a number that no table had
pub record HasTable (way : Way) (levels : List TableFile) (job : Job) (next_file number : ℕ) : Type 0 where
  pub is : job.progress.table ≡ Some number
  pub least : 1 ≤ number
  pub drawn : number < next_file
  pub below : AreTablesBelow (way ∷ []) levels number

-- it has a first part of its pieces
pub record InTable (job : Job) (number : ℕ) (state : Disk) : Type 0 where
  pub given : List (List ℕ)
  pub todo : List (List ℕ)
  pub pieces_are : pieces_in job.draft ≡ given ++ todo
  pub left_is : left_of job ≡ map AddPiece todo ++ SyncTable ∷ edit_acts
  pub begun : IsBegun number (flat_map (λ piece. piece) given) state

-- it is firm, and its name isn't
pub record AtName (job : Job) (number : ℕ) (state : Disk) : Type 0 where
  pub left_is : left_of job ≡ edit_acts
  pub whole : IsWhole number (bytes_in job.draft) state

-- its name is firm, too
pub record AtEdit (job : Job) (number : ℕ) (state : Disk) : Type 0 where
  pub left_is : left_of job ≡ AppendEdit ∷ SyncManifest ∷ []
  pub fast : IsFast number (bytes_in job.draft) state

abbrev pub HasMade : Job → ℕ → Disk → Type 0
HasMade job number state = InTable job number state ⊎ (AtName job number state ⊎ AtEdit job number state)

-- Its edit wasn't handed over. It has begun its table, or hasn't.
pub record IsBeforeEdit (way : Way) (levels : List TableFile) (job : Job) (next_file : ℕ) (manifest : ManifestState) (state : Disk) : Type 0 where
  pub ready : IsReady way manifest state
  pub stage : (left_of job ≡ plan_of job.draft) ⊎ ((number : ℕ) × HasTable way levels job next_file number × HasMade job number state)

-- Its edit was appended, and is to be synced.
pub record AtSync (way : Way) (levels : List TableFile) (job : Job) (next_file : ℕ) (manifest : ManifestState) (state : Disk) : Type 0 where
  pub left_is : left_of job ≡ SyncManifest ∷ []
  pub number : ℕ
  pub table : job.progress.table ≡ Some number
  pub drawn : number < next_file
  pub fast : IsFast number (bytes_in job.draft) state
  pub edit : Edit
  pub between : IsBetween way edit manifest state
  pub gives : IsInUse (all_firm way) (levels_with job levels) job.draft.last job.min_log next_file

-- A flush of the segment whose log is the first.
pub record IsFlushing (way : Way) (levels : List TableFile) (in_tables : ℕ) (logs : List Chained) (job : Job) (next_file : ℕ) (manifest : ManifestState) (state : Disk) : Type 0 where
  pub first : Chained
  pub next : Chained
  pub rest : List Chained
  pub logs_are : logs ≡ first ∷ next ∷ rest
  pub draft : IsDraftOf in_tables first.batches job.draft
  pub some : 1 ≤ length first.batches
  pub min_log : job.min_log ≡ next.number
  pub few : length levels + 1 < 2 ^ 32
  pub stage : IsBeforeEdit way levels job next_file manifest state ⊎ AtSync way levels job next_file manifest state

-- Where no flush runs and writes aren't stopped, one may begin.
abbrev pub FlushesBy : Option Job → Option Failure → Way → List TableFile → ℕ → List Chained → ℕ → ManifestState → Disk → Type 0
FlushesBy (Some job) stops way levels in_tables logs next_file manifest state = IsFlushing way levels in_tables logs job next_file manifest state
FlushesBy None None way levels in_tables logs next_file manifest state = IsReady way manifest state
FlushesBy None (Some failure) way levels in_tables logs next_file manifest state = Unit {0}

-- The one manifest in use, its tables, and the flush that runs.
pub record HasFlush (way : Way) (levels : List TableFile) (in_tables : ℕ) (logs : List Chained) (stops : Option Failure) (flush : Option Job) (next_file : ℕ) (manifest : ManifestState) (state : Disk) : Type 0 where
  pub in_use : IsInUse way levels in_tables (first_number logs) next_file
  pub most : next_file ≤ 2 ^ 56
  pub goes : FlushesBy flush stops way levels in_tables logs next_file manifest state
