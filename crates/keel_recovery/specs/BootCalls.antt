-- What a boot has made of its files, by the calls that it has before it.
use Rattle.std.specs.Prelude.{◌≡◌, ◌⊎◌, ℕ, ◌+◌, ◌^◌, ◌<◌, ◌≤◌, false, List, [], ◌∷◌, ◌++◌, All, length, map, Option, Some, None}
use Rattle.std.specs.List.{AllByRecursion, flat_map}
use Rattle.keel_base.specs.declared.file_name.FileName.{FileName}
use Rattle.keel_base.specs.declared.file_name.FileName.TheVariants.{Log, Table, Manifest, Current, Temp}
use Rattle.keel_base.specs.declared.op.Op.{Op}
use Rattle.keel_base.specs.Rows.{IsMapOf}
use Rattle.keel_batch.specs.Batches.{AreBatches}
use Rattle.keel_disk.specs.State.{State as Disk, new_file, file_at}
use Rattle.keel_disk.specs.Steady.{IsAbsent, IsGoing, IsHeld, IsPresent, IsSteady, file_behind}
use Rattle.keel_edit.specs.declared.edit.Added.{Added}
use Rattle.keel_edit.specs.Spelling.{IsAdded, spelling}
use Rattle.keel_frag.specs.Writing.{record_bytes}
use Rattle.keel_name.specs.Current.{current_of}
use Rattle.keel_version.specs.Tables.{AreLevels}
use Rattle.keel_directory.specs.Sound.{IsAsSaid, AllAgree, AreLayered}
use Rattle.keel_directory.specs.TableFiles.{TableFile, table_rows}
use Rattle.keel_machine.specs.Reads.{segment_rows}
use Rattle.keel_machine.specs.Resuming.{AreTables, batches_in}
use Rattle.keel_machine.specs.States.{State, Story, Resumption, entries_in, no_batches, point_of}
use Rattle.keel_manifest.specs.declared.roll.RollCall.{RollCall}
use Rattle.keel_manifest.specs.declared.roll.RollCall.TheVariants.{MakeManifest, AppendEdit, SyncManifest, MakeTemporary, AppendName, SyncTemporary, Rename, SyncDirectory}
use Rattle.keel_draft.specs.Drafts.{Draft, bytes_in, count_ops, pieces_in}
use Rattle.keel_resume.specs.Plans.{Job, AddPiece, SyncTable, SyncLogName, Rolls, edit_of, left_of, plan_of, roll_acts}
use Rattle.keel_recovery.specs.Booting.{IsBooting}
use Rattle.keel_recovery.specs.Waiting.{ops_waiting}

-- ---- what the directory holds, which no call of the boot changes

-- all batches of segments, in order
abbrev pub joined : List (List (List Op)) → List (List Op)
joined [] = []
joined (batches ∷ segments) = batches ++ joined segments

-- The tables are as they are said, in the order of a version; the batches of the segments are numbered on behind them, within
-- their limits; and together they say what the story says.
pub record BootFacts (levels : List TableFile) (segments : List (List (List Op))) (in_tables : ℕ) (story : Story) : Type 0 where
  pub said : AllByRecursion (IsAsSaid in_tables) levels
  pub agree : AllAgree (flat_map table_rows levels)
  pub layered : AllByRecursion (λ upper. AllByRecursion (AreLayered upper) levels) levels
  pub entries : All IsAdded (entries_in levels)
  pub order : AreLevels (entries_in levels)
  pub limits : AreBatches in_tables (joined segments)
  pub each_some : AllByRecursion (λ (batches : List (List Op)). 1 ≤ length batches) segments
  pub in_known : in_tables ≤ 2 ^ 56
  pub map : IsMapOf (flat_map table_rows levels ++ segment_rows in_tables segments) (point_of story).values
  pub seq : in_tables + count_ops (joined segments) ≡ (point_of story).seq

-- ---- files

-- a file that was made since the job began is there as read, firm in whole, with these bytes, and no call on it failed
pub record IsMade (bound : ℕ) (name : FileName) (bytes : List ℕ) (state : Disk) : Type 0 where
  pub file : ℕ
  pub present : IsPresent name file state
  pub newer : bound ≤ file
  pub held : IsHeld (file_at file state.files) bytes
  pub clean : (file_at file state.files).spoilt ≡ false

-- whatever operations are done, no log has this file
abbrev pub IsNoLog : ℕ → Disk → Type 0
IsNoLog file state = (count n : ℕ) → file_behind count (Log n) state ≡ Some file → ⊥

-- it has these bytes so far, and no call on it failed
pub record IsBeingMade (bound : ℕ) (name : FileName) (bytes : List ℕ) (state : Disk) : Type 0 where
  pub file : ℕ
  pub present : IsPresent name file state
  pub newer : bound ≤ file
  pub no_log : IsNoLog file state
  pub meant : (file_at file state.files).meant ≡ bytes
  pub going : IsGoing (file_at file state.files)

-- a log that was made since, and has no byte
pub record IsEmptyLog (bound number : ℕ) (state : Disk) : Type 0 where
  pub file : ℕ
  pub present : IsPresent (Log number) file state
  pub newer : bound ≤ file
  pub is_new : file_at file state.files ≡ new_file

-- its name is steady, too
pub record IsFixed (bound : ℕ) (name : FileName) (bytes : List ℕ) (state : Disk) : Type 0 where
  pub file : ℕ
  pub steady : IsSteady name file state
  pub newer : bound ≤ file
  pub held : IsHeld (file_at file state.files) bytes

-- so it is with the tables of drafts, which have these numbers
abbrev pub AreTablesSo : ((name : FileName) (bytes : List ℕ) → Type 0) → List ℕ → List Draft → Type 0
AreTablesSo Is [] [] = Unit {0}
AreTablesSo Is (number ∷ numbers) (draft ∷ drafts) = Is (Table number) (bytes_in draft) × AreTablesSo Is numbers drafts
AreTablesSo Is _ _ = ⊥

abbrev pub AreMade : ℕ → List ℕ → List Draft → Disk → Type 0
AreMade bound numbers drafts state = AreTablesSo (λ name bytes. IsMade bound name bytes state) numbers drafts

abbrev pub AreFixed : ℕ → List ℕ → List Draft → Disk → Type 0
AreFixed bound numbers drafts state = AreTablesSo (λ name bytes. IsFixed bound name bytes state) numbers drafts

-- numbers that were drawn rise
abbrev pub AreRising : List ℕ → ℕ → Type 0
AreRising [] next_file = Unit {0}
AreRising (number ∷ numbers) next_file = (1 ≤ number) × (number < next_file) × AllByRecursion (λ later. number < later) numbers × AreRising numbers next_file

-- all that was there at the opening is numbered below the tables that were made
abbrev pub AreOver : List Added → List ℕ → Type 0
AreOver live numbers = AllByRecursion (λ (table : Added). AllByRecursion (λ number. table.number < number) numbers) live

-- ---- stages

-- as no file of the roll was made, so no directory has CURRENT moved
abbrev pub IsUnmoved : ℕ → Disk → Type 0
IsUnmoved bound state = (count current : ℕ) → file_behind count Current state ≡ Some current → bound ≤ current → ⊥

-- some tables are made, and others aren't begun
pub record AtTables (bound : ℕ) (job : Job) (state : Disk) : Type 0 where
  pub done : List Draft
  pub rest : List Draft
  pub drafts_are : job.drafts ≡ done ++ rest
  pub made : AreMade bound job.progress.tables done state
  pub left_is : left_of job ≡ plan_of rest
  pub unmoved : IsUnmoved bound state

-- one more is there with a first part of its pieces
pub record InTable (bound : ℕ) (job : Job) (state : Disk) : Type 0 where
  pub done : List Draft
  pub draft : Draft
  pub rest : List Draft
  pub drafts_are : job.drafts ≡ done ++ draft ∷ rest
  pub numbers : List ℕ
  pub number : ℕ
  pub numbers_are : job.progress.tables ≡ numbers ++ number ∷ []
  pub made : AreMade bound numbers done state
  pub given : List (List ℕ)
  pub todo : List (List ℕ)
  pub pieces_are : pieces_in draft ≡ given ++ todo
  pub left_is : left_of job ≡ map AddPiece todo ++ SyncTable ∷ plan_of rest
  pub being : IsBeingMade bound (Table number) (flat_map (λ piece. piece) given) state
  pub unmoved : IsUnmoved bound state

-- logs from a number on were made since
abbrev pub AreNewLogs : ℕ → ℕ → Disk → Type 0
AreNewLogs bound number state = (count n file : ℕ) → number ≤ n → file_behind count (Log n) state ≡ Some file → bound ≤ file

-- all tables are made, and the log is there
pub record AtLogName (bound : ℕ) (job : Job) (next_file : ℕ) (state : Disk) : Type 0 where
  pub made : AreMade bound job.progress.tables job.drafts state
  pub log : ℕ
  pub log_is : job.progress.log ≡ Some log
  pub being : IsEmptyLog bound log state
  pub logs : AreNewLogs bound log state
  pub log_drawn : log < next_file
  pub most : next_file ≤ 2 ^ 56
  pub left_is : left_of job ≡ SyncLogName ∷ roll_acts
  pub unmoved : IsUnmoved bound state

-- what the roll has made, by the calls that it has left
abbrev pub RollMade : ℕ → Job → ℕ → Disk → List RollCall → Type 0
RollMade bound job next_file state (MakeManifest ∷ left) = IsUnmoved bound state
RollMade bound job next_file state (AppendEdit ∷ left) =
    (manifest : ℕ) × (job.progress.manifest ≡ Some manifest) × (manifest < next_file) × IsBeingMade bound (Manifest manifest) [] state × IsAbsent (Temp manifest) state × IsUnmoved bound state
RollMade bound job next_file state (SyncManifest ∷ left) =
    (manifest : ℕ) × (job.progress.manifest ≡ Some manifest) × (manifest < next_file)
    × IsBeingMade bound (Manifest manifest) (record_bytes 0 (spelling (edit_of job next_file))) state × IsAbsent (Temp manifest) state × IsUnmoved bound state
RollMade bound job next_file state (MakeTemporary ∷ left) =
    (manifest : ℕ) × (job.progress.manifest ≡ Some manifest) × (manifest < next_file)
    × IsMade bound (Manifest manifest) (record_bytes 0 (spelling (edit_of job next_file))) state × IsAbsent (Temp manifest) state × IsUnmoved bound state
RollMade bound job next_file state (AppendName ∷ left) =
    (manifest : ℕ) × (job.progress.manifest ≡ Some manifest) × (job.progress.temporary ≡ Some manifest)
    × IsMade bound (Manifest manifest) (record_bytes 0 (spelling (edit_of job next_file))) state × IsBeingMade bound (Temp manifest) [] state × IsUnmoved bound state
RollMade bound job next_file state (SyncTemporary ∷ left) =
    (manifest : ℕ) × (job.progress.manifest ≡ Some manifest) × (job.progress.temporary ≡ Some manifest)
    × IsMade bound (Manifest manifest) (record_bytes 0 (spelling (edit_of job next_file))) state × IsBeingMade bound (Temp manifest) (current_of manifest) state × IsUnmoved bound state
RollMade bound job next_file state (Rename ∷ left) =
    (manifest : ℕ) × (job.progress.manifest ≡ Some manifest) × (job.progress.temporary ≡ Some manifest)
    × IsMade bound (Manifest manifest) (record_bytes 0 (spelling (edit_of job next_file))) state × IsMade bound (Temp manifest) (current_of manifest) state × IsUnmoved bound state
RollMade bound job next_file state (SyncDirectory ∷ left) =
    (manifest : ℕ) × (job.progress.manifest ≡ Some manifest)
    × IsMade bound (Manifest manifest) (record_bytes 0 (spelling (edit_of job next_file))) state × IsMade bound Current (current_of manifest) state
RollMade bound job next_file state [] = ⊥

-- a log that was made since has no byte, and its name is steady
pub record IsFixedLog (bound number : ℕ) (state : Disk) : Type 0 where
  pub file : ℕ
  pub steady : IsSteady (Log number) file state
  pub newer : bound ≤ file
  pub is_new : file_at file state.files ≡ new_file

-- tables and log are made, and their names are steady
pub record AreAllFixed (bound : ℕ) (job : Job) (next_file : ℕ) (state : Disk) : Type 0 where
  pub fixed : AreFixed bound job.progress.tables job.drafts state
  pub log : ℕ
  pub log_is : job.progress.log ≡ Some log
  pub log_fixed : IsFixedLog bound log state
  pub logs : AreNewLogs bound log state
  pub log_drawn : log < next_file
  pub most : next_file ≤ 2 ^ 56

-- the roll is under way
pub record AtRoll (bound : ℕ) (job : Job) (next_file : ℕ) (state : Disk) : Type 0 where
  pub parts : AreAllFixed bound job next_file state
  pub rolls : List RollCall
  pub left_is : left_of job ≡ map Rolls rolls
  pub made : RollMade bound job next_file state rolls

-- a boot is at one of these
abbrev pub IsAtStage : ℕ → Job → ℕ → Disk → Type 0
IsAtStage bound job next_file state =
    AtTables bound job state ⊎ (InTable bound job state ⊎ (AtLogName bound job next_file state ⊎ AtRoll bound job next_file state))

-- What a running boot has: its tables are those of the segments, what it has made is there, and its numbers rise.
pub record HasMadeSo (bound : ℕ) (s : State) (job : Job) (state : Disk) : Type 0 where
  pub tables : AreTables s job.drafts
  pub live_is : job.live ≡ entries_in s.levels
  pub unstarted : s.jobs.started ≡ false
  pub last_is : job.last_seq ≡ (point_of s.story).seq
  pub rising : AreRising job.progress.tables s.numbers.next_file
  pub over : AreOver job.live job.progress.tables
  pub stage : IsAtStage bound job s.numbers.next_file state

abbrev pub RunsSo : ℕ → State → Option Resumption → Disk → Type 0
RunsSo bound s None state = Unit {0}
RunsSo bound s (Some running) state = HasMadeSo bound s running.job state

-- The device of a store whose boot hasn't cleared, or that a resume took over: as it was when the job began or was last tried,
-- and what was made since.
pub record BootKept (s : State) (state : Disk) : Type 0 where
  pub bound : ℕ
  pub old : Disk
  pub booting : IsBooting bound old s.levels s.story s.numbers.next_file state
  pub floor_within : s.story.floor ≤ length s.story.log
  pub numbered : 1 ≤ s.numbers.next_file
  -- a new store has no batch
  pub bare : (count : ℕ) → file_behind count Current old ≡ None → s.segments.immutable ≡ []
  pub facts : BootFacts s.levels (batches_in s.segments.immutable) s.numbers.in_tables s.story
  pub runs : RunsSo bound s s.jobs.resume.running state
  pub none_active : s.segments.active ≡ no_batches
  pub waits : AreBatches (point_of s.story).seq (ops_waiting s.writing.waiting)
  pub no_group : s.jobs.write.running ≡ None
  pub no_flush : s.jobs.flush.running ≡ None
