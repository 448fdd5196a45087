-- The calls of a job that leads to a new manifest: for each segment a table, then a new log, then the roll.
use Rattle.std.specs.Prelude.{ℕ, ◌+◌, Bool, true, false, List, [], ◌∷◌, ◌++◌, map, drop, Option, Some, None, unwrap_or, if◌then◌else◌}
use Rattle.std.specs.List.{flat_map}
use Rattle.keel_base.specs.declared.failure.Call.{Call}
use Rattle.keel_base.specs.declared.failure.Call.TheVariants as call
use Rattle.keel_base.specs.declared.failure.Failure.{Failure}
use Rattle.keel_base.specs.declared.failure.Fault.{Fault}
use Rattle.keel_base.specs.declared.failure.Reason.{Reason}
use Rattle.keel_base.specs.declared.failure.Reason.TheVariants as reason
use Rattle.keel_base.specs.declared.file_name.FileName.TheVariants as name
use Rattle.keel_disk.specs.declared.change.Change.{Change}
use Rattle.keel_disk.specs.declared.change.Change.TheVariants as change
use Rattle.keel_edit.specs.declared.edit.Added.{Added}
use Rattle.keel_edit.specs.declared.edit.Edit.{Edit}
use Rattle.keel_edit.specs.Spelling.{spelling}
use Rattle.keel_frag.specs.Writing.{record_bytes}
use Rattle.keel_manifest.specs.declared.roll.RollCall.{RollCall}
use Rattle.keel_manifest.specs.declared.roll.RollCall.TheVariants.{MakeManifest, AppendEdit, SyncManifest, MakeTemporary, AppendName, SyncTemporary, Rename, SyncDirectory}
use Rattle.keel_manifest.specs.Rolls.{RollState}
use Rattle.keel_manifest.specs.Rolls as rolls
use Rattle.keel_draft.specs.Drafts.{Draft, added_of, numbered, pieces_in, with_new}

-- what a call is for
pub data Act : Type 0 where
  MakeTable : Act
  AddPiece : List ℕ → Act
  SyncTable : Act
  MakeLog : Act
  SyncLogName : Act
  Rolls : RollCall → Act

-- how many calls a job has made, and the files that it has handed to `create`: its tables in order
pub record Progress : Type 0 where
  pub made : ℕ
  pub tables : List ℕ
  pub log : Option ℕ
  pub manifest : Option ℕ
  pub temporary : Option ℕ

-- a job: the tables that the version has, its last number, the tables that are to be made, and how far it has come
pub record Job : Type 0 where
  pub live : List Added
  pub last_seq : ℕ
  pub drafts : List Draft
  pub progress : Progress

abbrev pub nothing_made : Progress
nothing_made = record { made = 0; tables = []; log = None; manifest = None; temporary = None }

abbrev pub job_of : List Added → ℕ → List Draft → Job
job_of live last_seq drafts = record { live = live; last_seq = last_seq; drafts = drafts; progress = nothing_made }

-- ---- its calls

abbrev pub table_acts : Draft → List Act
table_acts draft = MakeTable ∷ (map AddPiece (pieces_in draft) ++ SyncTable ∷ [])

abbrev pub log_acts : List Act
log_acts = MakeLog ∷ SyncLogName ∷ []

abbrev pub roll_acts : List Act
roll_acts =
    Rolls MakeManifest ∷ Rolls AppendEdit ∷ Rolls SyncManifest ∷ Rolls MakeTemporary ∷ Rolls AppendName ∷ Rolls SyncTemporary ∷ Rolls Rename
    ∷ Rolls SyncDirectory ∷ []

abbrev pub plan_of : List Draft → List Act
plan_of drafts = flat_map table_acts drafts ++ (log_acts ++ roll_acts)

-- those that are left
abbrev pub left_of : Job → List Act
left_of job = drop job.progress.made (plan_of job.drafts)

-- what its failure counts as
abbrev pub reason_of : Act → Reason
reason_of MakeTable = reason.Flush
reason_of (AddPiece bytes) = reason.Flush
reason_of SyncTable = reason.Flush
reason_of MakeLog = reason.Wal
reason_of SyncLogName = reason.Wal
reason_of (Rolls asked) = reason.Manifest

abbrev pub failure_of : Act → Fault → Failure
failure_of act fault = record { reason = reason_of act; fault = fault }

abbrev pub call_of : Act → Call
call_of MakeTable = call.Create
call_of (AddPiece bytes) = call.Append
call_of SyncTable = call.Sync
call_of MakeLog = call.Create
call_of SyncLogName = call.SyncDir
call_of (Rolls asked) = rolls.word_of asked

abbrev pub draws : Act → Bool
draws MakeTable = true
draws MakeLog = true
draws (Rolls MakeManifest) = true
draws _ = false

-- the number that is drawn next, behind a call that was made
abbrev pub next_behind : Act → ℕ → ℕ
next_behind act next = if draws act then next + 1 else next

-- ---- what they ask of the device

abbrev pub latest : List ℕ → ℕ
latest [] = 0
latest (number ∷ []) = number
latest (number ∷ next ∷ numbers) = latest (next ∷ numbers)

-- The roll's edit: the version with the tables that were made, no log before the new one, the last number.
abbrev pub edit_of : Job → ℕ → Edit
edit_of job next_file = record {
  min_log = unwrap_or job.progress.log 0;
  next_file = next_file;
  last_seq = job.last_seq;
  removed = [];
  added = with_new (λ (table : Added). table.level) job.live (numbered added_of job.progress.tables job.drafts);
}

-- the roll to the manifest of that number
abbrev pub roll_of : Job → ℕ → ℕ → RollState
roll_of job number next_file = record { number = number; edit_record = record_bytes 0 (spelling (edit_of job next_file)); next = None }

-- the manifest that a call of the roll is about: the first one makes it
abbrev pub manifest_of : Job → ℕ → RollCall → ℕ
manifest_of job next MakeManifest = next
manifest_of job next _ = unwrap_or job.progress.manifest 0

-- the call of an act, where that number is drawn next
abbrev pub change_of : Job → ℕ → Act → Change
change_of job next MakeTable = change.Create (name.Table next)
change_of job next (AddPiece bytes) = change.Append (name.Table (latest job.progress.tables)) bytes
change_of job next SyncTable = change.Sync (name.Table (latest job.progress.tables))
change_of job next MakeLog = change.Create (name.Log next)
change_of job next SyncLogName = change.SyncDir
change_of job next (Rolls asked) = rolls.change_of (roll_of job (manifest_of job next asked) next) asked

-- ---- what they leave

-- what was handed to `create`
abbrev pub handed : ℕ → Act → Progress → Progress
handed next MakeTable p = record p { tables = p.tables ++ next ∷ [] }
handed next MakeLog p = record p { log = Some next }
handed next (Rolls MakeManifest) p = record p { manifest = Some next }
handed next (Rolls MakeTemporary) p = record p { temporary = p.manifest }
handed next act p = p

abbrev pub one_more : Progress → Progress
one_more p = record p { made = p.made + 1 }

abbrev pub with_progress : Progress → Job → Job
with_progress progress job = record job { progress = progress }

-- behind a call that was answered Ok
abbrev pub moved : ℕ → Act → Job → Job
moved next act job = with_progress (one_more (handed next act job.progress)) job

-- behind one that failed, which ends the job
abbrev pub tried : ℕ → Act → Job → Job
tried next act job = with_progress (handed next act job.progress) job
