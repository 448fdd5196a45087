-- The calls of a flush: a table of the oldest full segment, and then the edit that brings it.
use Rattle.std.specs.Prelude.{ℕ, ◌+◌, Bool, true, false, List, [], ◌∷◌, ◌++◌, map, drop, Option, Some, None, unwrap_or, if◌then◌else◌}
use Rattle.keel_base.specs.declared.failure.Call.{Call}
use Rattle.keel_base.specs.declared.failure.Call.TheVariants as call
use Rattle.keel_base.specs.declared.failure.Failure.{Failure}
use Rattle.keel_base.specs.declared.failure.Fault.{Fault}
use Rattle.keel_base.specs.declared.failure.Reason.{Reason}
use Rattle.keel_base.specs.declared.failure.Reason.TheVariants as reason
use Rattle.keel_base.specs.declared.file_name.FileName.TheVariants as name
use Rattle.keel_disk.specs.declared.change.Change.{Change}
use Rattle.keel_disk.specs.declared.change.Change.TheVariants as change
use Rattle.keel_draft.specs.Drafts.{Draft, added_of, pieces_in}
use Rattle.keel_edit.specs.declared.edit.Edit.{Edit}
use Rattle.keel_edit.specs.Spelling.{spelling}
use Rattle.keel_manifest.specs.State.{ManifestState, append_failed, appended, edit_bytes, name_of, sync_failed, synced}

-- what a call is for
pub data Act : Type 0 where
  MakeTable : Act
  AddPiece : List ℕ → Act
  SyncTable : Act
  SyncName : Act
  AppendEdit : Act
  SyncManifest : Act

-- how many calls a job has made, and the table that it has handed to `create`
pub record Progress : Type 0 where
  pub made : ℕ
  pub table : Option ℕ

-- a job: the log of the segment behind the one that is flushed, the table that is to be made, and how far it has come
pub record Job : Type 0 where
  pub min_log : ℕ
  pub draft : Draft
  pub progress : Progress

abbrev pub nothing_made : Progress
nothing_made = record { made = 0; table = None }

abbrev pub job_of : ℕ → Draft → Job
job_of min_log draft = record { min_log = min_log; draft = draft; progress = nothing_made }

-- ---- its calls

-- those that bring the table, once it is firm
abbrev pub edit_acts : List Act
edit_acts = SyncName ∷ AppendEdit ∷ SyncManifest ∷ []

abbrev pub plan_of : Draft → List Act
plan_of draft = MakeTable ∷ (map AddPiece (pieces_in draft) ++ SyncTable ∷ edit_acts)

-- those that are left
abbrev pub left_of : Job → List Act
left_of job = drop job.progress.made (plan_of job.draft)

-- what its failure counts as
abbrev pub reason_of : Act → Reason
reason_of MakeTable = reason.Flush
reason_of (AddPiece bytes) = reason.Flush
reason_of SyncTable = reason.Flush
reason_of SyncName = reason.Flush
reason_of AppendEdit = reason.Manifest
reason_of SyncManifest = reason.Manifest

abbrev pub failure_of : Act → Fault → Failure
failure_of act fault = record { reason = reason_of act; fault = fault }

abbrev pub call_of : Act → Call
call_of MakeTable = call.Create
call_of (AddPiece bytes) = call.Append
call_of SyncTable = call.Sync
call_of SyncName = call.SyncDir
call_of AppendEdit = call.Append
call_of SyncManifest = call.Sync

abbrev pub draws : Act → Bool
draws MakeTable = true
draws _ = false

-- the first of these calls draws a file's number
abbrev pub draws_next : List Act → Bool
draws_next [] = false
draws_next (act ∷ later) = draws act

-- it appends the edit to the manifest in use
abbrev pub appends : Act → Bool
appends AppendEdit = true
appends _ = false

-- the first of these calls does
abbrev pub appends_next : List Act → Bool
appends_next [] = false
appends_next (act ∷ later) = appends act

-- these calls are a single one
abbrev pub is_last : List Act → Bool
is_last [] = false
is_last (act ∷ []) = true
is_last (act ∷ another ∷ later) = false

-- the number that is drawn next, behind a call that was made
abbrev pub next_behind : Act → ℕ → ℕ
next_behind act next = if draws act then next + 1 else next

-- ---- what they ask of the device

abbrev pub number_of : Job → ℕ
number_of job = unwrap_or job.progress.table 0

-- The edit: the table is on level 0, no log before the next segment's is needed, and all up to the segment's last number
-- is in tables.
abbrev pub edit_of : Job → ℕ → Edit
edit_of job next_file = record {
  min_log = job.min_log;
  next_file = next_file;
  last_seq = job.draft.last;
  removed = [];
  added = added_of (number_of job) job.draft ∷ [];
}

-- the call of an act, where that number is drawn next and that is the manifest in use
abbrev pub change_of : Job → ℕ → ManifestState → Act → Change
change_of job next m MakeTable = change.Create (name.Table next)
change_of job next m (AddPiece bytes) = change.Append (name.Table (number_of job)) bytes
change_of job next m SyncTable = change.Sync (name.Table (number_of job))
change_of job next m SyncName = change.SyncDir
change_of job next m AppendEdit = change.Append (name_of m) (edit_bytes m (spelling (edit_of job next)))
change_of job next m SyncManifest = change.Sync (name_of m)

-- ---- what they leave

-- what was handed to `create`
abbrev pub handed : ℕ → Act → Progress → Progress
handed next MakeTable p = record p { table = Some next }
handed next act p = p

abbrev pub one_more : Progress → Progress
one_more p = record p { made = p.made + 1 }

abbrev pub with_progress : Progress → Job → Job
with_progress progress job = record job { progress = progress }

-- behind a call that was answered Ok
abbrev pub moved : ℕ → Act → Job → Job
moved next act job = with_progress (one_more (handed next act job.progress)) job

-- behind one that failed, which ends the job
abbrev pub tried : ℕ → Act → Job → Job
tried next act job = with_progress (handed next act job.progress) job

-- the manifest behind a call that was answered Ok
abbrev pub manifest_behind : Act → Job → ℕ → ManifestState → ManifestState
manifest_behind AppendEdit job next m = appended (spelling (edit_of job next)) m
manifest_behind SyncManifest job next m = synced m
manifest_behind act job next m = m

-- and behind one that failed
abbrev pub manifest_tried : Act → Job → ℕ → ManifestState → ManifestState
manifest_tried AppendEdit job next m = append_failed m
manifest_tried SyncManifest job next m = sync_failed m
manifest_tried act job next m = m
