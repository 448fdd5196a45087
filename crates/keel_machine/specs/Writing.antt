-- The write step: when it rests, and the call that it makes.
use Rattle.std.specs.Prelude.{ℕ, ◌+◌, ◌==◌, nat_le, ◌&&◌, Bool, true, false, List, [], ◌∷◌, ◌++◌, length, take, drop, Option, Some, None, if◌then◌else◌, option_map, unwrap_or}
use Rattle.keel_base.specs.declared.limits.TheConstants.{LAST_NUMBER}
use Rattle.keel_base.specs.declared.failure.Call.{Call}
use Rattle.keel_base.specs.declared.failure.Call.TheVariants as call
use Rattle.keel_base.specs.declared.failure.Counter.TheVariants.{FileNumber, JobNumber}
use Rattle.keel_base.specs.declared.failure.Failure.{Failure}
use Rattle.keel_base.specs.declared.file_name.FileName.TheVariants.{Log}
use Rattle.keel_batch.specs.Batches.{payloads_behind}
use Rattle.keel_disk.specs.declared.change.Change.{Change}
use Rattle.keel_disk.specs.declared.change.Change.TheVariants as change
use Rattle.keel_frag.specs.Writing.{records_bytes}
use Rattle.keel_group.specs.Queue.{Ticketed, tickets_of}
use Rattle.keel_group.specs.Forming.{next_size, next_batches, wants_sync}
use Rattle.keel_machine.specs.declared.steps.WriteStep.{WriteStep}
use Rattle.keel_machine.specs.declared.steps.WriteStep.TheVariants.{Idle, Turned, Full, Spent, Cancelled}
use Rattle.keel_machine.specs.Admission.{stopping, last_seq, ops_of, is_full, is_store_full, active_weight}
use Rattle.keel_machine.specs.States.{State, SegmentLog, Progress, Group, Act, CloseLog, MakeLog, SyncDirectory, AddRecords, SyncLog, left_of, active_log}
use Rattle.keel_machine.specs.Tests.{first_some, when, differing}

-- ---- groups

-- The calls of a group: behind a full segment its log is first made firm, and another one with a firm name.
abbrev pub group_plan : Bool → Bool → List Act
group_plan switches sync =
    (if switches then CloseLog ∷ MakeLog ∷ SyncDirectory ∷ [] else []) ++ AddRecords ∷ (if sync then SyncLog ∷ [] else [])

abbrev pub nothing_made : Progress
nothing_made = record { made = 0; log = None }

-- the next group of those that wait
abbrev pub formed : List Ticketed → State → Group
formed waiting s = record {
  tickets = take (next_size waiting) (tickets_of waiting);
  batches = next_batches waiting;
  plan = group_plan (is_full s) (wants_sync (next_batches waiting));
  progress = nothing_made;
}

-- the queue's next group is in flight
abbrev pub started : List Ticketed → State → State
started [] s = s
started (first ∷ rest) s = record s {
  jobs = record s.jobs { write = record { number = s.jobs.write.number + 1; running = Some (formed (first ∷ rest) s) } };
  writing = record s.writing { waiting = drop (next_size (first ∷ rest)) (first ∷ rest) };
}

abbrev pub started_or : Option Group → State → State
started_or None s = started s.writing.waiting s
started_or (Some group) s = s

-- the state in which a group makes its next call: the one in flight, or the first of the queue
abbrev pub ready : State → State
ready s = started_or s.jobs.write.running s

-- ---- rests and refusals

abbrev pub turned_away : State → Failure → WriteStep
turned_away s failure = Turned (length s.writing.waiting) failure

abbrev pub is_nobody_waiting : State → Bool
is_nobody_waiting s = length s.writing.waiting == 0

abbrev pub is_job_spent : State → Bool
is_job_spent s = nat_le LAST_NUMBER s.jobs.write.number

abbrev pub is_file_spent : State → Bool
is_file_spent s = nat_le LAST_NUMBER s.numbers.next_file

-- without a group in flight, in the order of the tests
abbrev pub rests_before_group : State → List (Option WriteStep)
rests_before_group s =
    when (is_nobody_waiting s) Idle
    ∷ option_map (turned_away s) (stopping s)
    ∷ when (is_store_full s) (Full (active_weight s) (length s.segments.immutable))
    ∷ when (is_job_spent s) (Spent JobNumber)
    ∷ when (is_full s && is_file_spent s) (Spent FileNumber)
    ∷ []

-- the next call draws a file's number
abbrev pub draws : List Act → Bool
draws (MakeLog ∷ later) = true
draws _ = false

-- with that group in flight, or without one
abbrev pub rests_of : State → Option Group → List (Option WriteStep)
rests_of s None = rests_before_group s
rests_of s (Some group) = when (draws (left_of group) && is_file_spent s) (Spent FileNumber) ∷ []

abbrev pub cancelled : State → ℕ → WriteStep
cancelled s held = Cancelled held s.jobs.write.number

-- the step's answer where it makes no call
abbrev pub write_rest : State → Option ℕ → Option WriteStep
write_rest s held = first_some (
    option_map (cancelled s) (differing held s.jobs.write.number)
    ∷ first_some (rests_of s s.jobs.write.running)
    ∷ [])

-- ---- calls

abbrev pub call_of : Act → Call
call_of CloseLog = call.Sync
call_of MakeLog = call.Create
call_of SyncDirectory = call.SyncDir
call_of AddRecords = call.Append
call_of SyncLog = call.Sync

abbrev pub log_number : State → ℕ
log_number s = unwrap_or (option_map (λ (log : SegmentLog). log.number) (active_log s)) 0

abbrev pub log_size : State → ℕ
log_size s = unwrap_or (option_map (λ (log : SegmentLog). log.size) (active_log s)) 0

-- the bytes that a group appends: one record for each batch, numbered behind the last published op
abbrev pub group_bytes : State → Group → List ℕ
group_bytes s group = records_bytes (log_size s) (payloads_behind (last_seq s) (ops_of group.batches))

abbrev pub change_of : State → Group → Act → Change
change_of s group CloseLog = change.Sync (Log (log_number s))
change_of s group MakeLog = change.Create (Log s.numbers.next_file)
change_of s group SyncDirectory = change.SyncDir
change_of s group AddRecords = change.Append (Log (log_number s)) (group_bytes s group)
change_of s group SyncLog = change.Sync (Log (log_number s))
