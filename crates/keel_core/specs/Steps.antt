-- How a core goes on in parts of a write step.
use Rattle.std.specs.Prelude.{◌≡◌, ℕ, ◌+◌, ◌≤◌, Bool, true, false, List, [], ◌∷◌, ◌++◌, length, drop, Option, Some, None, Result, Ok, Err, unwrap_or, option_map}
use Rattle.keel_base.specs.declared.failure.Call.TheVariants as call
use Rattle.keel_base.specs.declared.failure.Fault.{Fault}
use Rattle.keel_base.specs.declared.file_name.FileName.TheVariants.{Log}
use Rattle.keel_base.specs.declared.op.Batch.{Batch}
use Rattle.keel_batch.specs.Batches.{payloads_behind}
use Rattle.keel_disk.specs.declared.change.Change.{Change}
use Rattle.keel_disk.specs.declared.change.Change.TheVariants as change
use Rattle.keel_disk.specs.declared.error.DiskError.{DiskError}
use Rattle.keel_disk.specs.declared.error.DiskError.TheVariants as error
use Rattle.keel_disk.specs.Seen.{Calls, IsQuiet}
use Rattle.keel_frag.specs.Writing.{records_bytes}
use Rattle.keel_group.specs.Forming.{next_size}
use Rattle.keel_group.specs.Queue.{batches_of, tickets_of}
use Rattle.keel_machine.specs.declared.answers.Outcome.TheVariants as outcome
use Rattle.keel_machine.specs.declared.steps.WriteStep.{WriteStep}
use Rattle.keel_machine.specs.declared.steps.WriteStep.TheVariants as step
use Rattle.keel_machine.specs.Admission.{ops_of}
use Rattle.keel_machine.specs.States.{SegmentLog, new_log}
use Rattle.keel_machine.specs.WritingAfter.{done_each, failure_of, log_failed, log_longer, numbers_of}
use Rattle.keel_draft.specs.Drafts.{batch_rows, count_ops}
use Rattle.keel_core.specs.declared.flight.Act.{Act}
use Rattle.keel_core.specs.declared.segments.Segment.{Segment}
use Rattle.keel_core.specs.Failing.{noted}
use Rattle.keel_core.specs.Placing.{bytes_needed}
use Rattle.keel_core.specs.declared.flight.Act.TheVariants.{CloseLog, MakeLog, SyncDirectory, AddRecords, SyncLog}
use Rattle.keel_core.specs.Flights.{FlightShown, batches_flying, gone_to, is_synced, tickets_flying, without_batches}
use Rattle.keel_core.specs.Queues.{batches_next, first_act, given, next_flight}
use Rattle.keel_core.specs.Trails as trails
use Rattle.keel_core.specs.Trails.{seq_in}
use Rattle.keel_core.specs.Views.{CoreView, is_full, last_in, with_device}

-- ---- the next act

-- that of the group in flight, or of the next one
abbrev pub NextIs : Act → CoreView → Option FlightShown → Type 0
NextIs act view None = act ≡ first_act (is_full view)
NextIs act view (Some flight) = act ≡ flight.next

abbrev pub IsNotSwitch : Act → Type 0
IsNotSwitch (SyncDirectory log) = ⊥
IsNotSwitch _ = Unit {0}

-- the next group of those that wait is in flight
abbrev pub formed : CoreView → CoreView
formed view = record view {
  waiting = drop (next_size view.waiting) view.waiting;
  group = Some (next_flight view.waiting (is_full view));
  job = view.job + 1;
}

-- ---- calls

abbrev pub number_in : Option SegmentLog → ℕ
number_in log = unwrap_or (option_map (λ (l : SegmentLog). l.number) log) 0

abbrev pub size_in : Option SegmentLog → ℕ
size_in log = unwrap_or (option_map (λ (l : SegmentLog). l.size) log) 0

-- the bytes that an append of these batches adds
abbrev pub bytes_of : CoreView → List Batch → List ℕ
bytes_of view batches = records_bytes (size_in view.log) (payloads_behind (last_in view) (ops_of batches))

-- the call of an act for these batches
abbrev pub change_for : Act → CoreView → List Batch → Change
change_for CloseLog view batches = change.Sync (Log (number_in view.log))
change_for MakeLog view batches = change.Create (Log view.next_file)
change_for (SyncDirectory log) view batches = change.SyncDir
change_for AddRecords view batches = change.Append (Log (number_in view.log)) (bytes_of view batches)
change_for SyncLog view batches = change.Sync (Log (number_in view.log))

abbrev pub change_of : Act → CoreView → Change
change_of act view = change_for act view (batches_next view.waiting view.group)

abbrev pub log_for : Act → CoreView → List Batch → Option SegmentLog
log_for AddRecords view batches = log_longer (length (bytes_of view batches)) view.log
log_for _ view batches = view.log

abbrev pub log_behind : Act → CoreView → Option SegmentLog
log_behind act view = log_for act view (batches_next view.waiting view.group)

-- the act's call was answered Ok, and the log is as long as it then is
pub record IsMade (act : Act) (old new : CoreView) : Type 0 where
  pub calls : Calls old.device (change_of act old) (Ok tt) new.device
  pub view_is : new ≡ record old { device = new.device; log = log_behind act old }

-- the act's call failed
pub record IsRefused (act : Act) (fault : Fault) (old new : CoreView) : Type 0 where
  pub calls : Calls old.device (change_of act old) (Err (error.Fault fault)) new.device
  pub view_is : new ≡ with_device new.device old

-- memory was wanting, and no call was made
pub record IsWanted (old new : CoreView) : Type 0 where
  pub quiet : IsQuiet old.device None new.device
  pub view_is : new ≡ with_device new.device old

abbrev pub Makes : Act → CoreView → Result (Unit {0}) DiskError → CoreView → Type 0
Makes act old (Ok done) new = IsMade act old new
Makes act old (Err (error.Fault fault)) new = IsRefused act fault old new
Makes act old (Err error.OutOfMemory) new = IsWanted old new

-- ---- another segment

-- it has no row yet, and room for all that are on their way; the numbers are those of the full segment's logs
pub record IsNextSegment (view : CoreView) (next : Segment) : Type 0 where
  pub rows : next.mem.rows ≡ []
  pub bytes : bytes_needed view.trail.limbo + bytes_needed (ops_of (batches_flying view.group)) + bytes_needed (ops_of (batches_of view.waiting)) ≤ next.mem.bytes
  pub entries : count_ops view.trail.limbo + count_ops (ops_of (batches_flying view.group)) + count_ops (ops_of (batches_of view.waiting)) ≤ next.mem.entries
  pub logs : next.logs.items ≡ numbers_of view.log

-- ---- what a call leaves

-- the group goes on with this act
abbrev pub moved_on : Act → CoreView → CoreView
moved_on next view = record view { group = gone_to next view.group }

abbrev pub file_drawn : CoreView → CoreView
file_drawn view = record view { next_file = view.next_file + 1 }

abbrev pub handed_over : CoreView → CoreView
handed_over view = record view { trail = trails.handed (ops_of (batches_flying view.group)) view.trail; group = without_batches view.group }

-- the full segment is immutable, and another one is active, with that log
abbrev pub switched : ℕ → CoreView → CoreView
switched log view = record view {
  immutable = view.immutable ++ (record { rows = view.rows; logs = numbers_of view.log }) ∷ [];
  rows = [];
  log = Some (new_log log);
}

-- what is in limbo is published, and the group is over
abbrev pub all_published : Bool → CoreView → CoreView
all_published sync view = record view {
  trail = trails.published sync view.trail;
  rows = view.rows ++ batch_rows (last_in view + 1) view.trail.limbo;
  group = None;
  outcomes = view.outcomes ++ done_each (last_in view) (tickets_flying view.group) view.trail.limbo;
}

abbrev pub published_step : Bool → CoreView → WriteStep
published_step sync view = step.Done view.job (last_in (all_published sync view)) (length (tickets_flying view.group))

-- a group that handed its batches over goes on with the sync, or is published
abbrev pub added : Bool → CoreView → CoreView
added true view = moved_on SyncLog view
added false view = all_published false view

abbrev pub added_step : Bool → CoreView → WriteStep
added_step true view = step.Moved view.job call.Append
added_step false view = published_step false view

-- behind a call of the act that was answered Ok
abbrev pub done : Act → CoreView → CoreView
done CloseLog view = moved_on MakeLog view
done MakeLog view = moved_on (SyncDirectory view.next_file) (file_drawn view)
done (SyncDirectory log) view = moved_on AddRecords (switched log view)
done AddRecords view = added (is_synced view.group) (handed_over view)
done SyncLog view = all_published true view

abbrev pub done_step : Act → CoreView → WriteStep
done_step CloseLog view = step.Moved view.job call.Sync
done_step MakeLog view = step.Moved view.job call.Create
done_step (SyncDirectory log) view = step.Moved view.job call.SyncDir
done_step AddRecords view = added_step (is_synced view.group) (handed_over view)
done_step SyncLog view = published_step true view

abbrev pub spoilt : CoreView → CoreView
spoilt view = record view { log = log_failed view.log }

-- behind a call of the act that failed a number is used up, batches may be found in the log, and a log has failed
abbrev pub tried : Act → CoreView → CoreView
tried CloseLog view = spoilt view
tried MakeLog view = file_drawn view
tried (SyncDirectory log) view = view
tried AddRecords view = handed_over (spoilt view)
tried SyncLog view = spoilt view

-- the group is over, unpublished
abbrev pub stopped : Fault → CoreView → CoreView
stopped fault view = record view {
  group = None;
  outcomes = view.outcomes ++ given (outcome.Failed (failure_of fault)) (tickets_flying view.group);
  handler = noted (failure_of fault) view.handler;
}

-- a queue that is turned away is empty, and its tickets have their outcomes
abbrev pub rested : WriteStep → CoreView → CoreView
rested (step.Turned batches failure) view = record view {
  waiting = [];
  outcomes = view.outcomes ++ given (outcome.Turned failure) (tickets_of view.waiting);
}
rested step view = view
