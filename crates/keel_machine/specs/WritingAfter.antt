-- What a write step answers behind its call, and what it leaves.
use Rattle.std.specs.Prelude.{◌≡◌, ℕ, ◌+◌, Bool, true, false, List, [], ◌∷◌, ◌++◌, length, map, drop, Option, Some, None}
use Rattle.keel_base.specs.declared.failure.Call.{Call}
use Rattle.keel_base.specs.declared.failure.Fault.{Fault}
use Rattle.keel_base.specs.declared.failure.Failure.{Failure}
use Rattle.keel_base.specs.declared.failure.Reason.TheVariants.{Wal}
use Rattle.keel_base.specs.declared.op.Op.{Op}
use Rattle.keel_disk.specs.Seen.{Calls, IsQuiet, Seen}
use Rattle.keel_machine.specs.declared.answers.Outcome.{Outcome}
use Rattle.keel_machine.specs.declared.answers.Outcome.TheVariants as outcome
use Rattle.keel_machine.specs.declared.steps.WriteStep.{WriteStep}
use Rattle.keel_machine.specs.declared.steps.WriteStep.TheVariants.{Moved, Done, Failed, Turned, OutOfMemory}
use Rattle.keel_machine.specs.Admission.{ops_of, last_seq}
use Rattle.keel_machine.specs.Outside.{as_answer}
use Rattle.keel_machine.specs.States.{State, SegmentLog, Group, Act, CloseLog, MakeLog, SyncDirectory, AddRecords, SyncLog, handed, published, new_log, left_of}
use Rattle.keel_machine.specs.Writing.{ready, write_rest, call_of, change_of, group_bytes}

-- ---- parts of the next state

-- tickets get this outcome
abbrev pub settled : List ℕ → Outcome → State → State
settled tickets outcome s = record s { writing = record s.writing { outcomes = s.writing.outcomes ++ map (λ ticket. (ticket, outcome)) tickets } }

abbrev pub with_group : Option Group → State → State
with_group running s = record s { jobs = record s.jobs { write = record s.jobs.write { running = running } } }

-- the active segment with this log
abbrev pub with_log : Option SegmentLog → State → State
with_log log s = record s { segments = record s.segments { active = record s.segments.active { log = log } } }

-- the sequence behind the first of these batches, where there is one
abbrev pub seq_behind : ℕ → List (List Op) → ℕ
seq_behind seq [] = seq
seq_behind seq (ops ∷ batches) = seq + length ops

-- each ticket's batch is done with the sequence of its last op, where the batches are numbered on behind a sequence
abbrev pub done_each : ℕ → List ℕ → List (List Op) → List (ℕ × Outcome)
done_each seq [] batches = []
done_each seq (ticket ∷ tickets) batches =
    (ticket, outcome.Done (seq_behind seq batches)) ∷ done_each (seq_behind seq batches) tickets (drop 1 batches)

-- the group's batches, which are in limbo, are published, and the active segment has them; the group is over
abbrev pub all_published : Bool → Group → State → State
all_published sync group s = with_group None (record s {
  story = published sync s.story;
  segments = record s.segments { active = record s.segments.active { batches = s.segments.active.batches ++ s.story.limbo } };
  writing = record s.writing { outcomes = s.writing.outcomes ++ done_each (last_seq s) group.tickets s.story.limbo };
})

-- it has made one call more
abbrev pub one_more : Group → Group
one_more group = record group { progress = record group.progress { made = group.progress.made + 1 } }

-- the group goes on where calls are left behind this one, or is published behind the last one
abbrev pub goes_on : Bool → Group → List Act → State → State
goes_on sync group [] s = all_published sync group s
goes_on sync group (act ∷ later) s = with_group (Some (one_more group)) s

abbrev pub file_drawn : State → State
file_drawn s = record s { numbers = record s.numbers { next_file = s.numbers.next_file + 1 } }

-- the active segment's log is longer by so many bytes
abbrev pub log_longer : ℕ → Option SegmentLog → Option SegmentLog
log_longer more None = None
log_longer more (Some log) = Some (record log { size = log.size + more })

-- a call on it failed
abbrev pub log_failed : Option SegmentLog → Option SegmentLog
log_failed None = None
log_failed (Some log) = Some (record log { failed = true })

abbrev pub numbers_of : Option SegmentLog → List ℕ
numbers_of None = []
numbers_of (Some log) = log.number ∷ []

-- the full segment is immutable, and another one is active, with the log that the group made
abbrev pub switched : Option ℕ → State → State
switched None s = s
switched (Some number) s = record s {
  segments = record {
    immutable = s.segments.immutable ++ (record { batches = s.segments.active.batches; logs = numbers_of s.segments.active.log }) ∷ [];
    active = record { batches = []; log = Some (new_log number) };
  };
}

abbrev pub with_made : Option ℕ → Group → Group
with_made log group = record group { progress = record group.progress { log = log } }

abbrev pub batches_handed : Group → State → State
batches_handed group s = record s { story = handed (ops_of group.batches) s.story }

-- the state behind a call of the group that was answered Ok, with the calls left behind it
abbrev pub act_done : Act → Group → List Act → State → State
act_done CloseLog group later s = goes_on false group later s
act_done MakeLog group later s = goes_on false (with_made (Some s.numbers.next_file) group) later (file_drawn s)
act_done SyncDirectory group later s = goes_on false (with_made None group) later (switched group.progress.log s)
act_done AddRecords group later s =
    goes_on false (record group { batches = [] }) later
    (batches_handed group (with_log (log_longer (length (group_bytes s group)) s.segments.active.log) s))
act_done SyncLog group later s = goes_on true group later s

-- What a call leaves of the state though it failed: a number is used up, batches may be found in the log, nothing more
-- is written to the log.
abbrev pub act_tried : Act → Group → State → State
act_tried CloseLog group s = with_log (log_failed s.segments.active.log) s
act_tried MakeLog group s = file_drawn s
act_tried SyncDirectory group s = s
act_tried AddRecords group s = batches_handed group (with_log (log_failed s.segments.active.log) s)
act_tried SyncLog group s = with_log (log_failed s.segments.active.log) s

abbrev pub failure_of : Fault → Failure
failure_of fault = record { reason = Wal; fault = fault }

abbrev pub noted : Failure → State → State
noted failure s = record s { failing = record s.failing { failures = s.failing.failures ++ failure ∷ [] } }

-- the state behind a call of the group that failed: the group is over, unpublished
abbrev pub act_failed : Act → Group → Failure → State → State
act_failed act group failure s = noted failure (settled group.tickets (outcome.Failed failure) (with_group None (act_tried act group s)))

-- the queue is empty, and its tickets are turned away
abbrev pub queue_turned : Failure → State → State
queue_turned failure s =
    settled (map (λ member. member.ticket) s.writing.waiting) (outcome.Turned failure) (record s { writing = record s.writing { waiting = [] } })

-- ---- answers

-- In this state a call is made: the group's first one that is left, with the ones behind it.
pub record Makes (s : State) (held : Option ℕ) (group : Group) (act : Act) (later : List Act) : Type 0 where
  pub no_rest : write_rest s held ≡ None
  pub group_is : (ready s).jobs.write.running ≡ Some group
  pub next : left_of group ≡ act ∷ later

-- a call of a group was made and answered so
pub record MadeCall (s : State) (held : Option ℕ) (group : Group) (act : Act) (later : List Act) (failed : Option Fault) (device : Seen) : Type 0 where
  pub makes : Makes s held group act later
  pub calls : Calls s.device (change_of (ready s) group act) (as_answer failed) device

pub record IsMove (s : State) (held : Option ℕ) (job : ℕ) (call : Call) (device : Seen) : Type 0 where
  pub group : Group
  pub act : Act
  pub next : Act
  pub later : List Act
  pub made : MadeCall s held group act (next ∷ later) None device
  pub job_is : job ≡ (ready s).jobs.write.number
  pub call_is : call ≡ call_of act

-- the state behind the first call that the group has left, answered Ok or failed
abbrev pub first_done : Group → List Act → State → State
first_done group [] s = s
first_done group (act ∷ later) s = act_done act group later s

abbrev pub group_done : Option Group → State → State
group_done None s = s
group_done (Some group) s = first_done group (left_of group) s

abbrev pub first_failed : Group → List Act → Failure → State → State
first_failed group [] failure s = s
first_failed group (act ∷ later) failure s = act_failed act group failure s

abbrev pub group_failed : Option Group → Failure → State → State
group_failed None failure s = s
group_failed (Some group) failure s = first_failed group (left_of group) failure s

abbrev pub call_done : State → State
call_done s = group_done (ready s).jobs.write.running (ready s)

abbrev pub call_failed : Failure → State → State
call_failed failure s = group_failed (ready s).jobs.write.running failure (ready s)

pub record IsEnd (s : State) (held : Option ℕ) (job seq batches : ℕ) (device : Seen) : Type 0 where
  pub group : Group
  pub act : Act
  pub made : MadeCall s held group act [] None device
  pub job_is : job ≡ (ready s).jobs.write.number
  pub seq_is : seq ≡ last_seq (call_done s)
  pub batches_is : batches ≡ length group.tickets

pub record IsFailure (s : State) (held : Option ℕ) (failure : Failure) (device : Seen) : Type 0 where
  pub group : Group
  pub act : Act
  pub later : List Act
  pub fault : Fault
  pub made : MadeCall s held group act later (Some fault) device
  pub failure_is : failure ≡ failure_of fault

-- a rest or a refusal comes as the first test that holds says
pub record IsRest (s : State) (held : Option ℕ) (step : WriteStep) (device : Seen) : Type 0 where
  pub first : write_rest s held ≡ Some step
  pub quiet : IsQuiet s.device None device

-- memory may be wanting where a call was to be made, and then none was
pub record IsWant (s : State) (held : Option ℕ) (device : Seen) : Type 0 where
  pub no_rest : write_rest s held ≡ None
  pub quiet : IsQuiet s.device None device

-- each answer of a write step with its cause
abbrev pub WriteAnswers : State → Option ℕ → WriteStep → Seen → Type 0
WriteAnswers s held (Moved job call) device = IsMove s held job call device
WriteAnswers s held (Done job seq batches) device = IsEnd s held job seq batches device
WriteAnswers s held (Failed failure) device = IsFailure s held failure device
WriteAnswers s held OutOfMemory device = IsWant s held device
WriteAnswers s held step device = IsRest s held step device

-- the state behind a write step, but for the device
abbrev pub write_after : State → WriteStep → State
write_after s (Moved job call) = call_done s
write_after s (Done job seq batches) = call_done s
write_after s (Failed failure) = call_failed failure s
write_after s (Turned batches failure) = queue_turned failure s
write_after s step = s
