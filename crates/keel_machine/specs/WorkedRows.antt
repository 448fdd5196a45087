-- Runs of which every call is answered Ok, worked out.
use Rattle.std.specs.Prelude.{◌≡◌, ℕ, ◌+◌, zero, suc, true, false, List, [], ◌∷◌, length, Option, Some, None}
use Rattle.keel_base.specs.declared.failure.Call.TheVariants as call
use Rattle.keel_base.specs.declared.op.Batch.{Batch}
use Rattle.keel_base.specs.declared.op.Op.TheVariants as op
use Rattle.keel_machine.specs.declared.answers.Outcome.TheVariants as outcome
use Rattle.keel_machine.specs.declared.steps.WriteStep.{WriteStep}
use Rattle.keel_machine.specs.declared.steps.WriteStep.TheVariants.{Idle, Moved, Done}
use Rattle.keel_machine.specs.declared.answers.Admit.TheVariants.{QueueFull}
use Rattle.keel_machine.specs.Admission.{queued, last_seq, outcome_of, refusal}
use Rattle.keel_machine.specs.declared.answers.Admit.TheVariants as admit
use Rattle.keel_machine.specs.declared.steps.ResumeStep.{ResumeStep}
use Rattle.keel_machine.specs.declared.steps.ResumeStep.TheVariants as resume
use Rattle.keel_machine.specs.Opening.{idle_slot}
use Rattle.keel_manifest.specs.State.{named_at_opening}
use Rattle.keel_machine.specs.Resuming.{resume_ready, resume_rest, boot_done}
use Rattle.keel_machine.specs.States.{State, Booting, Nothing, Group, Resumption, Act, left_of, new_story, no_batches}
use Rattle.keel_base.specs.declared.row.Kind.TheVariants as kinds
use Rattle.keel_base.specs.Options.{standard}
use Rattle.keel_draft.specs.Drafts.{Draft}
use Rattle.keel_flush.specs.Plans.{Act as FlushAct, Job as FlushJob}
use Rattle.keel_flush.specs.Plans as flushes
use Rattle.keel_machine.specs.declared.steps.JobStep.{JobStep}
use Rattle.keel_machine.specs.declared.steps.JobStep.TheVariants as job_step
use Rattle.keel_machine.specs.Flushing.{flush_done, flush_ready, flush_rest}
use Rattle.keel_base.specs.Points.{origin}
use Rattle.keel_resume.specs.Plans.{Act as BootAct}
use Rattle.keel_resume.specs.Plans as plans
use Rattle.keel_machine.specs.Writing.{ready, write_rest, call_of}
use Rattle.keel_machine.specs.WritingAfter.{call_done, noted}
use Rattle.keel_machine.specs.Starting.{start_after, start_answer}
use Rattle.keel_machine.specs.declared.answers.Start.TheVariants as start
use Rattle.keel_base.specs.declared.failure.Failure.{Failure}
use Rattle.keel_base.specs.declared.failure.Fault.TheVariants.{Retryable}
use Rattle.keel_base.specs.declared.failure.Reason.TheVariants.{Wal}

abbrev pub answer_ok : State → Group → List Act → WriteStep
answer_ok s group [] = Idle
answer_ok s group (act ∷ []) = Done (ready s).jobs.write.number (last_seq (call_done s)) (length group.tickets)
answer_ok s group (act ∷ next ∷ later) = Moved (ready s).jobs.write.number (call_of act)

abbrev pub answer_of : State → Option Group → WriteStep
answer_of s None = Idle
answer_of s (Some group) = answer_ok s group (left_of group)

abbrev pub played_out : State → Option WriteStep → WriteStep × State
played_out s (Some rest) = (rest, s)
played_out s None = (answer_of s (ready s).jobs.write.running, call_done s)

-- a write step whose call is answered Ok, with the state behind it
abbrev pub write_played : State → WriteStep × State
write_played s = played_out s (write_rest s None)

-- the answers of so many steps
abbrev pub answers : ℕ → State → List WriteStep
answers zero s = []
answers (suc n) s = (write_played s).0 ∷ answers n (write_played s).1

abbrev pub behind_steps : ℕ → State → State
behind_steps zero s = s
behind_steps (suc n) s = behind_steps n (write_played s).1

-- the synced put of one byte to one byte
abbrev pub synced_put : ℕ → ℕ → Batch
synced_put key value = record { ops = op.Put (key ∷ []) (value ∷ []) ∷ []; sync = true }

-- ---- a boot

abbrev pub resume_answer : State → Resumption → List BootAct → ResumeStep
resume_answer ready running [] = resume.Idle
resume_answer ready running (act ∷ []) = resume.Cleared ready.jobs.resume.number (running.steps + 1)
resume_answer ready running (act ∷ next ∷ later) = resume.Moved ready.jobs.resume.number (plans.call_of act)

abbrev pub resume_answer_of : State → Option Resumption → ResumeStep
resume_answer_of ready None = resume.Idle
resume_answer_of ready (Some running) = resume_answer ready running (plans.left_of running.job)

abbrev pub resume_out : State → State → Option ResumeStep → ResumeStep × State
resume_out s ready (Some rest) = (rest, s)
resume_out s ready None = (resume_answer_of ready ready.jobs.resume.running, boot_done ready.jobs.resume.running ready)

-- a resume step whose call is answered Ok, with the state behind it; its job makes these tables
abbrev pub resume_played : List Draft → State → ResumeStep × State
resume_played drafts s = resume_out s (resume_ready drafts s) (resume_rest s drafts None)

abbrev pub resume_answers : ℕ → List Draft → State → List ResumeStep
resume_answers zero drafts s = []
resume_answers (suc n) drafts s = (resume_played drafts s).0 ∷ resume_answers n drafts (resume_played drafts s).1

abbrev pub behind_resume_steps : ℕ → List Draft → State → State
behind_resume_steps zero drafts s = s
behind_resume_steps (suc n) drafts s = behind_resume_steps n drafts (resume_played drafts s).1

-- a store in an empty directory that was just opened, as the first of a run
abbrev pub new_store : State → State
new_store s = record {
  device = s.device;
  footing = s.footing;
  options = standard;
  mode = record { phase = Booting; left = Nothing };
  story = new_story origin;
  segments = record { immutable = []; active = no_batches };
  levels = [];
  writing = record { waiting = []; outcomes = []; last_ticket = 0 };
  failing = record { failures = [] };
  jobs = record { write = idle_slot; flush = idle_slot; resume = idle_slot; started = false };
  numbers = record { next_file = 1; manifest = named_at_opening None 0; in_tables = 0 };
}

-- The boot of an empty directory makes a log, a manifest and the file that CURRENT becomes; until its last call no batch is taken.
abbrev pub FirstBoot : Type 0
FirstBoot =
    (s : State) → let s1 : State = new_store s in
    (refusal s1 (synced_put 97 49) ≡ Some admit.Booting)
    × (resume_answers 11 [] s1 ≡
    resume.Moved 1 call.Create ∷ resume.Moved 1 call.SyncDir ∷ resume.Moved 1 call.Create ∷ resume.Moved 1 call.Append ∷ resume.Moved 1 call.Sync
    ∷ resume.Moved 1 call.Create ∷ resume.Moved 1 call.Append ∷ resume.Moved 1 call.Sync ∷ resume.Moved 1 call.Rename ∷ resume.Cleared 1 10
    ∷ resume.Idle ∷ [])

-- that store, whose boot has cleared
abbrev pub booted_store : State → State
booted_store s = behind_resume_steps 10 [] (new_store s)

-- ---- puts

-- The first put appends and syncs; then it is done, with sequence number 1.
abbrev pub FirstPut : Type 0
FirstPut =
    (s : State) → let s1 : State = queued (synced_put 97 49) (booted_store s) in
    (answers 3 s1 ≡ Moved 1 call.Append ∷ Done 1 1 1 ∷ Idle ∷ [])
    × (outcome_of (behind_steps 2 s1) 1 ≡ outcome.Done 1)

-- A second put goes to the same log.
abbrev pub SecondPut : Type 0
SecondPut =
    (s : State) → let s1 : State = queued (synced_put 98 50) (behind_steps 2 (queued (synced_put 97 49) (booted_store s))) in
    answers 3 s1 ≡ Moved 2 call.Append ∷ Done 2 2 1 ∷ Idle ∷ []

-- so many batches are queued, one like another
abbrev pub queued_times : ℕ → Batch → State → State
queued_times zero batch s = s
queued_times (suc n) batch s = queued batch (queued_times n batch s)

-- a put that isn't synced
abbrev pub plain_put : Batch
plain_put = record { ops = op.Put (97 ∷ []) (49 ∷ []) ∷ []; sync = false }

-- Of 65 puts at once the last is turned away, and the others are one group, whose last call is its append.
abbrev pub FullQueue : Type 0
FullQueue =
    (s : State) → let s1 : State = queued_times 64 plain_put (booted_store s) in
    (refusal s1 plain_put ≡ Some (QueueFull 64))
    × (answers 2 s1 ≡ Done 1 64 64 ∷ Idle ∷ [])
    × (outcome_of (behind_steps 1 s1) 2 ≡ outcome.Done 2)

-- A segment that is full is left before the next group's append: its log is made firm, and another one with a firm name.
abbrev pub FullSegment : Type 0
FullSegment =
    (s : State) → let s0 : State = booted_store s in
    let s1 : State = behind_steps 1 (queued plain_put (record s0 { options = record standard { write_buffer = 18; max_immutables = 1 } })) in
    let s2 : State = behind_steps 4 (queued plain_put s1) in
    (answers 5 (queued plain_put s1) ≡ Moved 2 call.Sync ∷ Moved 2 call.Create ∷ Moved 2 call.SyncDir ∷ Done 2 2 1 ∷ Idle ∷ [])
    × (refusal s2 plain_put ≡ Some (admit.Full 18 1))

-- ---- a flush

abbrev pub flush_answer : State → Draft → FlushJob → List FlushAct → JobStep
flush_answer s draft job [] = job_step.Idle
flush_answer s draft job (act ∷ []) = job_step.Done (flush_ready draft s).jobs.flush.number
flush_answer s draft job (act ∷ next ∷ later) = job_step.Moved (flush_ready draft s).jobs.flush.number (flushes.call_of act)

abbrev pub flush_answer_of : State → Draft → Option FlushJob → JobStep
flush_answer_of s draft None = job_step.Idle
flush_answer_of s draft (Some job) = flush_answer s draft job (flushes.left_of job)

abbrev pub flush_out : State → Draft → Option JobStep → JobStep × State
flush_out s draft (Some rest) = (rest, s)
flush_out s draft None = (flush_answer_of s draft (flush_ready draft s).jobs.flush.running, flush_done (flush_ready draft s).jobs.flush.running (flush_ready draft s))

-- a flush step whose call is answered Ok, with the state behind it
abbrev pub flush_played : Draft → State → JobStep × State
flush_played draft s = flush_out s draft (flush_rest s draft None)

abbrev pub flush_answers : ℕ → Draft → State → List JobStep
flush_answers zero draft s = []
flush_answers (suc n) draft s = (flush_played draft s).0 ∷ flush_answers n draft (flush_played draft s).1

abbrev pub behind_flush_steps : ℕ → Draft → State → State
behind_flush_steps zero draft s = s
behind_flush_steps (suc n) draft s = behind_flush_steps n draft (flush_played draft s).1

-- the table of one put of one byte to one byte
abbrev pub one_row : Draft
one_row = record { first = 1; last = 1; blocks = ((record { seq = 1; kind = kinds.Put; key = 97 ∷ []; value = 49 ∷ [] }) ∷ []) ∷ [] }

-- The flush of a segment with one put makes a table, appends its block and its end, and makes bytes and name firm; then comes its
-- edit. Behind the last call the segment is gone, and one more may follow the active one.
abbrev pub FirstFlush : Type 0
FirstFlush =
    (s : State) → let s0 : State = booted_store s in
    let s1 : State = behind_steps 1 (queued plain_put (record s0 { options = record standard { write_buffer = 18; max_immutables = 1 } })) in
    let s2 : State = behind_steps 4 (queued plain_put s1) in
    (flush_answers 8 one_row s2 ≡
    job_step.Moved 1 call.Create ∷ job_step.Moved 1 call.Append ∷ job_step.Moved 1 call.Append ∷ job_step.Moved 1 call.Sync ∷ job_step.Moved 1 call.SyncDir
    ∷ job_step.Moved 1 call.Append ∷ job_step.Done 1 ∷ job_step.Idle ∷ [])
    × (refusal (behind_flush_steps 6 one_row s2) plain_put ≡ Some (admit.Full 18 1))
    × (refusal (behind_flush_steps 7 one_row s2) plain_put ≡ None)

-- ---- a resume

-- a sync of a log failed, in a way that may pass
abbrev pub sync_failed : Failure
sync_failed = record { reason = Wal; fault = Retryable }

-- Behind a put and a failed write a resume makes a table of the put, then a log and a manifest as a boot does. Until its last
-- call no batch is taken.
abbrev pub FirstResume : Type 0
FirstResume =
    (s : State) → let s1 : State = noted sync_failed (behind_steps 2 (queued (synced_put 97 49) (booted_store s))) in
    let s2 : State = start_after s1 (start_answer s1) in
    let s3 : State = behind_resume_steps 14 (one_row ∷ []) s2 in
    (start_answer (booted_store s) ≡ start.Nothing)
    × (start_answer s1 ≡ start.Started 2)
    × (start_answer s2 ≡ start.Busy 2)
    × (resume_answers 15 (one_row ∷ []) s2 ≡
    resume.Moved 2 call.Create ∷ resume.Moved 2 call.Append ∷ resume.Moved 2 call.Append ∷ resume.Moved 2 call.Sync ∷ resume.Moved 2 call.Create
    ∷ resume.Moved 2 call.SyncDir ∷ resume.Moved 2 call.Create ∷ resume.Moved 2 call.Append ∷ resume.Moved 2 call.Sync ∷ resume.Moved 2 call.Create
    ∷ resume.Moved 2 call.Append ∷ resume.Moved 2 call.Sync ∷ resume.Moved 2 call.Rename ∷ resume.Cleared 2 14 ∷ resume.Idle ∷ [])
    × (refusal s2 plain_put ≡ Some (admit.Stopped sync_failed))
    × (refusal s3 plain_put ≡ None)
