-- Facts of the machine.
use Rattle.std.specs.Prelude.{◌≡◌, ◌⊎◌, ℕ, ◌≤◌, nat_le, true, false, [], length, Option, Some, None, is_some}
use Rattle.keel_base.specs.Counts.{raised}
use Rattle.keel_base.specs.declared.failure.Failure.{Failure}
use Rattle.keel_base.specs.declared.failure.Fault.{Fault}
use Rattle.keel_base.specs.declared.failure.Reason.TheVariants.{Manifest}
use Rattle.keel_base.specs.declared.op.Batch.{Batch}
use Rattle.keel_disk.specs.Seen.{Seen}
use Rattle.keel_draft.specs.Drafts.{Draft}
use Rattle.keel_group.specs.declared.formed.TheConstants.{MAX_WAITING}
use Rattle.keel_machine.specs.declared.answers.Admit.TheVariants.{Queued}
use Rattle.keel_machine.specs.declared.steps.JobStep.{JobStep}
use Rattle.keel_machine.specs.declared.steps.WriteStep.{WriteStep}
use Rattle.keel_handler.specs.Failures.{standing_severity}
use Rattle.keel_machine.specs.Admission.{standing, stopping, AdmitAnswers}
use Rattle.keel_machine.specs.Closing.{close_after, open_tickets}
use Rattle.keel_machine.specs.Flushing.{FlushAnswers, is_work_stopped}
use Rattle.keel_machine.specs.States.{State}
use Rattle.keel_machine.specs.WritingAfter.{WriteAnswers, noted, failure_of}

-- A write step makes one changing call of the device at most.
abbrev pub OneCallAStep : Type 0
OneCallAStep =
    (s : State) (held : Option ℕ) (step : WriteStep) (device : Seen) → WriteAnswers s held step device
    → (device.changes ≡ s.device.changes) ⊎ (device.changes ≡ raised s.device.changes)

-- While an error stands that stops writes, no batch is queued.
abbrev pub FailureStops : Type 0
FailureStops = (s : State) (failure : Failure) (batch : Batch) (ticket : ℕ) → stopping s ≡ Some failure → AdmitAnswers s batch (Queued ticket) → ⊥

-- Every failure of a log stops writes, whatever stood before.
abbrev pub LogFailureStops : Type 0
LogFailureStops = (s : State) (fault : Fault) → is_some (stopping (noted (failure_of fault) s)) ≡ true

-- Where as many batches wait as may, no further one is queued.
abbrev pub FullQueueStops : Type 0
FullQueueStops = (s : State) (batch : Batch) (ticket : ℕ) → MAX_WAITING ≤ length s.writing.waiting → AdmitAnswers s batch (Queued ticket) → ⊥

-- Every failure of a manifest does.
abbrev pub ManifestFailureStops : Type 0
ManifestFailureStops = (s : State) (fault : Fault) → is_some (stopping (noted (record { reason = Manifest; fault = fault }) s)) ≡ true

-- Writes are stopped exactly where the standing error has severity 2 or more.
abbrev pub StopsAtTwo : Type 0
StopsAtTwo = (s : State) → is_some (stopping s) ≡ nat_le 2 (standing_severity s.options.paranoid (standing s))

-- A flush step makes one changing call of the device at most.
abbrev pub OneCallAFlush : Type 0
OneCallAFlush =
    (s : State) (draft : Draft) (held : Option ℕ) (step : JobStep) (device : Seen) → FlushAnswers s draft held step device
    → (device.changes ≡ s.device.changes) ⊎ (device.changes ≡ raised s.device.changes)

-- While background work is stopped a flush step makes no call.
abbrev pub StoppedWorkRests : Type 0
StoppedWorkRests =
    (s : State) (draft : Draft) (held : Option ℕ) (step : JobStep) (device : Seen) → FlushAnswers s draft held step device → is_work_stopped s ≡ true
    → device.told ≡ s.device.told

-- no group, no job and no waiting ticket
pub record IsEnded (s : State) : Type 0 where
  pub no_group : s.jobs.write.running ≡ None
  pub no_flush : s.jobs.flush.running ≡ None
  pub no_boot : s.jobs.resume.running ≡ None
  pub none_started : s.jobs.started ≡ false
  pub none_open : open_tickets s ≡ []

-- Closing leaves none, and no batch is queued any more.
abbrev pub ClosingEnds : Type 0
ClosingEnds = (s : State) → IsEnded (close_after s) × ((batch : Batch) (ticket : ℕ) → AdmitAnswers (close_after s) batch (Queued ticket) → ⊥)
