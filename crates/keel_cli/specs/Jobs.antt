-- The job numbers that a driver holds, and the steps that it makes with them.
use Rattle.std.specs.Prelude.{◌≡◌, ℕ, Option, None, Some, List}
use Rattle.keel_draft.specs.Drafts.{Draft}
use Rattle.keel_machine.specs.declared.answers.Start.{Start}
use Rattle.keel_machine.specs.declared.answers.Start.TheVariants as start
use Rattle.keel_machine.specs.declared.steps.JobStep.{JobStep}
use Rattle.keel_machine.specs.declared.steps.JobStep.TheVariants as job_step
use Rattle.keel_machine.specs.declared.steps.ResumeStep.{ResumeStep}
use Rattle.keel_machine.specs.declared.steps.ResumeStep.TheVariants as boot_step
use Rattle.keel_machine.specs.declared.steps.WriteStep.{WriteStep}
use Rattle.keel_machine.specs.declared.steps.WriteStep.TheVariants as step
use Rattle.keel_machine.specs.States.{State}
use Rattle.keel_machine.specs.Turns.{Event, Turn, Writing, Flushing, Resuming, Starting}
use Rattle.keel_cli.specs.declared.holding.HeldJobs.{HeldJobs}

-- a store as the machine has it, and of each job the number that its driver holds
pub record Driven : Type 0 where
  pub state : State
  pub jobs : HeldJobs

abbrev pub driven : State → HeldJobs → Driven
driven state jobs = record { state = state; jobs = jobs }

-- none is held of a store that isn't open, or was just opened
abbrev pub no_jobs : HeldJobs
no_jobs = record { write = None; flush = None; resume = None }

-- ---- what is held behind a step: the number that it moved or started, and none where the job is over

abbrev pub write_held : WriteStep → Option ℕ → Option ℕ
write_held (step.Moved job call) held = Some job
write_held (step.Done job seq batches) held = None
write_held (step.Failed failure) held = None
write_held (step.Cancelled job current) held = None
write_held other held = held

abbrev pub flush_held : JobStep → Option ℕ → Option ℕ
flush_held (job_step.Moved job call) held = Some job
flush_held (job_step.Done job) held = None
flush_held (job_step.Failed failure) held = None
flush_held (job_step.Cancelled job current) held = None
flush_held other held = held

abbrev pub resume_held : ResumeStep → Option ℕ → Option ℕ
resume_held (boot_step.Moved job call) held = Some job
resume_held (boot_step.Cleared job steps) held = None
resume_held (boot_step.Failed failure) held = None
resume_held (boot_step.Cancelled job current) held = None
resume_held other held = held

abbrev pub start_held : Start → Option ℕ → Option ℕ
start_held (start.Started job) held = Some job
start_held other held = held

-- ---- steps with the number that is held

pub record WriteTurn (old : Driven) (made : WriteStep) (new : Driven) : Type 0 where
  pub turn : Turn old.state (Writing old.jobs.write made) new.state
  pub jobs : new.jobs ≡ record old.jobs { write = write_held made old.jobs.write }

pub record FlushTurn (old : Driven) (draft : Draft) (made : JobStep) (new : Driven) : Type 0 where
  pub turn : Turn old.state (Flushing draft old.jobs.flush made) new.state
  pub jobs : new.jobs ≡ record old.jobs { flush = flush_held made old.jobs.flush }

pub record ResumeTurn (old : Driven) (drafts : List Draft) (made : ResumeStep) (new : Driven) : Type 0 where
  pub turn : Turn old.state (Resuming drafts old.jobs.resume made) new.state
  pub jobs : new.jobs ≡ record old.jobs { resume = resume_held made old.jobs.resume }

pub record StartTurn (old : Driven) (answer : Start) (new : Driven) : Type 0 where
  pub turn : Turn old.state (Starting answer) new.state
  pub jobs : new.jobs ≡ record old.jobs { resume = start_held answer old.jobs.resume }

-- a call that leaves the numbers as they are
pub record PlainTurn (old : Driven) (event : Event) (new : Driven) : Type 0 where
  pub turn : Turn old.state event new.state
  pub jobs : new.jobs ≡ old.jobs
