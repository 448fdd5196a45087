-- A store that is open stays so, and a boot leaves the queue as it is.
use Rattle.std.proofs.Common.{◌≡◌, ◌∙◌, ap, sym, subst, ℕ, Bool, true, false, Option, None, Some, List, [], ◌∷◌, refl}
use Rattle.keel_base.specs.declared.failure.Failure.{Failure}
use Rattle.keel_base.specs.declared.op.Batch.{Batch}
use Rattle.keel_machine.specs.declared.answers.Admit.{Admit}
use Rattle.keel_machine.specs.declared.answers.Admit.TheVariants as admit
use Rattle.keel_machine.specs.declared.steps.WriteStep.{WriteStep}
use Rattle.keel_machine.specs.declared.steps.WriteStep.TheVariants as step
use Rattle.keel_machine.specs.declared.steps.ResumeStep.{ResumeStep}
use Rattle.keel_machine.specs.declared.steps.ResumeStep.TheVariants as boot_step
use Rattle.keel_machine.specs.Admission.{admit_after}
use Rattle.keel_machine.specs.Resuming as boot
use Rattle.keel_draft.specs.Drafts.{Draft}
use Rattle.keel_resume.specs.Plans as plans
use Rattle.keel_cli.specs.Stores.{AreTold}
use Rattle.keel_group.specs.Queue.{Ticketed}
use Rattle.keel_machine.specs.States.{State, Mode, Act, CloseLog, MakeLog, SyncDirectory, AddRecords, SyncLog, Group, Resumption, Writing, is_open, left_of}
use Rattle.keel_machine.specs.Writing.{started, started_or, ready}
use Rattle.keel_machine.specs.WritingAfter.{goes_on, switched, with_made, act_done, act_failed, first_done, first_failed, group_done, group_failed, write_after}

mode_started : (waiting : List Ticketed) (s : State) → (started waiting s).mode ≡ s.mode
mode_started [] s = refl
mode_started (first ∷ rest) s = refl

mode_started_or : (group : Option Group) (s : State) → (started_or group s).mode ≡ s.mode
mode_started_or None s = mode_started s.writing.waiting s
mode_started_or (Some group) s = refl

mode_ready : (s : State) → (ready s).mode ≡ s.mode
mode_ready s = mode_started_or s.jobs.write.running s

mode_goes_on : (sync : Bool) (group : Group) (left : List Act) (s : State) → (goes_on sync group left s).mode ≡ s.mode
mode_goes_on sync group [] s = refl
mode_goes_on sync group (act ∷ later) s = refl

mode_switched : (log : Option ℕ) (s : State) → (switched log s).mode ≡ s.mode
mode_switched None s = refl
mode_switched (Some number) s = refl

mode_done : (act : Act) (group : Group) (later : List Act) (s : State) → (act_done act group later s).mode ≡ s.mode
mode_done CloseLog group [] s = refl
mode_done CloseLog group (act ∷ later) s = refl
mode_done MakeLog group [] s = refl
mode_done MakeLog group (act ∷ later) s = refl
mode_done SyncDirectory group later s = mode_goes_on false (with_made None group) later (switched group.progress.log s) ∙ mode_switched group.progress.log s
mode_done AddRecords group [] s = refl
mode_done AddRecords group (act ∷ later) s = refl
mode_done SyncLog group [] s = refl
mode_done SyncLog group (act ∷ later) s = refl

mode_failed : (act : Act) (group : Group) (failure : Failure) (s : State) → (act_failed act group failure s).mode ≡ s.mode
mode_failed CloseLog group failure s = refl
mode_failed MakeLog group failure s = refl
mode_failed SyncDirectory group failure s = refl
mode_failed AddRecords group failure s = refl
mode_failed SyncLog group failure s = refl

mode_first_done : (group : Group) (left : List Act) (s : State) → (first_done group left s).mode ≡ s.mode
mode_first_done group [] s = refl
mode_first_done group (act ∷ later) s = mode_done act group later s

mode_group_done : (group : Option Group) (s : State) → (group_done group s).mode ≡ s.mode
mode_group_done None s = refl
mode_group_done (Some group) s = mode_first_done group (left_of group) s

mode_first_failed : (group : Group) (left : List Act) (failure : Failure) (s : State) → (first_failed group left failure s).mode ≡ s.mode
mode_first_failed group [] failure s = refl
mode_first_failed group (act ∷ later) failure s = mode_failed act group failure s

mode_group_failed : (group : Option Group) (failure : Failure) (s : State) → (group_failed group failure s).mode ≡ s.mode
mode_group_failed None failure s = refl
mode_group_failed (Some group) failure s = mode_first_failed group (left_of group) failure s

pub mode_written : (s : State) (made : WriteStep) → (write_after s made).mode ≡ s.mode
mode_written s (step.Moved job call) = mode_group_done (ready s).jobs.write.running (ready s) ∙ mode_ready s
mode_written s (step.Done job seq batches) = mode_group_done (ready s).jobs.write.running (ready s) ∙ mode_ready s
mode_written s (step.Failed failure) = mode_group_failed (ready s).jobs.write.running failure (ready s) ∙ mode_ready s
mode_written s (step.Turned batches failure) = refl
mode_written s step.Idle = refl
mode_written s (step.Full active immutables) = refl
mode_written s (step.Spent counter) = refl
mode_written s (step.Cancelled job current) = refl
mode_written s step.OutOfMemory = refl

pub mode_admitted : (s : State) (batch : Batch) (answer : Admit) → (admit_after s batch answer).mode ≡ s.mode
mode_admitted s batch (admit.Queued ticket) = refl
mode_admitted s batch (admit.BadSize part size) = refl
mode_admitted s batch admit.Closing = refl
mode_admitted s batch admit.Booting = refl
mode_admitted s batch (admit.Stopped failure) = refl
mode_admitted s batch (admit.Spent counter) = refl
mode_admitted s batch (admit.Full active immutables) = refl
mode_admitted s batch (admit.QueueFull waiting) = refl
mode_admitted s batch admit.OutOfMemory = refl

-- ---- boots

open_ready : (running : Option Resumption) (drafts : List Draft) (s : State) → (boot.started_or running drafts s).mode ≡ s.mode
open_ready None drafts s = refl
open_ready (Some running) drafts s = refl

open_first : (running : Resumption) (left : List plans.Act) (s : State) → is_open s.mode.phase ≡ true → is_open (boot.first_done running left s).mode.phase ≡ true
open_first running [] s opened = opened
open_first running (act ∷ []) s opened = refl
open_first running (act ∷ next ∷ later) s opened = opened

open_done : (running : Option Resumption) (s : State) → is_open s.mode.phase ≡ true → is_open (boot.boot_done running s).mode.phase ≡ true
open_done None s opened = opened
open_done (Some running) s opened = open_first running (plans.left_of running.job) s opened

mode_first_stopped : (job : plans.Job) (left : List plans.Act) (failure : Failure) (s : State) → (boot.first_failed job left failure s).mode ≡ s.mode
mode_first_stopped job [] failure s = refl
mode_first_stopped job (act ∷ later) failure s = refl

mode_stopped : (running : Option Resumption) (failure : Failure) (s : State) → (boot.boot_failed running failure s).mode ≡ s.mode
mode_stopped None failure s = refl
mode_stopped (Some running) failure s = mode_first_stopped running.job (plans.left_of running.job) failure s

open_behind_call : (drafts : List Draft) (s : State) → is_open s.mode.phase ≡ true → is_open (boot.call_done drafts s).mode.phase ≡ true
open_behind_call drafts s opened =
    open_done (boot.resume_ready drafts s).jobs.resume.running (boot.resume_ready drafts s)
    (ap (λ (m : Mode). is_open m.phase) (open_ready s.jobs.resume.running drafts s) ∙ opened)

pub open_resumed : (s : State) (drafts : List Draft) (made : ResumeStep) → is_open s.mode.phase ≡ true → is_open (boot.resume_after s drafts made).mode.phase ≡ true
open_resumed s drafts (boot_step.Moved job call) opened = open_behind_call drafts s opened
open_resumed s drafts (boot_step.Cleared job steps) opened = open_behind_call drafts s opened
open_resumed s drafts (boot_step.Failed failure) opened =
    ap (λ (m : Mode). is_open m.phase) (mode_stopped (boot.resume_ready drafts s).jobs.resume.running failure (boot.resume_ready drafts s) ∙ open_ready s.jobs.resume.running drafts s)
    ∙ opened
open_resumed s drafts boot_step.Idle opened = opened
open_resumed s drafts (boot_step.Spent counter) opened = opened
open_resumed s drafts (boot_step.Cancelled job current) opened = opened
open_resumed s drafts boot_step.OutOfMemory opened = opened

-- ---- and leave the queue and the outcomes as they are

queue_ready : (running : Option Resumption) (drafts : List Draft) (s : State) → (boot.started_or running drafts s).writing ≡ s.writing
queue_ready None drafts s = refl
queue_ready (Some running) drafts s = refl

queue_first : (running : Resumption) (left : List plans.Act) (s : State) → (boot.first_done running left s).writing ≡ s.writing
queue_first running [] s = refl
queue_first running (act ∷ []) s = refl
queue_first running (act ∷ next ∷ later) s = refl

queue_done : (running : Option Resumption) (s : State) → (boot.boot_done running s).writing ≡ s.writing
queue_done None s = refl
queue_done (Some running) s = queue_first running (plans.left_of running.job) s

queue_first_stopped : (job : plans.Job) (left : List plans.Act) (failure : Failure) (s : State) → (boot.first_failed job left failure s).writing ≡ s.writing
queue_first_stopped job [] failure s = refl
queue_first_stopped job (act ∷ later) failure s = refl

queue_stopped : (running : Option Resumption) (failure : Failure) (s : State) → (boot.boot_failed running failure s).writing ≡ s.writing
queue_stopped None failure s = refl
queue_stopped (Some running) failure s = queue_first_stopped running.job (plans.left_of running.job) failure s

queue_behind_call : (drafts : List Draft) (s : State) → (boot.call_done drafts s).writing ≡ s.writing
queue_behind_call drafts s =
    queue_done (boot.resume_ready drafts s).jobs.resume.running (boot.resume_ready drafts s) ∙ queue_ready s.jobs.resume.running drafts s

queue_resumed : (s : State) (drafts : List Draft) (made : ResumeStep) → (boot.resume_after s drafts made).writing ≡ s.writing
queue_resumed s drafts (boot_step.Moved job call) = queue_behind_call drafts s
queue_resumed s drafts (boot_step.Cleared job steps) = queue_behind_call drafts s
queue_resumed s drafts (boot_step.Failed failure) =
    queue_stopped (boot.resume_ready drafts s).jobs.resume.running failure (boot.resume_ready drafts s) ∙ queue_ready s.jobs.resume.running drafts s
queue_resumed s drafts boot_step.Idle = refl
queue_resumed s drafts (boot_step.Spent counter) = refl
queue_resumed s drafts (boot_step.Cancelled job current) = refl
queue_resumed s drafts boot_step.OutOfMemory = refl

pub told_resumed : (s : State) (drafts : List Draft) (made : ResumeStep) → AreTold s.writing.outcomes → AreTold (boot.resume_after s drafts made).writing.outcomes
told_resumed s drafts made told = subst (λ (w : Writing). AreTold w.outcomes) (sym (queue_resumed s drafts made)) told
