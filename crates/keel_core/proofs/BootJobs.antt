-- What a step of the job leaves is what the machine has.
use Rattle.std.proofs.Common.{◌≡◌, ℕ, ◌+◌, Bool, List, [], ◌∷◌, Option, Some, None, refl, sym, subst}
use Rattle.std.specs.Prelude.{IsSome}
use Rattle.std.specs.List.{flat_map}
use Rattle.keel_base.specs.declared.failure.Call.{Call}
use Rattle.keel_base.specs.declared.failure.Failure.{Failure}
use Rattle.keel_machine.specs.declared.steps.ResumeStep.TheVariants as step
use Rattle.keel_machine.specs.States.{Resumption}
use Rattle.keel_manifest.specs.declared.roll.RollCall.TheVariants.{MakeManifest, AppendEdit, SyncManifest, MakeTemporary, AppendName, SyncTemporary, Rename, SyncDirectory}
use Rattle.keel_core.specs.Failing.{noted}
use Rattle.keel_draft.specs.Drafts.{Draft}
use Rattle.keel_resume.specs.Jobs.{IsFailure, IsLast, IsMove, Point}
use Rattle.keel_resume.specs.Plans.{failure_of, Act, MakeTable, AddPiece, SyncTable, MakeLog, SyncLogName, Rolls, Job, Progress, handed, job_of, left_of, moved, table_acts}
use Rattle.keel_core.specs.Plans.{IsOnWay, MakesLog}
use Rattle.keel_core.specs.Resuming.{MakesCall, cleared, with_boot}
use Rattle.keel_core.specs.Views.{CoreView, Running, resting}
use Rattle.keel_core.proofs.BootSteps as steps

-- ---- on the way

step_log : (log : Option ℕ) (act : Act) (later : List Act) → (act ≡ MakeLog → ⊥) → MakesLog log (act ∷ later) → MakesLog log later
step_log (Some number) act later other h = tt
step_log None act later other ([], is) = absurd (other (cc is))
step_log None act later other (first ∷ front, is) = (front, cc is)

made_log : (act : Act) (later : List Act) (next : ℕ) (p : Progress) → MakesLog p.log (act ∷ later) → MakesLog (handed next act p).log later
made_log MakeLog later next p h = tt
made_log MakeTable later next p h = step_log p.log MakeTable later (λ e. cc e) h
made_log (AddPiece bytes) later next p h = step_log p.log (AddPiece bytes) later (λ e. cc e) h
made_log SyncTable later next p h = step_log p.log SyncTable later (λ e. cc e) h
made_log SyncLogName later next p h = step_log p.log SyncLogName later (λ e. cc e) h
made_log (Rolls MakeManifest) later next p h = step_log p.log (Rolls MakeManifest) later (λ e. cc e) h
made_log (Rolls AppendEdit) later next p h = step_log p.log (Rolls AppendEdit) later (λ e. cc e) h
made_log (Rolls SyncManifest) later next p h = step_log p.log (Rolls SyncManifest) later (λ e. cc e) h
made_log (Rolls MakeTemporary) later next p h = step_log p.log (Rolls MakeTemporary) later (λ e. cc e) h
made_log (Rolls AppendName) later next p h = step_log p.log (Rolls AppendName) later (λ e. cc e) h
made_log (Rolls SyncTemporary) later next p h = step_log p.log (Rolls SyncTemporary) later (λ e. cc e) h
made_log (Rolls Rename) later next p h = step_log p.log (Rolls Rename) later (λ e. cc e) h
made_log (Rolls SyncDirectory) later next p h = step_log p.log (Rolls SyncDirectory) later (λ e. cc e) h

log_behind : (act : Act) (later : List Act) (next : ℕ) (job : Job) → IsOnWay job → left_of job ≡ act ∷ later → MakesLog (moved next act job).progress.log later
log_behind act later next job way left = made_log act later next job.progress (subst (MakesLog job.progress.log) left way.log)

pub goes_on_way : (act : Act) (later : List Act) (next : ℕ) (job behind : Job) → IsOnWay job → left_of job ≡ act ∷ later → behind ≡ moved next act job → left_of behind ≡ later → IsOnWay behind
goes_on_way act later next job behind way left is left_behind = record {
  log = subst (λ (l : List Act). MakesLog behind.progress.log l) (sym left_behind)
      (subst (λ (j : Job). MakesLog j.progress.log later) (sym is) (log_behind act later next job way left));
}

log_there : (log : Option ℕ) → MakesLog log [] → IsSome log
log_there (Some number) h = refl
log_there None ([], is) = absurd (cc is)
log_there None (first ∷ front, is) = absurd (cc is)

pub log_at_end : (act : Act) (next : ℕ) (job behind : Job) → IsOnWay job → left_of job ≡ act ∷ [] → behind ≡ moved next act job → IsSome behind.progress.log
log_at_end act next job behind way left is = subst (λ (j : Job). IsSome j.progress.log) (sym is) (log_there (moved next act job).progress.log (log_behind act [] next job way left))

-- ---- at its beginning

pub begins_on_way : (job : Job) (drafts : List Draft) (live : _) (last : ℕ) → job ≡ job_of live last drafts → IsOnWay job
begins_on_way job drafts live last is = subst IsOnWay (sym is) (record {
  log = (flat_map table_acts drafts, refl);
})

-- ---- a step

-- the core at this point of its job
abbrev pub at : Point → CoreView → CoreView
at point view = record view { device = point.seen; next_file = point.next; manifest = point.manifest }

module _ (view : CoreView) (number : ℕ) (booted : Bool) (made : ℕ) (before later : Point) where
  abbrev pub runs : Resumption
  runs = record { steps = made; job = before.state.job }

  abbrev pub old : CoreView
  old = with_boot number booted runs (at before view)

  pub moved_goes : (call : Call) → IsMove call before later
      → MakesCall old before.state.job.drafts (step.Moved number call)
      (record (at later view) { boot = Running booted (record { steps = made + 1; job = later.state.job }); boot_job = number })
  moved_goes call m =
      subst (λ (v : CoreView). MakesCall old before.state.job.drafts (step.Moved number call) v)
      (λ i. record view {
        device = later.seen;
        boot = Running booted (record { steps = made + 1; job = sym m.made.job_is i });
        boot_job = number;
        next_file = sym m.made.next_is i;
        manifest = sym m.made.manifest_is i;
      })
      (subst (λ (c : Call). MakesCall old before.state.job.drafts (step.Moved number c) (steps.view_moved (at before view) number booted runs later.seen m.act (m.another ∷ m.later) m.made.next)) (sym m.call_is)
      (steps.moves (at before view) number booted runs later.seen m.act (m.another ∷ m.later) m.made.next m.another m.later refl m.made.calls))

  pub failed_goes : (failure : Failure) → IsFailure failure before later
      → MakesCall old before.state.job.drafts (step.Failed failure) (record (at later view) { boot = resting booted; boot_job = number; handler = noted failure view.handler })
  failed_goes failure m =
      subst (λ (f : Failure). MakesCall old before.state.job.drafts (step.Failed f) (record (at later view) { boot = resting booted; boot_job = number; handler = noted f view.handler })) (sym m.failure_is)
      (subst (λ (v : CoreView). MakesCall old before.state.job.drafts (step.Failed (failure_of m.act m.fault)) v)
      (λ i. record view {
        device = later.seen;
        boot = resting booted;
        boot_job = number;
        handler = noted (failure_of m.act m.fault) view.handler;
        next_file = sym m.next_is i;
        manifest = sym m.manifest_is i;
      })
      (steps.fails (at before view) number booted runs later.seen m.act m.later m.next m.fault m.calls))

  pub cleared_goes : IsLast before later
      → MakesCall old before.state.job.drafts (step.Cleared number (made + 1)) (cleared later.state.job (record (at later view) { boot_job = number }))
  cleared_goes m =
      subst (λ (v : CoreView). MakesCall old before.state.job.drafts (step.Cleared number (made + 1)) v)
      (λ i. cleared (sym m.made.job_is i) (record view {
        device = later.seen;
        boot_job = number;
        next_file = sym m.made.next_is i;
        manifest = sym m.made.manifest_is i;
      }))
      (steps.clears (at before view) number booted runs later.seen m.act [] m.made.next refl m.made.calls)
