-- A job takes over the active segment with its first call.
use Rattle.std.proofs.Common.{◌≡◌, ℕ, ◌+◌, Bool, [], refl}
use Rattle.keel_base.specs.declared.failure.Call.{Call}
use Rattle.keel_base.specs.declared.failure.Failure.{Failure}
use Rattle.keel_disk.specs.Seen.{Seen}
use Rattle.keel_handler.specs.Recovery.{HandlerState}
use Rattle.keel_machine.specs.declared.steps.ResumeStep.TheVariants as step
use Rattle.keel_manifest.specs.State.{ManifestState}
use Rattle.keel_resume.specs.Jobs.{IsFailure, IsLast, IsMove, Point}
use Rattle.keel_core.specs.declared.closing.Closing.{Closing}
use Rattle.keel_core.specs.declared.closing.Closing.TheVariants.{Before, Empty, Full}
use Rattle.keel_core.specs.Covering.{Closes, closed_by, taken_over}
use Rattle.keel_core.specs.Failing.{noted}
use Rattle.keel_core.specs.Resuming.{MakesCall, cleared, with_boot}
use Rattle.keel_core.specs.Views.{BootShown, CoreView, Running, resting}
use Rattle.keel_core.proofs.BootJobs as jobs
use Rattle.keel_core.proofs.BootJobs.{at}

-- what is asked of it is the same behind the call
pub closes_behind : (closing : Closing) (view : CoreView) (device : Seen) (boot : BootShown) (boot_job : ℕ) (handler : HandlerState) (next_file : ℕ) (manifest : ManifestState)
    → Closes closing view → Closes closing (record view { device = device; boot = boot; boot_job = boot_job; handler = handler; next_file = next_file; manifest = manifest })
closes_behind Before view device boot boot_job handler next_file manifest h = h
closes_behind Empty view device boot boot_job handler next_file manifest h = h
closes_behind (Full closed) view device boot boot_job handler next_file manifest h =
    (h.0, record { next = record { rows = h.1.next.rows; bytes = h.1.next.bytes; entries = h.1.next.entries; logs = h.1.next.logs }; none = h.1.none; room = h.1.room; few = h.1.few })

-- and behind it there is no row
pub no_row_behind : (closing : Closing) (view : CoreView) → Closes closing view → (closed_by closing view).rows ≡ []
no_row_behind Before view h = h
no_row_behind Empty view h = refl
no_row_behind (Full closed) view h = refl

module _ (view : CoreView) (number : ℕ) (booted : Bool) (made : ℕ) (before later : Point) where
  abbrev old : Closing → CoreView
  old closing = with_boot number booted (record { steps = made; job = before.state.job }) (closed_by closing (at before view))

  pub moved_closed : (closing : Closing) (call : Call) → IsMove call before later
      → MakesCall (old closing) before.state.job.drafts (step.Moved number call)
      (closed_by closing (record (at later view) { boot = Running booted (record { steps = made + 1; job = later.state.job }); boot_job = number }))
  moved_closed Before call m = jobs.moved_goes view number booted made before later call m
  moved_closed Empty call m = jobs.moved_goes (taken_over view) number booted made before later call m
  moved_closed (Full closed) call m = jobs.moved_goes (taken_over view) number booted made before later call m

  pub failed_closed : (closing : Closing) (failure : Failure) → IsFailure failure before later
      → MakesCall (old closing) before.state.job.drafts (step.Failed failure)
      (closed_by closing (record (at later view) { boot = resting booted; boot_job = number; handler = noted failure view.handler }))
  failed_closed Before failure m = jobs.failed_goes view number booted made before later failure m
  failed_closed Empty failure m = jobs.failed_goes (taken_over view) number booted made before later failure m
  failed_closed (Full closed) failure m = jobs.failed_goes (taken_over view) number booted made before later failure m

  pub cleared_closed : (closing : Closing) → IsLast before later
      → MakesCall (old closing) before.state.job.drafts (step.Cleared number (made + 1)) (cleared later.state.job (closed_by closing (record (at later view) { boot_job = number })))
  cleared_closed Before m = jobs.cleared_goes view number booted made before later m
  cleared_closed Empty m = jobs.cleared_goes (taken_over view) number booted made before later m
  cleared_closed (Full closed) m = jobs.cleared_goes (taken_over view) number booted made before later m
