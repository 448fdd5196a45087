-- A call of the flush is a step of the machine, over plain values.
use Rattle.std.proofs.Common.{◌≡◌, ℕ, List, [], ◌∷◌, ◌++◌, drop, Option, Some, None, Ok, Err, refl, sym, ap, subst, ◌∙◌}
use Rattle.keel_base.specs.declared.failure.Call.{Call}
use Rattle.keel_base.specs.declared.failure.Failure.{Failure}
use Rattle.keel_base.specs.declared.failure.Fault.{Fault}
use Rattle.keel_directory.specs.TableFiles.{TableFile}
use Rattle.keel_disk.specs.declared.error.DiskError.TheVariants as error
use Rattle.keel_disk.specs.Seen.{Calls, Seen}
use Rattle.keel_draft.specs.Drafts.{Draft, file_of}
use Rattle.keel_edit.specs.declared.edit.Added.{Added}
use Rattle.keel_flush.specs.Jobs.{IsFailure, IsLast, IsMove, Point}
use Rattle.keel_flush.specs.Plans.{Act, SyncManifest, Job, call_of, change_of, failure_of, left_of, manifest_behind, manifest_tried, moved, next_behind, number_of}
use Rattle.keel_flush.proofs.Ends.{last_is_sync}
use Rattle.keel_levels.specs.Live.{tables_of}
use Rattle.keel_machine.specs.declared.steps.JobStep.{JobStep}
use Rattle.keel_machine.specs.declared.steps.JobStep.TheVariants as step
use Rattle.keel_machine.specs.Flushing as machine
use Rattle.keel_machine.specs.Flushing.{flush_rest, levels_with}
use Rattle.keel_machine.specs.Outside.{as_answer}
use Rattle.keel_machine.specs.States as states
use Rattle.keel_machine.specs.States.{State, entries_in}
use Rattle.keel_machine.specs.Turns.{Answers, after}
use Rattle.keel_machine.specs.Turns as turns
use Rattle.keel_core.specs.Failing.{noted}
use Rattle.keel_core.specs.Flushes.{MakesCall, flushed, tables_with, with_flush}
use Rattle.keel_core.specs.Views.{Beyond, BootShown, Cleared, CoreView, Fits, StandsFor, last_in, state_of}
use Rattle.keel_core.proofs.BootSteps.{entries_behind, opened_new}
use Rattle.keel_core.proofs.Failing.{handler_noted}
use Rattle.keel_core.proofs.Segmenting.{first_gone}
use Rattle.keel_core.proofs.Unopened.{tables_unopened}

by_story : (old new : CoreView) (draft : Draft) (made : JobStep)
    → ((beyond : Beyond) (held : Option ℕ) → Fits old beyond → flush_rest (state_of old beyond) draft held ≡ None
    → Answers (state_of old beyond) (turns.Flushing draft held made) new.device × StandsFor new (after (state_of old beyond) (turns.Flushing draft held made) new.device))
    → MakesCall old draft made new
by_story old new draft made shown = record {
  goes = λ s held stands.
      subst (λ (t : State). flush_rest t draft held ≡ None → Answers t (turns.Flushing draft held made) new.device × StandsFor new (after t (turns.Flushing draft held made) new.device)) (sym stands.state_is)
      (shown stands.beyond held stands.fits);
}

-- ---- a call of the flush that runs

module _ (view : CoreView) (number : ℕ) (job : Job) (told : Seen) (act : Act) (later : List Act) (left : left_of job ≡ act ∷ later) where
  abbrev before : CoreView
  before = with_flush number job (record view { boot = Cleared })

  abbrev next : ℕ
  next = next_behind act view.next_file

  abbrev behind : Job
  behind = moved view.next_file act job

  made_call : (beyond : Beyond) (held : Option ℕ) → flush_rest (state_of before beyond) job.draft held ≡ None → (failed : Option Fault)
      → Calls view.device (change_of job view.next_file view.manifest act) (as_answer failed) told
      → machine.MadeCall (state_of before beyond) job.draft held job act later failed told
  made_call beyond held none failed calls = record {
    makes = record { no_rest = none; draft_is = refl; running_is = refl; next = left };
    calls = calls;
  }

  done_is : (beyond : Beyond) → states.with_device told (machine.first_done job (left_of job) (state_of before beyond))
      ≡ states.with_device told (machine.act_done act job later (state_of before beyond))
  done_is beyond = ap (λ (l : List Act). states.with_device told (machine.first_done job l (state_of before beyond))) left

  -- it has others before it
  abbrev view_moved : CoreView
  view_moved = record before { device = told; flush = Some behind; next_file = next; manifest = manifest_behind act job view.next_file view.manifest }

  moves : (another : Act) (rest : List Act) → later ≡ another ∷ rest → Calls view.device (change_of job view.next_file view.manifest act) (Ok tt) told
      → MakesCall before job.draft (step.Moved number (call_of act)) view_moved
  moves another rest is calls = by_story before view_moved job.draft (step.Moved number (call_of act)) (λ beyond held fits none. (
    record {
      job = job;
      act = act;
      next = another;
      later = rest;
      made = subst (λ (l : List Act). machine.MadeCall (state_of before beyond) job.draft held job act l None told) is (made_call beyond held none None calls);
      number_is = refl;
      call_is = refl;
    },
    record {
      beyond = beyond;
      state_is = done_is beyond ∙ ap (λ (l : List Act). states.with_device told (machine.act_done act job l (state_of before beyond))) is;
      fits = record {
        story = fits.story;
        segments = fits.segments;
        tables = fits.tables;
        opened = fits.opened;
        leads = fits.leads;
        handled = fits.handled;
        flushes = fits.flushes;
      };
    },
  ))

  -- it failed
  abbrev view_failed : Fault → CoreView
  view_failed fault = record before {
    device = told;
    flush = None;
    handler = noted (failure_of act fault) view.handler;
    next_file = next;
    manifest = manifest_tried act job view.next_file view.manifest;
  }

  fails : (fault : Fault) → Calls view.device (change_of job view.next_file view.manifest act) (Err (error.Fault fault)) told
      → MakesCall before job.draft (step.Failed (failure_of act fault)) (view_failed fault)
  fails fault calls = by_story before (view_failed fault) job.draft (step.Failed (failure_of act fault)) (λ beyond held fits none. (
    record {
      job = job;
      act = act;
      later = later;
      fault = fault;
      made = made_call beyond held none (Some fault) calls;
      failure_is = refl;
    },
    record {
      beyond = record beyond { failures = beyond.failures ++ failure_of act fault ∷ [] };
      state_is = ap (λ (l : List Act). states.with_device told (machine.first_failed job l (failure_of act fault) (state_of before beyond))) left;
      fits = record {
        story = fits.story;
        segments = fits.segments;
        tables = fits.tables;
        opened = fits.opened;
        leads = fits.leads;
        handled = handler_noted view.options beyond.failures view.handler (failure_of act fault) fits.handled;
        flushes = tt;
      };
    },
  ))

  -- it was the last one
  abbrev view_flushed : CoreView
  view_flushed = record (flushed (tables_with behind (tables_of view.levels)) before) {
    device = told;
    flush = None;
    next_file = next;
    manifest = manifest_behind act job view.next_file view.manifest;
  }

  ends : later ≡ [] → Calls view.device (change_of job view.next_file view.manifest act) (Ok tt) told → MakesCall before job.draft (step.Done number) view_flushed
  ends is calls = by_story before view_flushed job.draft (step.Done number) (λ beyond held fits none.
      let tables : List Added = tables_with behind (tables_of view.levels) in
      let levels : List TableFile = levels_with behind beyond.levels in
      let entries : entries_in levels ≡ tables = entries_behind beyond.levels (file_of (number_of behind) behind.draft ∷ []) ∙ ap (tables_with behind) (sym fits.tables) in (
        record {
          job = job;
          act = act;
          made = subst (λ (l : List Act). machine.MadeCall (state_of before beyond) job.draft held job act l None told) is (made_call beyond held none None calls);
          number_is = refl;
        },
        record {
          beyond = record beyond { immutable = drop 1 beyond.immutable; levels = levels; in_tables = job.draft.last };
          state_is = done_is beyond ∙ ap (λ (l : List Act). states.with_device told (machine.act_done act job l (state_of before beyond))) is;
          fits = record {
            story = fits.story;
            segments = first_gone beyond.in_tables job.draft.last view.immutable beyond.immutable view.rows beyond.active (last_in view) fits.flushes fits.segments;
            tables = tables_unopened tables ∙ sym entries;
            opened = opened_new beyond.footing tables levels entries;
            leads = tt;
            handled = fits.handled;
            flushes = tt;
          };
        },
      ))

-- ---- a step of the job

-- the core at this point of its job
abbrev pub at : Point → CoreView → CoreView
at point view = record view { device = point.seen; next_file = point.next; manifest = point.manifest }

-- its last call makes no other table
same_table : (act : Act) (next : ℕ) (job : Job) (tables : List Added) → act ≡ SyncManifest → tables_with (moved next act job) tables ≡ tables_with job tables
same_table act next job tables is = ap (λ (a : Act). tables_with (moved next a job) tables) is

module _ (view : CoreView) (number : ℕ) (before later : Point) (cleared : view.boot ≡ Cleared) (none : view.flush ≡ None) where
  abbrev pub old : CoreView
  old = with_flush number before.state.job (at before view)

  by_boot : (made : JobStep) (new : CoreView) → MakesCall (record old { boot = Cleared }) before.state.job.draft made (record new { boot = Cleared }) → MakesCall old before.state.job.draft made (record new { boot = view.boot })
  by_boot made new goes = subst (λ (b : BootShown). MakesCall (record old { boot = b }) before.state.job.draft made (record new { boot = b })) (sym cleared) goes

  pub moved_goes : (call : Call) → IsMove call before later
      → MakesCall old before.state.job.draft (step.Moved number call) (record (at later view) { flush = Some later.state.job; flush_job = number })
  moved_goes call m =
      by_boot (step.Moved number call) (record (at later view) { flush = Some later.state.job; flush_job = number })
      (subst (λ (v : CoreView). MakesCall (record old { boot = Cleared }) before.state.job.draft (step.Moved number call) v)
      (λ i. record view {
        device = later.seen;
        boot = Cleared;
        flush = Some (sym m.made.job_is i);
        flush_job = number;
        next_file = sym m.made.next_is i;
        manifest = sym m.made.manifest_is i;
      })
      (subst (λ (c : Call). MakesCall (record old { boot = Cleared }) before.state.job.draft (step.Moved number c) (view_moved (at before view) number before.state.job later.seen m.act (m.another ∷ m.later) m.made.next)) (sym m.call_is)
      (moves (at before view) number before.state.job later.seen m.act (m.another ∷ m.later) m.made.next m.another m.later refl m.made.calls)))

  pub failed_goes : (failure : Failure) → IsFailure failure before later
      → MakesCall old before.state.job.draft (step.Failed failure) (record (at later view) { flush_job = number; handler = noted failure view.handler })
  failed_goes failure m =
      by_boot (step.Failed failure) (record (at later view) { flush_job = number; handler = noted failure view.handler })
      (subst (λ (f : Failure). MakesCall (record old { boot = Cleared }) before.state.job.draft (step.Failed f) (record (at later view) { boot = Cleared; flush_job = number; handler = noted f view.handler })) (sym m.failure_is)
      (subst (λ (v : CoreView). MakesCall (record old { boot = Cleared }) before.state.job.draft (step.Failed (failure_of m.act m.fault)) v)
      (λ i. record view {
        device = later.seen;
        boot = Cleared;
        flush = sym none i;
        flush_job = number;
        handler = noted (failure_of m.act m.fault) view.handler;
        next_file = sym m.next_is i;
        manifest = sym m.manifest_is i;
      })
      (fails (at before view) number before.state.job later.seen m.act m.later m.next m.fault m.calls)))

  pub ended_goes : (tables : List Added) → tables ≡ tables_with before.state.job (tables_of view.levels) → IsLast before later
      → MakesCall old before.state.job.draft (step.Done number) (flushed tables (record (at later view) { flush_job = number }))
  ended_goes tables tables_are m =
      let same = same_table m.act before.next before.state.job (tables_of view.levels) (last_is_sync before.state.job m.act m.made.next) ∙ sym tables_are in
      by_boot (step.Done number) (flushed tables (record (at later view) { flush_job = number }))
      (subst (λ (v : CoreView). MakesCall (record old { boot = Cleared }) before.state.job.draft (step.Done number) v)
      (λ i. flushed (same i) (record view {
        device = later.seen;
        boot = Cleared;
        flush = sym none i;
        flush_job = number;
        next_file = sym m.made.next_is i;
        manifest = sym m.made.manifest_is i;
      }))
      (ends (at before view) number before.state.job later.seen m.act [] m.made.next refl m.made.calls))
