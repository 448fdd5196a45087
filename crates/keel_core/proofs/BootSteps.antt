-- A call of the job is a step of the machine, over plain values.
use Rattle.std.proofs.Common.{◌≡◌, ℕ, ◌+◌, ◌==◌, not, cond, Bool, true, false, List, [], ◌∷◌, ◌++◌, filter, Option, Some, None, Ok, Err, refl, sym, ap, subst, ◌∙◌, add-zero}
use Rattle.keel_base.specs.declared.failure.Fault.{Fault}
use Rattle.keel_directory.specs.TableFiles.{TableFile}
use Rattle.keel_disk.specs.declared.error.DiskError.TheVariants as error
use Rattle.keel_disk.specs.Seen.{Calls, Seen}
use Rattle.keel_edit.specs.declared.edit.Added.{Added}
use Rattle.keel_machine.specs.declared.steps.ResumeStep.{ResumeStep}
use Rattle.keel_machine.specs.declared.steps.ResumeStep.TheVariants as step
use Rattle.keel_machine.specs.Outside.{as_answer}
use Rattle.keel_machine.specs.Resuming as machine
use Rattle.keel_machine.specs.Resuming.{AreDrafts, cleared_story, made_in, resume_rest}
use Rattle.keel_machine.specs.States as states
use Rattle.keel_machine.specs.States.{State, Story, Footing, Known, Unknown, Phase, Resumption, Segment, entries_in, new_log}
use Rattle.keel_machine.specs.Reads.{WhereKnown}
use Rattle.keel_machine.specs.Turns.{Answers, after}
use Rattle.keel_machine.specs.Turns as turns
use Rattle.keel_flush.specs.Plans.{Job as FlushJob}
use Rattle.keel_levels.specs.declared.live.LiveTable.{LiveTable}
use Rattle.keel_levels.specs.Live.{AreOpened}
use Rattle.keel_draft.specs.Drafts.{Draft, added_of, file_of, numbered, with_new}
use Rattle.keel_resume.specs.Jobs.{manifest_behind, manifest_tried, tables_of}
use Rattle.keel_resume.specs.Plans.{Act, Job, call_of, change_of, failure_of, left_of, moved, next_behind}
use Rattle.keel_core.specs.Failing.{noted}
use Rattle.keel_core.specs.Resuming.{MakesCall, cleared, with_boot}
use Rattle.keel_core.specs.Tables.{unopened}
use Rattle.keel_core.specs.Trails.{Continues, TrailShown}
use Rattle.keel_core.specs.Views.{Beyond, BootShown, Running, Cleared, CoreView, Fits, IsFlushing, IsLeading, StandsFor, has_booted, is_started, last_in, phase_if, phase_of, resting, resumption_of, state_of}
use Rattle.keel_core.proofs.Failing.{handler_cleared, handler_noted}
use Rattle.keel_core.proofs.Stories.{cleared_on, last_same}
use Rattle.keel_core.proofs.Unopened.{none_opened, tables_unopened}

by_story : (old new : CoreView) (drafts : List Draft) (made : ResumeStep)
    → ((beyond : Beyond) (held : Option ℕ) → Fits old beyond → resume_rest (state_of old beyond) drafts held ≡ None
    → Answers (state_of old beyond) (turns.Resuming drafts held made) new.device × StandsFor new (after (state_of old beyond) (turns.Resuming drafts held made) new.device))
    → MakesCall old drafts made new
by_story old new drafts made shown = record {
  goes = λ s held stands.
      subst (λ (t : State). resume_rest t drafts held ≡ None → Answers t (turns.Resuming drafts held made) new.device × StandsFor new (after t (turns.Resuming drafts held made) new.device)) (sym stands.state_is)
      (shown stands.beyond held stands.fits);
}

-- ---- the tables that were made

entries-append : (front back : List TableFile) → entries_in (front ++ back) ≡ entries_in front ++ entries_in back
entries-append [] back = refl
entries-append (t ∷ front) back = ap (λ (l : List Added). t.entry ∷ l) (entries-append front back)

entries-filter : (test : Added → Bool) (files : List TableFile) → entries_in (filter (λ (t : TableFile). test t.entry) files) ≡ filter test (entries_in files)
entries-filter test [] = refl
entries-filter test (t ∷ files) =
    let rest = entries-filter test files in
    elim (test t.entry) as (λ b. entries_in (cond b (t ∷ filter (λ (f : TableFile). test f.entry) files) (filter (λ (f : TableFile). test f.entry) files)) ≡ cond b (t.entry ∷ filter test (entries_in files)) (filter test (entries_in files))) [
      | true ↦ ap (λ (l : List Added). t.entry ∷ l) rest
      | false ↦ rest
    ]

entries-numbered : (numbers : List ℕ) (drafts : List Draft) → entries_in (numbered file_of numbers drafts) ≡ numbered added_of numbers drafts
entries-numbered [] drafts = refl
entries-numbered (number ∷ numbers) [] = refl
entries-numbered (number ∷ numbers) (draft ∷ drafts) = ap (λ (l : List Added). added_of number draft ∷ l) (entries-numbered numbers drafts)

-- the entries of the tables behind new ones
pub entries_behind : (levels new : List TableFile)
    → entries_in (with_new (λ (t : TableFile). t.entry.level) levels new) ≡ with_new (λ (a : Added). a.level) (entries_in levels) (entries_in new)
entries_behind levels new =
    let low = filter (λ (t : TableFile). t.entry.level == 0) levels in
    let high = filter (λ (t : TableFile). not (t.entry.level == 0)) levels in
    entries-append (low ++ new) high
    ∙ ap (λ (l : List Added). l ++ entries_in high) (entries-append low new)
    ∙ (λ i. (entries-filter (λ (a : Added). a.level == 0) levels i ++ entries_in new) ++ entries-filter (λ (a : Added). not (a.level == 0)) levels i)

new_entries : (job : Job) (levels : List TableFile) → job.live ≡ entries_in levels
    → entries_in (with_new (λ (t : TableFile). t.entry.level) levels (made_in job)) ≡ tables_of job
new_entries job levels live =
    entries_behind levels (made_in job) ∙ (λ i. with_new (λ (a : Added). a.level) (sym live i) (entries-numbered job.progress.tables job.drafts i))

pub opened_new : (footing : Footing) (entries : List Added) (files : List TableFile) → entries_in files ≡ entries → WhereKnown footing (AreOpened (unopened entries) files)
opened_new Known entries files is = none_opened entries files is
opened_new Unknown entries files is = tt

flush_cleared : (flush : Option FlushJob) (seq : ℕ) → flush ≡ None → IsFlushing Cleared flush seq []
flush_cleared flush seq none = subst (λ (f : Option FlushJob). IsFlushing Cleared f seq []) (sym none) tt

-- ---- none is under way

-- what a state has of it
pub record Shows : Type 0 where
  pub phase : Phase
  pub running : Option Resumption
  pub started : Bool

abbrev shows : BootShown → Shows
shows boot = record { phase = phase_of boot; running = resumption_of boot; started = is_started boot }

rests_in : (booted : Bool) → record { phase = phase_if booted; running = None; started = false } ≡ shows (resting booted)
rests_in true = refl
rests_in false = refl

-- the story goes on as before
story_resting : (booted : Bool) (trail : TrailShown) (story : Story) → Continues booted trail story → Continues (has_booted (resting booted)) trail story
story_resting true trail story h = h
story_resting false trail story h = h

leads_none : (booted : Bool) (levels : List LiveTable) → IsLeading (resting booted) levels
leads_none true levels = tt
leads_none false levels = tt

flush_none : (booted : Bool) (flush : Option FlushJob) (seq : ℕ) (segments : List Segment) → flush ≡ None → IsFlushing (resting booted) flush seq segments
flush_none true flush seq segments none = subst (λ (f : Option FlushJob). IsFlushing Cleared f seq segments) (sym none) tt
flush_none false flush seq segments none = none

-- ---- a call of the job that runs

module _ (view : CoreView) (number : ℕ) (booted : Bool) (running : Resumption) (told : Seen) (act : Act) (later : List Act) (left : left_of running.job ≡ act ∷ later) where
  abbrev before : CoreView
  before = with_boot number booted running view

  abbrev drafts : List Draft
  drafts = running.job.drafts

  abbrev next : ℕ
  next = next_behind act view.next_file

  abbrev behind : Job
  behind = moved view.next_file act running.job

  made_call : (beyond : Beyond) (held : Option ℕ) → resume_rest (state_of before beyond) drafts held ≡ None → (failed : Option Fault)
      → Calls view.device (change_of running.job view.next_file act) (as_answer failed) told
      → machine.MadeCall (state_of before beyond) drafts held running act later failed told
  made_call beyond held none failed calls = record {
    makes = record { no_rest = none; drafts_are = refl; running_is = refl; next = left };
    calls = calls;
  }

  done_is : (beyond : Beyond) → states.with_device told (machine.first_done running (left_of running.job) (state_of before beyond))
      ≡ states.with_device told (machine.act_done act running later (state_of before beyond))
  done_is beyond = ap (λ (l : List Act). states.with_device told (machine.first_done running l (state_of before beyond))) left

  -- it has others before it
  abbrev pub view_moved : CoreView
  view_moved = record before { device = told; boot = Running booted (record { steps = running.steps + 1; job = behind }); next_file = next; manifest = manifest_behind act running.job view.next_file view.manifest }

  pub moves : (another : Act) (rest : List Act) → later ≡ another ∷ rest → Calls view.device (change_of running.job view.next_file act) (Ok tt) told
      → MakesCall before drafts (step.Moved number (call_of act)) view_moved
  moves another rest is calls = by_story before view_moved drafts (step.Moved number (call_of act)) (λ beyond held fits none. (
    record {
      running = running;
      act = act;
      next = another;
      later = rest;
      made = subst (λ (l : List Act). machine.MadeCall (state_of before beyond) drafts held running act l None told) is (made_call beyond held none None calls);
      job_is = refl;
      call_is = refl;
    },
    record {
      beyond = beyond;
      state_is = done_is beyond ∙ ap (λ (l : List Act). states.with_device told (machine.act_done act running l (state_of before beyond))) is;
      fits = record { story = fits.story; segments = fits.segments; tables = fits.tables; opened = fits.opened; leads = fits.leads; handled = fits.handled; flushes = fits.flushes };
    },
  ))

  -- it failed
  abbrev pub view_failed : Fault → CoreView
  view_failed fault = record before {
    device = told;
    boot = resting booted;
    handler = noted (failure_of act fault) view.handler;
    next_file = next;
    manifest = manifest_tried act running.job view.next_file view.manifest;
  }

  pub fails : (fault : Fault) → Calls view.device (change_of running.job view.next_file act) (Err (error.Fault fault)) told
      → MakesCall before drafts (step.Failed (failure_of act fault)) (view_failed fault)
  fails fault calls = by_story before (view_failed fault) drafts (step.Failed (failure_of act fault)) (λ beyond held fits none. (
    record {
      running = running;
      act = act;
      later = later;
      fault = fault;
      made = made_call beyond held none (Some fault) calls;
      failure_is = refl;
    },
    record {
      beyond = record beyond { failures = beyond.failures ++ failure_of act fault ∷ [] };
      state_is =
          ap (λ (l : List Act). states.with_device told (machine.first_failed running.job l (failure_of act fault) (state_of before beyond))) left
          ∙ ap (λ (shown : Shows). record (state_of (view_failed fault) (record beyond { failures = beyond.failures ++ failure_of act fault ∷ [] })) {
            mode = record { phase = shown.phase; left = beyond.left };
            jobs = record {
              write = (state_of before beyond).jobs.write;
              flush = (state_of before beyond).jobs.flush;
              resume = record { number = number; running = shown.running };
              started = shown.started;
            };
          }) (rests_in booted);
      fits = record { story = story_resting booted view.trail beyond.story fits.story; segments = fits.segments; tables = fits.tables; opened = fits.opened; leads = leads_none booted view.levels; handled = handler_noted view.options beyond.failures view.handler (failure_of act fault) fits.handled; flushes = flush_none booted view.flush beyond.in_tables beyond.immutable fits.flushes };
    },
  ))

  -- it was the last one
  abbrev pub view_cleared : CoreView
  view_cleared = record (cleared behind before) { device = told; next_file = next; manifest = manifest_behind act running.job view.next_file view.manifest }

  pub clears : later ≡ [] → Calls view.device (change_of running.job view.next_file act) (Ok tt) told
      → MakesCall before drafts (step.Cleared number (running.steps + 1)) view_cleared
  clears is calls = by_story before view_cleared drafts (step.Cleared number (running.steps + 1)) (λ beyond held fits none.
      let levels = with_new (λ (t : TableFile). t.entry.level) beyond.levels (made_in behind) in
      let entries : entries_in levels ≡ tables_of behind = new_entries behind beyond.levels (fits.leads ∙ fits.tables) in
      let last = last_same view.trail beyond.story fits.story in (
        record {
          running = running;
          act = act;
          made = subst (λ (l : List Act). machine.MadeCall (state_of before beyond) drafts held running act l None told) is (made_call beyond held none None calls);
          job_is = refl;
          steps_are = refl;
        },
        record {
          beyond = record beyond { story = cleared_story beyond.story; immutable = []; active = []; levels = levels; in_tables = last_in view; failures = [] };
          state_is =
              done_is beyond
              ∙ ap (λ (l : List Act). states.with_device told (machine.act_done act running l (state_of before beyond))) is
              ∙ ap (λ n. record (state_of view_cleared (record beyond { story = cleared_story beyond.story; immutable = []; active = []; levels = levels; in_tables = last_in view; failures = [] })) {
                numbers = record { next_file = next; manifest = manifest_behind act running.job view.next_file view.manifest; in_tables = n };
              }) last;
          fits = record {
            story = cleared_on view.trail beyond.story fits.story;
            segments = (refl, add-zero (last_in view), tt);
            tables = tables_unopened (tables_of behind) ∙ sym entries;
            opened = opened_new beyond.footing (tables_of behind) levels entries;
            leads = tt;
            handled = handler_cleared view.options beyond.failures view.handler fits.handled;
            flushes = flush_cleared view.flush (last_in view) fits.flushes;
          };
        },
      ))
