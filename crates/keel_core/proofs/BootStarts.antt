-- The first step of a job is that of the job that it begins.
use Rattle.std.proofs.Common.{◌≡◌, ℕ, ◌+◌, ◌<◌, ◌^◌, ◌&&◌, nat_le, Bool, true, false, List, [], ◌∷◌, ◌++◌, length, Option, Some, None, Result, Ok, Err, refl, sym, ap, subst, ◌∙◌, arith}
use Rattle.std.proofs.lemmas.Bool.{leb-true}
use Rattle.std.proofs.lemmas.List.{length-map}
use Rattle.keel_base.specs.declared.failure.Counter.TheVariants.{FileNumber}
use Rattle.keel_directory.specs.TableFiles.{TableFile}
use Rattle.keel_disk.specs.Seen.{Calls, Seen}
use Rattle.keel_edit.specs.declared.edit.Added.{Added}
use Rattle.keel_levels.specs.declared.live.LiveTable.{LiveTable}
use Rattle.keel_levels.specs.Live.{tables_of}
use Rattle.keel_machine.specs.declared.steps.ResumeStep.{ResumeStep}
use Rattle.keel_machine.specs.declared.steps.ResumeStep.TheVariants as step
use Rattle.keel_machine.specs.Outside.{as_answer}
use Rattle.keel_machine.specs.Resuming as machine
use Rattle.keel_machine.specs.Resuming.{AreTables, ResumeAnswers, closed_batches, boot_done, boot_failed, resume_after, resume_ready, resume_rest}
use Rattle.keel_machine.specs.States.{State, Resumption, Segment, with_device}
use Rattle.keel_machine.specs.Tests.{first_some, when}
use Rattle.keel_machine.specs.Turns.{Answers, after}
use Rattle.keel_machine.specs.Turns as turns
use Rattle.keel_draft.specs.Drafts.{Draft}
use Rattle.keel_resume.specs.Plans.{change_of, job_of, left_of}
use Rattle.keel_resume.specs.Jobs.{draws_next}
use Rattle.keel_machine.specs.WritingAfter.{numbers_of}
use Rattle.keel_core.specs.declared.booting.NewJob.{NewJob}
use Rattle.keel_core.specs.Covering.{AreTablesFor, IsNewJob, closed_by, taken_over}
use Rattle.keel_core.specs.Resuming.{Advances, GoesOn, IsCall, IsToBegin, MakesCall, ResumesTurn, boot_rest_of, made_in, next_number, with_boot}
use Rattle.keel_core.specs.Views.{AreSegments, Beyond, BootShown, ToStart, Started, Running, Cleared, Closed, CoreView, Fits, IsFlushing, StandsFor, has_booted, last_in, state_of}
use Rattle.keel_core.proofs.BootCovers.{drafts_are, have_batches}
use Rattle.keel_core.proofs.BootRests.{boot_rest_same, boot_wants}
use Rattle.keel_core.proofs.Segmenting.{one_closed}
use Rattle.keel_core.proofs.Stories.{last_same}

module _ (s r : State) (drafts : List Draft) (p : resume_ready drafts s ≡ resume_ready drafts r) (files : r.numbers.next_file ≡ s.numbers.next_file) (same : r.device ≡ s.device)
    (held : Option ℕ) (none : resume_rest s drafts held ≡ None) (are : machine.AreDrafts s.jobs.resume.running s drafts) where
  makes_so : (running : Resumption) (act : _) (later : _) → machine.Makes r drafts None running act later → machine.Makes s drafts held running act later
  makes_so running act later m = record { no_rest = none; drafts_are = are; running_is = ap (λ (t : State). t.jobs.resume.running) p ∙ m.running_is; next = m.next }

  answers_so : (made : ResumeStep) (device : Seen) → IsCall made → ResumeAnswers r drafts None made device → ResumeAnswers s drafts held made device
  answers_so (step.Moved job call) device is m = record {
    running = m.running;
    act = m.act;
    next = m.next;
    later = m.later;
    made = record {
      makes = makes_so m.running m.act _ m.made.makes;
      calls = subst (λ n. Calls s.device (change_of m.running.job n m.act) (as_answer None) device) files
          (subst (λ (d : Seen). Calls d (change_of m.running.job r.numbers.next_file m.act) (as_answer None) device) same m.made.calls);
    };
    job_is = m.job_is ∙ ap (λ (t : State). t.jobs.resume.number) (sym p);
    call_is = m.call_is;
  }
  answers_so (step.Cleared job steps) device is m = record {
    running = m.running;
    act = m.act;
    made = record {
      makes = makes_so m.running m.act _ m.made.makes;
      calls = subst (λ n. Calls s.device (change_of m.running.job n m.act) (as_answer None) device) files
          (subst (λ (d : Seen). Calls d (change_of m.running.job r.numbers.next_file m.act) (as_answer None) device) same m.made.calls);
    };
    job_is = m.job_is ∙ ap (λ (t : State). t.jobs.resume.number) (sym p);
    steps_are = m.steps_are;
  }
  answers_so (step.Failed failure) device is m = record {
    running = m.running;
    act = m.act;
    later = m.later;
    fault = m.fault;
    made = record {
      makes = makes_so m.running m.act _ m.made.makes;
      calls = subst (λ n. Calls s.device (change_of m.running.job n m.act) (as_answer (Some m.fault)) device) files
          (subst (λ (d : Seen). Calls d (change_of m.running.job r.numbers.next_file m.act) (as_answer (Some m.fault)) device) same m.made.calls);
    };
    failure_is = m.failure_is;
  }
  answers_so step.Idle device is m = absurd is
  answers_so (step.Spent counter) device is m = absurd is
  answers_so (step.Cancelled job current) device is m = absurd is
  answers_so step.OutOfMemory device is m = absurd is

  behind_so : (made : ResumeStep) → IsCall made → resume_after r drafts made ≡ resume_after s drafts made
  behind_so (step.Moved job call) is = ap (λ (t : State). boot_done t.jobs.resume.running t) (sym p)
  behind_so (step.Cleared job steps) is = ap (λ (t : State). boot_done t.jobs.resume.running t) (sym p)
  behind_so (step.Failed failure) is = ap (λ (t : State). boot_failed t.jobs.resume.running failure t) (sym p)
  behind_so step.Idle is = absurd is
  behind_so (step.Spent counter) is = absurd is
  behind_so (step.Cancelled job current) is = absurd is
  behind_so step.OutOfMemory is = absurd is

-- the first call draws a file's number, which is below the end
not_le : (a b : ℕ) → b < a → nat_le a b ≡ false
not_le a b h =
    elim (nat_le a b) as (λ v. nat_le a b ≡ v → v ≡ false) [ true ↦ λ e. absurd (omega (arith, leb-true a b e)) | false ↦ λ e. refl ] refl

no_spent : (draws spent : Bool) → spent ≡ false → first_some (None ∷ first_some (when (draws && spent) (step.Spent FileNumber) ∷ []) ∷ []) ≡ None
no_spent true spent is = ap (λ (b : Bool). first_some (None ∷ first_some (when b (step.Spent FileNumber) ∷ []) ∷ [])) is
no_spent false spent is = refl

module _ (view : CoreView) (drafts : List Draft) (are : AreTablesFor (taken_over view).immutable drafts) (few : length view.levels + length drafts < 2 ^ 32) where
  abbrev before : BootShown → CoreView
  before boot = record view { boot = boot }

  abbrev pub begun : Resumption
  begun = record { steps = 0; job = job_of (tables_of view.levels) (last_in view) drafts }

  abbrev pub in_job : BootShown → CoreView
  in_job boot = with_boot (next_number boot view.boot_job) (has_booted boot) begun (taken_over view)

  abbrev beyond_taken : Beyond → Beyond
  beyond_taken beyond = record beyond { immutable = beyond.immutable ++ closed_batches beyond.active (numbers_of view.log); active = [] }

  segments_taken : (boot : BootShown) (beyond : Beyond) → Fits (before boot) beyond
      → AreSegments beyond.in_tables (taken_over view).immutable (beyond_taken beyond).immutable [] [] (last_in view)
  segments_taken boot beyond fits = one_closed beyond.in_tables view.immutable beyond.immutable view.rows beyond.active (last_in view) (numbers_of view.log) fits.segments

  ready_same : (boot : BootShown) (beyond : Beyond) → IsToBegin boot → Fits (before boot) beyond → resume_ready drafts (state_of (before boot) beyond) ≡ state_of (in_job boot) (beyond_taken beyond)
  ready_same ToStart beyond begins fits = λ i. record (state_of (in_job ToStart) (beyond_taken beyond)) {
    jobs = record {
      write = (state_of (in_job ToStart) (beyond_taken beyond)).jobs.write;
      flush = (state_of (in_job ToStart) (beyond_taken beyond)).jobs.flush;
      resume = record {
        number = view.boot_job + 1;
        running = Some (record { steps = 0; job = job_of (sym fits.tables i) (last_same view.trail beyond.story fits.story i) drafts });
      };
      started = false;
    };
  }
  ready_same (Started booted) beyond begins fits = λ i. record (state_of (in_job (Started booted)) (beyond_taken beyond)) {
    jobs = record {
      write = (state_of (in_job (Started booted)) (beyond_taken beyond)).jobs.write;
      flush = (state_of (in_job (Started booted)) (beyond_taken beyond)).jobs.flush;
      resume = record {
        number = view.boot_job;
        running = Some (record { steps = 0; job = job_of (sym fits.tables i) (last_same view.trail beyond.story fits.story i) drafts });
      };
      started = false;
    };
  }
  ready_same (Running booted running) beyond begins fits = absurd begins
  ready_same Cleared beyond begins fits = absurd begins
  ready_same (Closed booted) beyond begins fits = absurd begins

  are_tables : (boot : BootShown) (beyond : Beyond) → Fits (before boot) beyond → AreTables (machine.taken_over (state_of (before boot) beyond)) drafts
  are_tables boot beyond fits =
      let many = ap (λ (l : List Added). length l) fits.tables in
      let lives = length-map view.levels (λ (live : LiveTable). live.entry) in
      let files = length-map beyond.levels (λ (t : TableFile). t.entry) in
      let taken = segments_taken boot beyond fits in
      record {
        are = drafts_are beyond.in_tables (taken_over view).immutable (beyond_taken beyond).immutable [] [] (last_in view) drafts taken are;
        some = have_batches beyond.in_tables (taken_over view).immutable (beyond_taken beyond).immutable [] [] (last_in view) drafts taken are;
        few = omega (arith, few, many, lives, files);
      }

  are_drafts : (boot : BootShown) (beyond : Beyond) → IsToBegin boot → Fits (before boot) beyond → machine.AreDrafts (state_of (before boot) beyond).jobs.resume.running (state_of (before boot) beyond) drafts
  are_drafts ToStart beyond begins fits = are_tables ToStart beyond fits
  are_drafts (Started booted) beyond begins fits = are_tables (Started booted) beyond fits
  are_drafts (Running booted running) beyond begins fits = absurd begins
  are_drafts Cleared beyond begins fits = absurd begins
  are_drafts (Closed booted) beyond begins fits = absurd begins

  no_flush : (boot : BootShown) (seq : ℕ) (segments : List Segment) → IsToBegin boot → IsFlushing boot view.flush seq segments → view.flush ≡ None
  no_flush ToStart seq segments begins flushes = flushes
  no_flush (Started booted) seq segments begins flushes = flushes
  no_flush (Running booted running) seq segments begins flushes = absurd begins
  no_flush Cleared seq segments begins flushes = absurd begins
  no_flush (Closed booted) seq segments begins flushes = absurd begins

  stands_taken : (boot : BootShown) (beyond : Beyond) → IsToBegin boot → Fits (before boot) beyond → StandsFor (in_job boot) (state_of (in_job boot) (beyond_taken beyond))
  stands_taken boot beyond begins fits = record {
    beyond = beyond_taken beyond;
    state_is = refl;
    fits = record {
      story = fits.story;
      segments = segments_taken boot beyond fits;
      tables = fits.tables;
      opened = fits.opened;
      leads = refl;
      handled = fits.handled;
      flushes = no_flush boot beyond.in_tables beyond.immutable begins fits.flushes;
    };
  }

  started : (boot : BootShown) (made : ResumeStep) (new : CoreView) → IsToBegin boot → view.next_file < 2 ^ 56 → IsCall made → MakesCall (in_job boot) drafts made new
      → (beyond : Beyond) (held : Option ℕ) → Fits (before boot) beyond → resume_rest (state_of (before boot) beyond) drafts held ≡ None
      → Answers (state_of (before boot) beyond) (turns.Resuming drafts held made) new.device × StandsFor new (after (state_of (before boot) beyond) (turns.Resuming drafts held made) new.device)
  started boot made new begins below is step_goes beyond held fits none =
      let s : State = state_of (before boot) beyond in
      let r : State = state_of (in_job boot) (beyond_taken beyond) in
      let stood : StandsFor (in_job boot) r = stands_taken boot beyond begins fits in
      let rests : resume_rest r drafts None ≡ None = boot_rest_same (in_job boot) r drafts None stood ∙ no_spent (draws_next (left_of begun.job)) (nat_le (2 ^ 56) view.next_file) (not_le (2 ^ 56) view.next_file below) in
      let inner = step_goes.goes r None stood rests in
      let same = ready_same boot beyond begins fits in
      let drafts_of = are_drafts boot beyond begins fits in (
        answers_so s r drafts same refl refl held none drafts_of made new.device is inner.0,
        subst (λ (t : State). StandsFor new (with_device new.device t)) (behind_so s r drafts same refl refl held none drafts_of made is) inner.1,
      )

  pub job_starts : (boot : BootShown) (held : Option ℕ) (made : ResumeStep) (new : CoreView) → IsToBegin boot → view.next_file < 2 ^ 56 → IsCall made → MakesCall (in_job boot) drafts made new
      → boot_rest_of (before boot) held ≡ None → ResumesTurn (before boot) held made new
  job_starts boot held made new begins below is step_goes none = record {
    drafts = drafts;
    turn = record {
      goes = λ s stands.
          subst (λ (t : State). resume_rest t drafts held ≡ None → Answers t (turns.Resuming drafts held made) new.device × StandsFor new (after t (turns.Resuming drafts held made) new.device)) (sym stands.state_is)
          (started boot made new begins below is step_goes stands.beyond held stands.fits) (boot_rest_same (before boot) s drafts held stands ∙ none);
    };
  }

-- a job that runs
pub job_goes_on : (view : CoreView) (drafts : List Draft) (held : Option ℕ) (made : ResumeStep) (new : CoreView) → MakesCall view drafts made new → boot_rest_of view held ≡ None → ResumesTurn view held made new
job_goes_on view drafts held made new step_goes none = record {
  drafts = drafts;
  turn = record { goes = λ s stands. step_goes.goes s held stands (boot_rest_same view s drafts held stands ∙ none) };
}

-- ---- what the code does

start_by : (old new : CoreView) (drafts : List Draft) (answer : Result ResumeStep Resumption) → AreTablesFor (taken_over old).immutable drafts → length old.levels + length drafts < 2 ^ 32
    → IsToBegin old.boot → old.next_file < 2 ^ 56
    → Advances old (taken_over old) (next_number old.boot old.boot_job) (has_booted old.boot) (record { steps = 0; job = job_of (tables_of old.levels) (last_in old) drafts }) answer new
    → (held : Option ℕ) → boot_rest_of old held ≡ None → ResumesTurn old held (made_in answer) new
start_by old new drafts (Ok made) are few begins below advanced held none = job_starts old drafts are few old.boot held made new begins below advanced.0 advanced.1 none
start_by old new drafts (Err same) are few begins below advanced held none =
    subst (ResumesTurn old held step.OutOfMemory) (sym advanced.1.0) (boot_wants old new.device held none advanced.0)

pub start_goes : (old new : CoreView) (job : NewJob) (number : ℕ) (booted : Bool) (answer : Result ResumeStep Resumption) → IsToBegin old.boot → old.next_file < 2 ^ 56 → IsNewJob old job
    → number ≡ next_number old.boot old.boot_job → booted ≡ has_booted old.boot → Advances old (closed_by job.closing old) number booted job.running answer new
    → (held : Option ℕ) → boot_rest_of old held ≡ None → ResumesTurn old held (made_in answer) new
start_goes old new job number booted answer begins below made number_is booted_is advanced held none =
    let tables = made.tables in
    let same : job.running ≡ record { steps = 0; job = job_of (tables_of old.levels) (last_in old) tables.drafts } = λ i. record { steps = tables.steps i; job = tables.job i } in
    let at_number = subst (λ n. Advances old (closed_by job.closing old) n booted job.running answer new) number_is advanced in
    let at_booted = subst (λ (b : Bool). Advances old (closed_by job.closing old) (next_number old.boot old.boot_job) b job.running answer new) booted_is at_number in
    let at_taken = subst (λ (v : CoreView). Advances old v (next_number old.boot old.boot_job) (has_booted old.boot) job.running answer new) made.taken at_booted in
    start_by old new tables.drafts answer tables.are tables.few begins below
    (subst (λ (r : Resumption). Advances old (taken_over old) (next_number old.boot old.boot_job) (has_booted old.boot) r answer new) same at_taken) held none

-- a job that runs
pub on_made : (old new : CoreView) (booted : Bool) (running : Resumption) (made : ResumeStep) → Advances old old old.boot_job booted running (Ok made) new → GoesOn old booted running made new
on_made old new booted running made advanced = record {
  goes = λ held none. job_goes_on (record old { boot = Running booted running }) running.job.drafts held made new advanced.1 none;
}

-- it is put back where memory was wanting
pub on_want : (old new : CoreView) (booted : Bool) (running same : Resumption) → Advances old old old.boot_job booted running (Err same) new → GoesOn old booted running step.OutOfMemory (record new { boot = Running booted same })
on_want old new booted running same advanced = record {
  goes = λ held none.
      subst (ResumesTurn (record old { boot = Running booted running }) held step.OutOfMemory)
      (λ i. record (sym advanced.1.0 i) { boot = Running booted (sym advanced.1.1 i) })
      (boot_wants (record old { boot = Running booted running }) new.device held none advanced.0);
}

-- the job that was taken out
pub run_goes : (old mid new : CoreView) (booted : Bool) (running : Resumption) (made : ResumeStep) (held : Option ℕ) → old.boot ≡ Running booted running → mid ≡ record old { boot = ToStart }
    → GoesOn mid booted running made new → boot_rest_of old held ≡ None → ResumesTurn old held made new
run_goes old mid new booted running made held is mid_is goes_on none =
    let goes : GoesOn (record old { boot = ToStart }) booted running made new = subst (λ (v : CoreView). GoesOn v booted running made new) mid_is goes_on in
    subst (λ (b : BootShown). boot_rest_of (record old { boot = b }) held ≡ None → ResumesTurn (record old { boot = b }) held made new) (sym is) (goes.goes held) none
