-- A resume step leaves the device covered.
use Rattle.std.proofs.Common.{◌≡◌, ◌⊎◌, inl, inr, ℕ, ◌+◌, ◌≤◌, Bool, true, false, if◌then◌else◌, List, [], ◌∷◌, Option, Some, None, refl, sym, ap, subst, ◌∙◌, arith}
use Rattle.std.specs.Prelude.{is_some}
use Rattle.keel_base.specs.declared.failure.Failure.{Failure}
use Rattle.keel_base.specs.declared.failure.Fault.{Fault}
use Rattle.keel_disk.specs.State.{State as Disk}
use Rattle.keel_disk.specs.Step.{DiskStep}
use Rattle.keel_disk.specs.Steady.{CutsExist}
use Rattle.keel_disk.specs.Seen.{Seen}
use Rattle.keel_disk.specs.Sound.{IsOneToOne}
use Rattle.keel_disk.proofs.Staying.{GivesNames, one_stays, cuts_stay}
use Rattle.keel_machine.specs.declared.steps.ResumeStep.{ResumeStep}
use Rattle.keel_machine.specs.declared.steps.ResumeStep.TheVariants as step
use Rattle.keel_machine.specs.Admission.{stopping}
use Rattle.keel_machine.specs.Resuming.{AreDrafts, AreTables, Makes, MadeCall, ResumeAnswers, resume_ready, resume_after, started_or, act_done, act_failed, job_begun, taken_over, call_done, call_failed, numbered_behind}
use Rattle.keel_machine.specs.States.{State, Phase, Shut, Booting, Open, Closing, is_open, is_left, is_booting, Resumption, with_device}
use Rattle.keel_draft.specs.Drafts.{Draft}
use Rattle.keel_resume.specs.Plans.{Act, Job, change_of, draws, failure_of, moved, next_behind}
use Rattle.keel_recovery.specs.BootCalls.{BootKept, RunsSo}
use Rattle.keel_recovery.specs.BootTurns.{BootCallKeeps, GoesOn, IsCleared}
use Rattle.keel_recovery.specs.Machine.{IsCalm, IsKept, KeptBy, IsCovered}
use Rattle.keel_recovery.specs.Standing.{Stands}
use Rattle.keel_recovery.proofs.BootTaken.{begins_anew, job_begins}
use Rattle.keel_recovery.proofs.Ordering.{went_well, went_wrong}
use Rattle.keel_recovery.proofs.Clearing.{clear_kept}
use Rattle.keel_recovery.proofs.Covered.{covered_by, open_covered, as_it_is, called_by, same_boot}
use Rattle.keel_recovery.proofs.ResumeCalls.{asked_for, footing_ready, done_is, failed_is}
use Rattle.keel_recovery.proofs.ResumeNames.{gives_names}
use Rattle.keel_recovery.proofs.Kept.{boot_stands, kept_stands}
use Rattle.keel_recovery.proofs.StillStopped.{still_stopped}
use Rattle.keel_recovery.proofs.TakenOver.{takes_over}

some_none : {A P : Type 0} (x : A) → Some x ≡ None → P
some_none x e = cc

-- ---- the state in which a call is made

-- where a job makes its calls: while the store boots and takes no batches, or while writes are stopped
abbrev pub IsPlace : State → Type 0
IsPlace s = ((s.mode.phase ≡ Booting) × (s.writing.waiting ≡ [])) ⊎ ((s.mode.phase ≡ Open) × (is_some (stopping s) ≡ true))

-- what is kept as it makes one
pub record InJob (s : State) (drafts : List Draft) (state : Disk) : Type 0 where
  pub one_to_one : IsOneToOne state
  pub cuts : CutsExist state
  pub kept : BootKept (resume_ready drafts s) state
  pub stands : Stands state s.story
  pub place : IsPlace s

-- the job that runs, or the one that begins
ready_kept : (s : State) (drafts : List Draft) (state : Disk) (running : Option Resumption) → running ≡ s.jobs.resume.running → AreDrafts running s drafts → IsOneToOne state → CutsExist state → BootKept s state → BootKept (started_or running drafts s) state
ready_kept s drafts state None is are one cuts kept = begins_anew s state drafts one cuts kept (sym is) are
ready_kept s drafts state (Some running) is are one cuts kept = kept

-- one that begins in a store that writes
begun_kept : (s : State) (drafts : List Draft) (state : Disk) (running : Option Resumption) → running ≡ None → BootKept (job_begun drafts (taken_over s)) state → BootKept (started_or running drafts s) state
begun_kept s drafts state None idle kept = kept
begun_kept s drafts state (Some running) idle kept = some_none running idle

boot_in_job : (s : State) (drafts : List Draft) (state : Disk) → AreDrafts s.jobs.resume.running s drafts → IsOneToOne state → CutsExist state → BootKept s state → IsPlace s → InJob s drafts state
boot_in_job s drafts state are one cuts kept place = record {
  one_to_one = one;
  cuts = cuts;
  kept = ready_kept s drafts state s.jobs.resume.running refl are one cuts kept;
  stands = boot_stands state s one kept;
  place = place;
}

tables_none : (s : State) (drafts : List Draft) (running : Option Resumption) → running ≡ None → AreDrafts running s drafts → AreTables (taken_over s) drafts
tables_none s drafts None idle are = are
tables_none s drafts (Some running) idle are = some_none running idle

taken_kept : (s : State) (drafts : List Draft) (state : Disk) → IsKept state s → IsCalm s → AreTables (taken_over s) drafts → BootKept (job_begun drafts (taken_over s)) state
taken_kept s drafts state h calm tables =
    let taken = takes_over s state drafts h calm tables in
    job_begins (taken_over s) state drafts taken.0 taken.1 tables

written_in_job : (s : State) (drafts : List Draft) (state : Disk) → AreDrafts s.jobs.resume.running s drafts → IsKept state s → IsCalm s → s.mode.phase ≡ Open → InJob s drafts state
written_in_job s drafts state are h calm phase = record {
  one_to_one = h.one_to_one;
  cuts = h.cuts;
  kept = begun_kept s drafts state s.jobs.resume.running h.none_boots (taken_kept s drafts state h calm (tables_none s drafts s.jobs.resume.running h.none_boots are));
  stands = kept_stands state s h;
  place = inr (phase, calm.stopped);
}

never_open : false ≡ true → ⊥
never_open e = cc

pub in_job : (s : State) (drafts : List Draft) (held : Option ℕ) (running : Resumption) (act : Act) (later : List Act) → Makes s drafts held running act later
    → (phase : Phase) (left : Bool) (state : Disk) → phase ≡ s.mode.phase → is_open phase ≡ true → KeptBy phase left state s → InJob s drafts state
in_job s drafts held running act later makes Shut left state is opens h = absurd (never_open opens)
in_job s drafts held running act later makes Booting left state is opens h =
    boot_in_job s drafts state makes.drafts_are h.one_to_one h.cuts h.kept (inl (sym is, h.none_waits))
in_job s drafts held running act later makes Closing left state is opens h =
    absurd (never_open (sym h.unstarted ∙ asked_for s drafts held makes.no_rest h.no_boot (ap is_booting (sym is))))
in_job s drafts held running act later makes Open left state is opens (inr h) =
    boot_in_job s drafts state makes.drafts_are h.one_to_one h.cuts h.kept (inr (sym is, h.stopped))
in_job s drafts held running act later makes Open left state is opens (inl h) =
    written_in_job s drafts state makes.drafts_are h (h.calm (asked_for s drafts held makes.no_rest h.none_boots (ap is_booting (sym is)))) (sym is)

next_more : (act : Act) (next : ℕ) → next ≤ next_behind act next
next_more act next = by (draws act)
  where
    by : (drawn : Bool) → next ≤ (if drawn then next + 1 else next)
    by true = omega arith
    by false = omega arith

-- behind a call the store is where it was
stays_there : (n : State) (device : Seen) (state : Disk) → IsPlace n → IsOneToOne state → CutsExist state → BootKept n state → KeptBy n.mode.phase (is_left n.mode.left) state (with_device device n)
stays_there n device state (inl (phase, none)) one cuts kept =
    subst (λ (p : Phase). KeptBy p (is_left n.mode.left) state (with_device device n)) (sym phase) (record { one_to_one = one; cuts = cuts; kept = same_boot state n device n.writing.outcomes kept; none_waits = none })
stays_there n device state (inr (phase, stopped)) one cuts kept =
    subst (λ (p : Phase). KeptBy p (is_left n.mode.left) state (with_device device n)) (sym phase) (inr (record { one_to_one = one; cuts = cuts; kept = same_boot state n device n.writing.outcomes kept; stopped = stopped }))

place_ready : (running : Option Resumption) (drafts : List Draft) (s : State) → IsPlace s → IsPlace (started_or running drafts s)
place_ready None drafts s (inl (phase, none)) = inl (phase, none)
place_ready None drafts s (inr (phase, stopped)) = inr (phase, stopped)
place_ready (Some running) drafts s place = place

place_on : (act : Act) (running : Resumption) (next : Act) (later : List Act) (at : State) → IsPlace at → IsPlace (act_done act running (next ∷ later) at)
place_on act running next later at (inl (phase, none)) = inl (phase, none)
place_on act running next later at (inr (phase, stopped)) = inr (phase, stopped)

place_over : (act : Act) (job : Job) (failure : Failure) (at : State) → IsPlace at → IsPlace (act_failed act job failure at)
place_over act job failure at (inl (phase, none)) = inl (phase, none)
place_over act job failure at (inr (phase, stopped)) = inr (phase, still_stopped at failure stopped)

-- what a call that was answered Ok leaves, by the calls that are left
done_kept : (act : Act) (running : Resumption) (later : List Act) (n at : State) (device : Seen) (state before : Disk) → n ≡ act_done act running later at → IsPlace at → IsOneToOne state → CutsExist state
    → (kept : BootKept at before) → at.jobs.started ≡ false → GoesOn later n state → KeptBy n.mode.phase (is_left n.mode.left) state (with_device device n)
done_kept act running [] n at device state before is place one cuts kept unstarted h =
    subst (λ (m : State). KeptBy m.mode.phase (is_left m.mode.left) state (with_device device m)) (sym is)
    (inl (clear_kept (moved at.numbers.next_file act running.job) (numbered_behind act running.job at) device state one cuts (omega (arith, kept.numbered, next_more act at.numbers.next_file)) kept.waits unstarted kept.no_group kept.no_flush
    (subst (λ (m : State). IsCleared m state) is h)))
done_kept act running (next ∷ later) n at device state before is place one cuts kept unstarted h =
    stays_there n device state (subst IsPlace (sym is) (place_on act running next later at place)) one cuts h

-- ---- a call

module _ (boots : BootCallKeeps) (s : State) (drafts : List Draft) (held : Option ℕ) (running : Resumption) (act : Act) (later : List Act) (makes : Makes s drafts held running act later) (device : Seen) where
  abbrev at : State
  at = resume_ready drafts s

  unstarted : (state : Disk) → BootKept at state → at.jobs.started ≡ false
  unstarted state kept = (subst (λ (r : Option Resumption). RunsSo kept.bound at r state) makes.running_is kept.runs).unstarted

  pub names_given : (before : Disk) → InJob s drafts before → GivesNames (change_of running.job s.numbers.next_file act)
  names_given before h = gives_names s drafts held running act later before makes h.kept h.one_to_one

  done_after : (before behind : Disk) → InJob s drafts before → DiskStep before (change_of running.job s.numbers.next_file act) went_well behind
      → KeptBy (call_done drafts s).mode.phase (is_left (call_done drafts s).mode.left) behind (with_device device (call_done drafts s))
  done_after before behind h step =
      let change = change_of running.job s.numbers.next_file act in
      done_kept act running later (call_done drafts s) at device behind before (done_is s drafts held running act later makes) (place_ready s.jobs.resume.running drafts s h.place)
      (one_stays change went_well before behind (names_given before h) h.one_to_one step) (cuts_stay change went_well before behind h.one_to_one h.cuts step)
      h.kept (unstarted before h.kept)
      (boots s drafts held running act later None before behind h.one_to_one h.cuts h.kept makes step)

  failed_after : (fault : Fault) (before behind : Disk) → InJob s drafts before → DiskStep before (change_of running.job s.numbers.next_file act) (went_wrong fault) behind
      → KeptBy (call_failed drafts (failure_of act fault) s).mode.phase (is_left (call_failed drafts (failure_of act fault) s).mode.left) behind (with_device device (call_failed drafts (failure_of act fault) s))
  failed_after fault before behind h step =
      let change = change_of running.job s.numbers.next_file act in
      let n = call_failed drafts (failure_of act fault) s in
      stays_there n device behind
      (subst IsPlace (sym (failed_is s drafts held running act later (failure_of act fault) makes)) (place_over act running.job (failure_of act fault) at (place_ready s.jobs.resume.running drafts s h.place)))
      (one_stays change (went_wrong fault) before behind (names_given before h) h.one_to_one step) (cuts_stay change (went_wrong fault) before behind h.one_to_one h.cuts step)
      (boots s drafts held running act later (Some fault) before behind h.one_to_one h.cuts h.kept makes step)

pub footing_done : (s : State) (drafts : List Draft) (held : Option ℕ) (running : Resumption) (act : Act) (later : List Act) → Makes s drafts held running act later → (call_done drafts s).footing ≡ s.footing
footing_done s drafts held running act later makes =
    ap (λ (m : State). m.footing) (done_is s drafts held running act later makes) ∙ by later
  where
    by : (calls : List Act) → (act_done act running calls (resume_ready drafts s)).footing ≡ s.footing
    by [] = footing_ready s.jobs.resume.running drafts s
    by (next ∷ calls) = footing_ready s.jobs.resume.running drafts s

pub resume_keeps : BootCallKeeps → (s : State) (drafts : List Draft) (held : Option ℕ) (answer : ResumeStep) (device : Seen) → is_open s.mode.phase ≡ true → ResumeAnswers s drafts held answer device → IsCovered s
    → IsCovered (with_device device (resume_after s drafts answer))
resume_keeps boots s drafts held answer device is a h = by answer a
  where
    done : (running : Resumption) (act : Act) (later : List Act) → MadeCall s drafts held running act later None device → IsCovered (with_device device (call_done drafts s))
    done running act later made =
        open_covered s (with_device device (call_done drafts s)) (footing_done s drafts held running act later made.makes)
        (called_by s.footing s.device.told device.told (change_of running.job s.numbers.next_file act) None s (with_device device (call_done drafts s))
        (λ before behind kept step. done_after boots s drafts held running act later made.makes device before behind
        (in_job s drafts held running act later made.makes s.mode.phase (is_left s.mode.left) before refl is kept) step)
        made.calls.step (covered_by s h))

    failed : (running : Resumption) (act : Act) (later : List Act) (fault : Fault) → MadeCall s drafts held running act later (Some fault) device → IsCovered (with_device device (call_failed drafts (failure_of act fault) s))
    failed running act later fault made =
        open_covered s (with_device device (call_failed drafts (failure_of act fault) s))
        (ap (λ (m : State). m.footing) (failed_is s drafts held running act later (failure_of act fault) made.makes) ∙ footing_ready s.jobs.resume.running drafts s)
        (called_by s.footing s.device.told device.told (change_of running.job s.numbers.next_file act) (Some fault) s (with_device device (call_failed drafts (failure_of act fault) s))
        (λ before behind kept step. failed_after boots s drafts held running act later made.makes device fault before behind
        (in_job s drafts held running act later made.makes s.mode.phase (is_left s.mode.left) before refl is kept) step)
        made.calls.step (covered_by s h))

    by : (answer : ResumeStep) → ResumeAnswers s drafts held answer device → IsCovered (with_device device (resume_after s drafts answer))
    by (step.Moved job call) a = done a.running a.act (a.next ∷ a.later) a.made
    by (step.Cleared job steps) a = done a.running a.act [] a.made
    by (step.Failed failure) a = subst (λ (f : Failure). IsCovered (with_device device (call_failed drafts f s))) (sym a.failure_is) (failed a.running a.act a.later a.fault a.made)
    by step.Idle a = as_it_is s device a.quiet.same h
    by (step.Spent counter) a = as_it_is s device a.quiet.same h
    by (step.Cancelled job current) a = as_it_is s device a.quiet.same h
    by step.OutOfMemory a = as_it_is s device a.quiet.same h
