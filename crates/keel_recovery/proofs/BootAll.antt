-- Each call of a boot or a resume keeps what is kept while it makes its calls, or clears it.
use Rattle.std.proofs.Common.{◌≡◌, ℕ, suc, ◌<◌, ◌^◌, true, List, [], ◌∷◌, length, Option, Some, None, refl, sym, ap, subst}
use Rattle.keel_base.specs.declared.failure.Fault.{Fault}
use Rattle.keel_disk.specs.State.{State as Disk}
use Rattle.keel_disk.specs.Step.{DiskStep}
use Rattle.keel_machine.specs.Outside.{as_answer}
use Rattle.keel_machine.specs.Resuming.{batches_in, resume_ready}
use Rattle.keel_machine.specs.States.{State, Resumption}
use Rattle.keel_draft.specs.Drafts.{Draft}
use Rattle.keel_resume.specs.Plans.{change_of, draws, failure_of}
use Rattle.keel_recovery.specs.BootCalls.{AreAllFixed, AreFixed, BootKept, HasMadeSo, RunsSo}
use Rattle.keel_recovery.specs.BootRoll.{Gives, HasAllMade, RollGives}
use Rattle.keel_recovery.specs.BootTurns.{BootCallKeeps, GoesOn, LeavesOf}
use Rattle.keel_recovery.proofs.BootTurn.{each_turn}
use Rattle.keel_recovery.proofs.ResumeCalls.{done_is, failed_is, files_ready}
use Rattle.keel_recovery.proofs.ResumeNames.{file_left}

-- each table that was made has a number
as_many : (bound : ℕ) (numbers : List ℕ) (drafts : List Draft) (state : Disk) → AreFixed bound numbers drafts state → length numbers ≡ length drafts
as_many bound [] [] state are = refl
as_many bound [] (draft ∷ drafts) state are = absurd are
as_many bound (number ∷ numbers) [] state are = absurd are
as_many bound (number ∷ numbers) (draft ∷ drafts) state are = ap suc (as_many bound numbers drafts state are.1)

all_made : (s : State) (running : Resumption) (state : Disk) (kept : BootKept s state) → HasMadeSo kept.bound s running.job state → (parts : AreAllFixed kept.bound running.job s.numbers.next_file state)
    → HasAllMade s.levels (batches_in s.segments.immutable) s.numbers.in_tables s.story running.job parts.log s.numbers.next_file
all_made s running state kept made parts = record {
  facts = kept.facts;
  drafts = made.tables.are;
  few = made.tables.few;
  live_is = made.live_is;
  last_is = made.last_is;
  log_is = parts.log_is;
  each = as_many kept.bound running.job.progress.tables running.job.drafts state parts.fixed;
  rising = made.rising;
  over = made.over;
  log_drawn = parts.log_drawn;
  next = parts.most;
  some = kept.numbered;
}

-- ---- all calls

pub boot_call_keeps : RollGives → BootCallKeeps
boot_call_keeps gives s drafts held running act later failed state after one cuts kept_ready makes change =
    by failed change
  where
    made : HasMadeSo kept_ready.bound (resume_ready drafts s) running.job state
    made = subst (λ (r : Option Resumption). RunsSo kept_ready.bound (resume_ready drafts s) r state) makes.running_is kept_ready.runs

    same_next : (resume_ready drafts s).numbers.next_file ≡ s.numbers.next_file
    same_next = ap (λ n. n.next_file) (files_ready s.jobs.resume.running drafts s)

    fits : draws act ≡ true → (resume_ready drafts s).numbers.next_file < 2 ^ 56
    fits drawn = subst (λ n. n < 2 ^ 56) (sym same_next) (file_left s drafts held running act later makes drawn)

    gives_at : (parts : AreAllFixed kept_ready.bound running.job (resume_ready drafts s).numbers.next_file state) → Gives (resume_ready drafts s).levels (resume_ready drafts s).story running.job parts.log (resume_ready drafts s).numbers.next_file
    gives_at parts = gives _ _ _ _ _ _ _ (all_made (resume_ready drafts s) running state kept_ready made parts)

    by : (failed : Option Fault) → DiskStep state (change_of running.job s.numbers.next_file act) (as_answer failed) after → LeavesOf drafts act later failed s after
    by None step =
        subst (λ (t : State). GoesOn later t after) (sym (done_is s drafts held running act later makes))
        (each_turn (resume_ready drafts s) running state after one cuts kept_ready made gives_at act later makes.next makes.next fits None
        (subst (λ n. DiskStep state (change_of running.job n act) (as_answer None) after) (sym same_next) step))
    by (Some fault) step =
        subst (λ (t : State). BootKept t after) (sym (failed_is s drafts held running act later (failure_of act fault) makes))
        (each_turn (resume_ready drafts s) running state after one cuts kept_ready made gives_at act later makes.next makes.next fits (Some fault)
        (subst (λ n. DiskStep state (change_of running.job n act) (as_answer (Some fault)) after) (sym same_next) step))
