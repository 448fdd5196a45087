-- The turns of a boot that make its log.
use Rattle.std.proofs.Common.{◌≡◌, ℕ, ◌+◌, ◌<◌, ◌^◌, false, List, [], ◌∷◌, ◌++◌, length, Option, Some, None, refl, sym, ap, subst, ◌∙◌, inl, inr, arith, ⊎_elim, append-nil}
use Rattle.std.specs.List.{AllByRecursion}
use Rattle.keel_base.specs.declared.failure.Fault.{Fault}
use Rattle.keel_base.specs.declared.file_name.FileName.{FileName}
use Rattle.keel_base.specs.declared.file_name.FileName.TheVariants.{Log, Table}
use Rattle.keel_base.specs.Name.{name_eq}
use Rattle.keel_disk.specs.declared.change.Change.TheVariants.{Create, SyncDir}
use Rattle.keel_disk.specs.declared.state.File.{File}
use Rattle.keel_disk.specs.Directory.{find}
use Rattle.keel_disk.specs.State.{State as Disk}
use Rattle.keel_disk.specs.Step.{DiskStep}
use Rattle.keel_disk.specs.Steady.{CutsExist, IsHeld, file_behind}
use Rattle.keel_disk.specs.Sound.{IsOneToOne}
use Rattle.keel_disk.proofs.Settling.{settled_twice}
use Rattle.keel_disk.proofs.Steadily.{present_firm}
use Rattle.keel_machine.specs.Outside.{as_answer}
use Rattle.keel_machine.specs.Resuming.{act_done, act_failed, one_more}
use Rattle.keel_machine.specs.States.{State, Resumption}
use Rattle.keel_draft.specs.Drafts.{Draft, bytes_in}
use Rattle.keel_resume.specs.Plans.{Act, MakeLog, SyncLogName, failure_of, left_of, moved, roll_acts}
use Rattle.keel_manifest.specs.declared.roll.RollCall.TheVariants.{MakeManifest, AppendEdit, SyncManifest, MakeTemporary, AppendName, SyncTemporary, Rename, SyncDirectory}
use Rattle.keel_recovery.specs.BootCalls.{AreAllFixed, AreFixed, AreMade, AreNewLogs, AtLogName, AtTables, BootKept, HasMadeSo, IsEmptyLog, IsFixed, IsFixedLog, IsMade}
use Rattle.keel_recovery.proofs.BootFrame.{created_found}
use Rattle.keel_recovery.proofs.BootKeeps.{KeptOn, create_keeps, sync_dir_keeps}
use Rattle.keel_recovery.proofs.BootMaking.{goes_on, is_over, left_moved}
use Rattle.keel_recovery.proofs.BootSteps.{all_made_stay, create_done, created_log, sync_dir_done}
use Rattle.keel_recovery.proofs.BootTables.{rising_on}

logs_apart : (numbers : List ℕ) (n : ℕ) → AllByRecursion (λ (number : ℕ). name_eq (Log n) (Table number) ≡ false) numbers
logs_apart [] n = tt
logs_apart (number ∷ numbers) n = (refl, logs_apart numbers n)

-- behind a sync of the directory that was answered Ok what was made has a steady name
fixed_now : (bound : ℕ) (name : FileName) (bytes : List ℕ) (state after : Disk) → DiskStep state SyncDir (as_answer None) after → IsMade bound name bytes state → IsFixed bound name bytes after
fixed_now bound name bytes state after step is =
    let steady = present_firm name is.file state after is.present step in
    record { file = is.file; steady = steady.steady; newer = is.newer; held = subst (λ (f : File). IsHeld f bytes) (sym steady.file_same) is.held }

all_fixed_now : (bound : ℕ) (numbers : List ℕ) (drafts : List Draft) (state after : Disk) → DiskStep state SyncDir (as_answer None) after → AreMade bound numbers drafts state → AreFixed bound numbers drafts after
all_fixed_now bound [] [] state after step are = tt
all_fixed_now bound [] (draft ∷ drafts) state after step are = absurd are
all_fixed_now bound (number ∷ numbers) [] state after step are = absurd are
all_fixed_now bound (number ∷ numbers) (draft ∷ drafts) state after step are =
    (fixed_now bound (Table number) (bytes_in draft) state after step are.0, all_fixed_now bound numbers drafts state after step are.1)

module _ (s : State) (running : Resumption) (state after : Disk) (one : IsOneToOne state) (cuts : CutsExist state) (kept : BootKept s state) (made : HasMadeSo kept.bound s running.job state) where
  abbrev next : ℕ
  next = s.numbers.next_file

  -- ---- the log is made

  module _ (at : AtTables kept.bound running.job state) (rest_is : at.rest ≡ []) where
    log_on : (failed_ : Option Fault) → DiskStep state (Create (Log next)) (as_answer failed_) after → KeptOn kept.bound kept.old s.levels s.story (next + 1) after
    log_on failed_ step =
        create_keeps kept.bound kept.old s.levels s.story next state one kept.booting at.unmoved after failed_ (Log next) (next + 1)
        (λ count file is. absurd (omega (arith, kept.booting.drawn count file (Log next) is))) (λ is. cc) (λ n is. cc) (λ before none n is. cc) (omega arith) (omega arith) step

    new_logs : DiskStep state (Create (Log next)) (as_answer None) after → AreNewLogs kept.bound next after
    new_logs step count n file over is =
        ⊎_elim (λ before. absurd (omega (arith, over, kept.booting.drawn before.0 file (Log n) before.1)))
        (λ new. omega (arith, kept.booting.within, new.1))
        (created_found (Log next) state count file (Log n) (subst (λ d. file_behind count (Log n) d ≡ Some file) (create_done (Log next) state after step) is))

    log_made : next < 2 ^ 56 → DiskStep state (Create (Log next)) (as_answer None) after → (later : List Act) → left_of running.job ≡ MakeLog ∷ later → later ≡ SyncLogName ∷ roll_acts
        → AtLogName kept.bound (moved next MakeLog running.job) (next + 1) after
    log_made fits step later left later_is = record {
      made = subst (λ drafts. AreMade kept.bound running.job.progress.tables drafts after)
          (sym (at.drafts_are ∙ (ap (λ l. at.done ++ l) rest_is ∙ append-nil at.done)))
          (all_made_stay state after (Create (Log next)) (as_answer None) one step kept.bound running.job.progress.tables at.done (logs_apart running.job.progress.tables next) at.made);
      log = next;
      log_is = refl;
      being = subst (IsEmptyLog kept.bound next) (sym (create_done (Log next) state after step)) (created_log kept.bound next state cuts kept.booting.within);
      logs = new_logs step;
      log_drawn = omega arith;
      most = omega (arith, fits);
      left_is = left_moved next MakeLog later running.job left ∙ later_is;
      unmoved = (log_on None step).unmoved;
    }

    pub make_log : next < 2 ^ 56 → (later : List Act) (next_act : Act) (behind : List Act) → left_of running.job ≡ MakeLog ∷ later → later ≡ SyncLogName ∷ roll_acts → DiskStep state (Create (Log next)) (as_answer None) after
        → BootKept (act_done MakeLog running (next_act ∷ behind) s) after
    make_log fits later next_act behind left later_is step =
        goes_on s state after kept (next + 1) _ (one_more MakeLog next running) (omega arith) (log_on None step) (record {
          tables = record { are = made.tables.are; some = made.tables.some; few = made.tables.few };
          live_is = made.live_is;
          unstarted = made.unstarted;
          last_is = made.last_is;
          rising = rising_on running.job.progress.tables next (next + 1) (omega arith) made.rising;
          over = made.over;
          stage = inr (inr (inl (log_made fits step later left later_is)));
        })

    pub make_log_failed : (fault : Fault) → DiskStep state (Create (Log next)) (as_answer (Some fault)) after → BootKept (act_failed MakeLog running.job (failure_of MakeLog fault) s) after
    make_log_failed fault step = is_over s state after kept (next + 1) _ (failure_of MakeLog fault) (omega arith) (log_on (Some fault) step)

  -- ---- its name gets firm

  module _ (at : AtLogName kept.bound running.job next state) where
    name_on : (failed_ : Option Fault) → DiskStep state SyncDir (as_answer failed_) after → KeptOn kept.bound kept.old s.levels s.story next after
    name_on failed_ step = sync_dir_keeps kept.bound kept.old s.levels s.story next state one kept.booting at.unmoved after failed_ step

    logs_later : DiskStep state SyncDir (as_answer None) after → AreNewLogs kept.bound at.log after
    logs_later step count n file over is =
        at.logs (length state.waiting + count) n file over
        (sym (ap (λ (d : Disk). find (Log n) d.firm) (settled_twice (length state.waiting) count state))
        ∙ subst (λ d. file_behind count (Log n) d ≡ Some file) (sync_dir_done state after step) is)

    log_fixed : DiskStep state SyncDir (as_answer None) after → IsFixedLog kept.bound at.log after
    log_fixed step =
        let steady = present_firm (Log at.log) at.being.file state after at.being.present step in
        record { file = at.being.file; steady = steady.steady; newer = at.being.newer; is_new = steady.file_same ∙ at.being.is_new }

    all_fixed : DiskStep state SyncDir (as_answer None) after → AreAllFixed kept.bound (moved next SyncLogName running.job) next after
    all_fixed step = record {
      fixed = all_fixed_now kept.bound running.job.progress.tables running.job.drafts state after step at.made;
      log = at.log;
      log_is = at.log_is;
      log_fixed = log_fixed step;
      logs = logs_later step;
      log_drawn = at.log_drawn;
      most = at.most;
    }

    pub sync_log_name : (later : List Act) (next_act : Act) (behind : List Act) → left_of running.job ≡ SyncLogName ∷ later → later ≡ roll_acts → DiskStep state SyncDir (as_answer None) after
        → BootKept (act_done SyncLogName running (next_act ∷ behind) s) after
    sync_log_name later next_act behind left later_is step =
        goes_on s state after kept next _ (one_more SyncLogName next running) (omega arith) (name_on None step) (record {
          tables = record { are = made.tables.are; some = made.tables.some; few = made.tables.few };
          live_is = made.live_is;
          unstarted = made.unstarted;
          last_is = made.last_is;
          rising = made.rising;
          over = made.over;
          stage = inr (inr (inr (record {
            parts = all_fixed step;
            rolls = MakeManifest ∷ AppendEdit ∷ SyncManifest ∷ MakeTemporary ∷ AppendName ∷ SyncTemporary ∷ Rename ∷ SyncDirectory ∷ [];
            left_is = left_moved next SyncLogName later running.job left ∙ later_is;
            made = (name_on None step).unmoved;
          })));
        })

    pub sync_log_name_failed : (fault : Fault) → DiskStep state SyncDir (as_answer (Some fault)) after → BootKept (act_failed SyncLogName running.job (failure_of SyncLogName fault) s) after
    sync_log_name_failed fault step = is_over s state after kept next _ (failure_of SyncLogName fault) (omega arith) (name_on (Some fault) step)
