-- The turns of a boot's roll up to its move.
use Rattle.std.proofs.Common.{◌≡◌, ℕ, ◌+◌, ◌≤◌, ◌<◌, ◌^◌, List, [], ◌∷◌, length, map, Option, Some, None, Result, refl, sym, subst, ◌∙◌, inr, arith, ⊎_elim}
use Rattle.std.specs.List.{AllByRecursion}
use Rattle.keel_base.specs.declared.failure.Fault.{Fault}
use Rattle.keel_base.specs.declared.file_name.FileName.{FileName}
use Rattle.keel_base.specs.declared.file_name.FileName.TheVariants.{Log, Table, Manifest, Temp}
use Rattle.keel_disk.specs.declared.change.Change.{Change}
use Rattle.keel_disk.specs.declared.change.Change.TheVariants.{Create, Append, Sync}
use Rattle.keel_disk.specs.declared.error.DiskError.{DiskError}
use Rattle.keel_disk.specs.declared.state.File.{File}
use Rattle.keel_disk.specs.State.{State as Disk}
use Rattle.keel_disk.specs.Step.{DiskStep, created, extended, synced, with_file}
use Rattle.keel_disk.specs.Steady.{CutsExist, IsAbsent, IsApart, file_behind}
use Rattle.keel_disk.specs.Sound.{IsOneToOne}
use Rattle.keel_disk.proofs.Steadily.{steady_stays}
use Rattle.keel_edit.specs.Spelling.{spelling}
use Rattle.keel_frag.specs.Writing.{record_bytes}
use Rattle.keel_name.specs.Current.{current_of}
use Rattle.keel_machine.specs.Outside.{as_answer}
use Rattle.keel_machine.specs.Resuming.{act_done, act_failed, one_more}
use Rattle.keel_machine.specs.States.{State, Resumption}
use Rattle.keel_resume.specs.Plans.{Job, Act, Rolls, edit_of, failure_of, left_of, moved}
use Rattle.keel_manifest.specs.declared.roll.RollCall.{RollCall}
use Rattle.keel_manifest.specs.declared.roll.RollCall.TheVariants.{MakeManifest, AppendEdit, SyncManifest, MakeTemporary, AppendName, SyncTemporary, Rename}
use Rattle.keel_recovery.specs.BootCalls.{AreAllFixed, AreNewLogs, BootKept, HasMadeSo, IsBeingMade, IsMade, IsUnmoved}
use Rattle.keel_recovery.proofs.BootFrame.{created_found}
use Rattle.keel_recovery.proofs.BootKeeps.{KeptOn, append_keeps, create_keeps, sync_keeps}
use Rattle.keel_recovery.proofs.BootMaking.{goes_on, is_over, left_moved}
use Rattle.keel_recovery.proofs.BootSteps.{all_fixed_stay, append_done, create_done, created_being, made_stays, sync_done}
use Rattle.keel_recovery.proofs.BootTables.{being_held, being_more, rising_on}

some_none : {A P : Type 0} (x : A) → Some x ≡ None → P
some_none x e = cc

-- a call about a name that is no table and no log
abbrev pub IsOfRoll : Change → Type 0
IsOfRoll change = ((number : ℕ) → IsApart (Table number) change) × ((number : ℕ) → IsApart (Log number) change)

pub each_apart : (change : Change) (numbers : List ℕ) → ((number : ℕ) → IsApart (Table number) change) → AllByRecursion (λ number. IsApart (Table number) change) numbers
each_apart change [] apart = tt
each_apart change (number ∷ numbers) apart = (apart number, each_apart change numbers apart)

-- tables and log stay as they are
pub parts_stay : (bound next more : ℕ) (job job_after : Job) (state after : Disk) (change : Change) (answer : Result (Unit {0}) DiskError) → IsOneToOne state → DiskStep state change answer after → IsOfRoll change
    → next ≤ more → more ≤ 2 ^ 56 → job_after.progress.tables ≡ job.progress.tables → job_after.drafts ≡ job.drafts → job_after.progress.log ≡ job.progress.log
    → (parts : AreAllFixed bound job next state) → AreNewLogs bound parts.log after → AreAllFixed bound job_after more after
parts_stay bound next more job job_after state after change answer one step apart on most tables drafts log parts logs =
    let stays = steady_stays (Log parts.log) parts.log_fixed.file change answer state after one (apart.1 parts.log) parts.log_fixed.steady step in
    record {
      fixed = rw (tables, drafts) (all_fixed_stay state after change answer one step bound job.progress.tables job.drafts (each_apart change job.progress.tables apart.0) parts.fixed);
      log = parts.log;
      log_is = log ∙ parts.log_is;
      log_fixed = record { file = parts.log_fixed.file; steady = stays.0; newer = parts.log_fixed.newer; is_new = stays.1 ∙ parts.log_fixed.is_new };
      logs = logs;
      log_drawn = omega (arith, parts.log_drawn, on);
      most = most;
    }

-- a name that is made and is no log is none of the new logs
created_logs : (bound number : ℕ) (name : FileName) (state after : Disk) → after ≡ created name state → ((n : ℕ) → Log n ≡ name → ⊥) → AreNewLogs bound number state → AreNewLogs bound number after
created_logs bound number name state after made not_log logs count n file over is =
    ⊎_elim (λ before. logs before.0 n file over before.1) (λ new. absurd (not_log n new.0)) (created_found name state count file (Log n) (subst (λ d. file_behind count (Log n) d ≡ Some file) made is))

changed_logs : (bound number : ℕ) (state after : Disk) (file : ℕ) (change : File → File) → after ≡ with_file file change state → AreNewLogs bound number state → AreNewLogs bound number after
changed_logs bound number state after file change is logs = subst (AreNewLogs bound number) (sym is) logs

-- a name that no directory had has none behind the making of another
none_found : (found : Option ℕ) → ((file : ℕ) → found ≡ Some file → ⊥) → found ≡ None
none_found None none = refl
none_found (Some file) none = absurd (none file refl)

absent_created : (name other : FileName) (state after : Disk) → after ≡ created name state → (other ≡ name → ⊥) → ((count file : ℕ) → file_behind count other state ≡ Some file → ⊥) → IsAbsent other after
absent_created name other state after made differs absent count =
    none_found (file_behind count other after) (λ file is. ⊎_elim (λ before. absent before.0 file before.1) (λ new. differs new.0)
    (created_found name state count file other (subst (λ d. file_behind count other d ≡ Some file) made is)))

absent_changed : (name : FileName) (state after : Disk) (file : ℕ) (change : File → File) → after ≡ with_file file change state → IsAbsent name state → IsAbsent name after
absent_changed name state after file change is absent = subst (IsAbsent name) (sym is) absent

module _ (s : State) (running : Resumption) (state after : Disk) (one : IsOneToOne state) (cuts : CutsExist state) (kept : BootKept s state) (made : HasMadeSo kept.bound s running.job state)
    (parts : AreAllFixed kept.bound running.job s.numbers.next_file state) where
  abbrev next : ℕ
  next = s.numbers.next_file

  abbrev edit_record : List ℕ
  edit_record = record_bytes 0 (spelling (edit_of running.job next))

  -- ---- the manifest is made

  manifest_on : (unmoved : IsUnmoved kept.bound state) (failed_ : Option Fault) → DiskStep state (Create (Manifest next)) (as_answer failed_) after → KeptOn kept.bound kept.old s.levels s.story (next + 1) after
  manifest_on unmoved failed_ step =
      create_keeps kept.bound kept.old s.levels s.story next state one kept.booting unmoved after failed_ (Manifest next) (next + 1)
      (λ count file is. absurd (omega (arith, kept.booting.drawn count file (Manifest next) is))) (λ is. cc) (λ n is. cc) (λ before none n is. cc) (omega arith) (omega arith) step

  pub make_manifest : (unmoved : IsUnmoved kept.bound state) → next < 2 ^ 56 → (next_act : Act) (behind : List Act) (rolls : List RollCall) → left_of running.job ≡ Rolls MakeManifest ∷ map Rolls (AppendEdit ∷ rolls)
      → DiskStep state (Create (Manifest next)) (as_answer None) after → BootKept (act_done (Rolls MakeManifest) running (next_act ∷ behind) s) after
  make_manifest unmoved fits next_act behind rolls left step =
      let on = manifest_on unmoved None step in
      let is = create_done (Manifest next) state after step in
      goes_on s state after kept (next + 1) _ (one_more (Rolls MakeManifest) next running) (omega arith) on (record {
        tables = record { are = made.tables.are; some = made.tables.some; few = made.tables.few };
        live_is = made.live_is;
        unstarted = made.unstarted;
        last_is = made.last_is;
        rising = rising_on running.job.progress.tables next (next + 1) (omega arith) made.rising;
        over = made.over;
        stage = inr (inr (inr (record {
          parts = parts_stay kept.bound next (next + 1) running.job (moved next (Rolls MakeManifest) running.job) state after (Create (Manifest next)) (as_answer None) one step ((λ n. refl), (λ n. refl))
              (omega arith) (omega (arith, fits)) refl refl refl parts (created_logs kept.bound parts.log (Manifest next) state after is (λ n same. cc) parts.logs);
          rolls = AppendEdit ∷ rolls;
          left_is = left_moved next (Rolls MakeManifest) (map Rolls (AppendEdit ∷ rolls)) running.job left;
          made = (
            next,
            refl,
            omega arith,
            subst (IsBeingMade kept.bound (Manifest next) []) (sym is) (created_being kept.bound (Manifest next) state one cuts kept.booting.within (λ n same. cc)),
            absent_created (Manifest next) (Temp next) state after is (λ same. cc) (λ count file there. absurd (omega (arith, kept.booting.drawn count file (Temp next) there))),
            on.unmoved,
          );
        })));
      })

  pub make_manifest_failed : (unmoved : IsUnmoved kept.bound state) (fault : Fault) → DiskStep state (Create (Manifest next)) (as_answer (Some fault)) after → BootKept (act_failed (Rolls MakeManifest) running.job (failure_of (Rolls MakeManifest) fault) s) after
  make_manifest_failed unmoved fault step = is_over s state after kept (next + 1) _ (failure_of (Rolls MakeManifest) fault) (omega arith) (manifest_on unmoved (Some fault) step)

  -- ---- the edit is appended, and gets firm

  module _ (manifest : ℕ) (manifest_is : running.job.progress.manifest ≡ Some manifest) (less : manifest < next) (absent : IsAbsent (Temp manifest) state) (unmoved : IsUnmoved kept.bound state) where
    module _ (being : IsBeingMade kept.bound (Manifest manifest) [] state) where
      edit_on : (failed_ : Option Fault) → DiskStep state (Append (Manifest manifest) edit_record) (as_answer failed_) after → KeptOn kept.bound kept.old s.levels s.story next after
      edit_on failed_ step = append_keeps kept.bound kept.old s.levels s.story next state one kept.booting unmoved after failed_ (Manifest manifest) [] edit_record being step

      pub append_edit : (next_act : Act) (behind : List Act) (rolls : List RollCall) → left_of running.job ≡ Rolls AppendEdit ∷ map Rolls (SyncManifest ∷ rolls)
          → DiskStep state (Append (Manifest manifest) edit_record) (as_answer None) after → BootKept (act_done (Rolls AppendEdit) running (next_act ∷ behind) s) after
      append_edit next_act behind rolls left step =
          let on = edit_on None step in
          let is = append_done (Manifest manifest) edit_record state after being.file being.present step in
          goes_on s state after kept next _ (one_more (Rolls AppendEdit) next running) (omega arith) on (record {
            tables = record { are = made.tables.are; some = made.tables.some; few = made.tables.few };
            live_is = made.live_is;
            unstarted = made.unstarted;
            last_is = made.last_is;
            rising = made.rising;
            over = made.over;
            stage = inr (inr (inr (record {
              parts = parts_stay kept.bound next next running.job (moved next (Rolls AppendEdit) running.job) state after (Append (Manifest manifest) edit_record) (as_answer None) one step ((λ n. refl), (λ n. refl))
                  (omega arith) parts.most refl refl refl parts (changed_logs kept.bound parts.log state after being.file (extended edit_record (length edit_record)) is parts.logs);
              rolls = SyncManifest ∷ rolls;
              left_is = left_moved next (Rolls AppendEdit) (map Rolls (SyncManifest ∷ rolls)) running.job left;
              made = (
                manifest,
                manifest_is,
                less,
                being_more kept.bound (Manifest manifest) [] state one being edit_record after is,
                absent_changed (Temp manifest) state after being.file (extended edit_record (length edit_record)) is absent,
                on.unmoved,
              );
            })));
          })

      pub append_edit_failed : (fault : Fault) → DiskStep state (Append (Manifest manifest) edit_record) (as_answer (Some fault)) after → BootKept (act_failed (Rolls AppendEdit) running.job (failure_of (Rolls AppendEdit) fault) s) after
      append_edit_failed fault step = is_over s state after kept next _ (failure_of (Rolls AppendEdit) fault) (omega arith) (edit_on (Some fault) step)

    module _ (being : IsBeingMade kept.bound (Manifest manifest) edit_record state) where
      firm_on : (failed_ : Option Fault) → DiskStep state (Sync (Manifest manifest)) (as_answer failed_) after → KeptOn kept.bound kept.old s.levels s.story next after
      firm_on failed_ step = sync_keeps kept.bound kept.old s.levels s.story next state one kept.booting unmoved after failed_ (Manifest manifest) edit_record being step

      pub sync_manifest : (next_act : Act) (behind : List Act) (rolls : List RollCall) → left_of running.job ≡ Rolls SyncManifest ∷ map Rolls (MakeTemporary ∷ rolls)
          → DiskStep state (Sync (Manifest manifest)) (as_answer None) after → BootKept (act_done (Rolls SyncManifest) running (next_act ∷ behind) s) after
      sync_manifest next_act behind rolls left step =
          let on = firm_on None step in
          let is = sync_done (Manifest manifest) state after being.file being.present step in
          goes_on s state after kept next _ (one_more (Rolls SyncManifest) next running) (omega arith) on (record {
            tables = record { are = made.tables.are; some = made.tables.some; few = made.tables.few };
            live_is = made.live_is;
            unstarted = made.unstarted;
            last_is = made.last_is;
            rising = made.rising;
            over = made.over;
            stage = inr (inr (inr (record {
              parts = parts_stay kept.bound next next running.job (moved next (Rolls SyncManifest) running.job) state after (Sync (Manifest manifest)) (as_answer None) one step ((λ n. refl), (λ n. refl))
                  (omega arith) parts.most refl refl refl parts (changed_logs kept.bound parts.log state after being.file synced is parts.logs);
              rolls = MakeTemporary ∷ rolls;
              left_is = left_moved next (Rolls SyncManifest) (map Rolls (MakeTemporary ∷ rolls)) running.job left;
              made = (
                manifest,
                manifest_is,
                less,
                being_held kept.bound (Manifest manifest) edit_record state one being edit_record after refl is,
                absent_changed (Temp manifest) state after being.file synced is absent,
                on.unmoved,
              );
            })));
          })

      pub sync_manifest_failed : (fault : Fault) → DiskStep state (Sync (Manifest manifest)) (as_answer (Some fault)) after → BootKept (act_failed (Rolls SyncManifest) running.job (failure_of (Rolls SyncManifest) fault) s) after
      sync_manifest_failed fault step = is_over s state after kept next _ (failure_of (Rolls SyncManifest) fault) (omega arith) (firm_on (Some fault) step)

    -- ---- the temporary file is made

    module _ (held : IsMade kept.bound (Manifest manifest) edit_record state) where
      temporary_on : (failed_ : Option Fault) → DiskStep state (Create (Temp manifest)) (as_answer failed_) after → KeptOn kept.bound kept.old s.levels s.story next after
      temporary_on failed_ step =
          create_keeps kept.bound kept.old s.levels s.story next state one kept.booting unmoved after failed_ (Temp manifest) next
          (λ count file is. some_none file (sym is ∙ absent count)) (λ is. cc) (λ n is. cc) (λ before none n is. cc) (omega arith) less step

      pub make_temporary : (next_act : Act) (behind : List Act) (rolls : List RollCall) → left_of running.job ≡ Rolls MakeTemporary ∷ map Rolls (AppendName ∷ rolls)
          → DiskStep state (Create (Temp manifest)) (as_answer None) after → BootKept (act_done (Rolls MakeTemporary) running (next_act ∷ behind) s) after
      make_temporary next_act behind rolls left step =
          let on = temporary_on None step in
          let is = create_done (Temp manifest) state after step in
          goes_on s state after kept next _ (one_more (Rolls MakeTemporary) next running) (omega arith) on (record {
            tables = record { are = made.tables.are; some = made.tables.some; few = made.tables.few };
            live_is = made.live_is;
            unstarted = made.unstarted;
            last_is = made.last_is;
            rising = made.rising;
            over = made.over;
            stage = inr (inr (inr (record {
              parts = parts_stay kept.bound next next running.job (moved next (Rolls MakeTemporary) running.job) state after (Create (Temp manifest)) (as_answer None) one step ((λ n. refl), (λ n. refl))
                  (omega arith) parts.most refl refl refl parts (created_logs kept.bound parts.log (Temp manifest) state after is (λ n same. cc) parts.logs);
              rolls = AppendName ∷ rolls;
              left_is = left_moved next (Rolls MakeTemporary) (map Rolls (AppendName ∷ rolls)) running.job left;
              made = (
                manifest,
                manifest_is,
                manifest_is,
                made_stays state after (Create (Temp manifest)) (as_answer None) one step kept.bound (Manifest manifest) edit_record refl held,
                subst (IsBeingMade kept.bound (Temp manifest) []) (sym is) (created_being kept.bound (Temp manifest) state one cuts kept.booting.within (λ n same. cc)),
                on.unmoved,
              );
            })));
          })

      pub make_temporary_failed : (fault : Fault) → DiskStep state (Create (Temp manifest)) (as_answer (Some fault)) after → BootKept (act_failed (Rolls MakeTemporary) running.job (failure_of (Rolls MakeTemporary) fault) s) after
      make_temporary_failed fault step = is_over s state after kept next _ (failure_of (Rolls MakeTemporary) fault) (omega arith) (temporary_on (Some fault) step)

  -- ---- the name is appended, and gets firm

  module _ (manifest : ℕ) (manifest_is : running.job.progress.manifest ≡ Some manifest) (temporary_is : running.job.progress.temporary ≡ Some manifest) (held : IsMade kept.bound (Manifest manifest) edit_record state) (unmoved : IsUnmoved kept.bound state) where
    module _ (being : IsBeingMade kept.bound (Temp manifest) [] state) where
      name_on : (failed_ : Option Fault) → DiskStep state (Append (Temp manifest) (current_of manifest)) (as_answer failed_) after → KeptOn kept.bound kept.old s.levels s.story next after
      name_on failed_ step = append_keeps kept.bound kept.old s.levels s.story next state one kept.booting unmoved after failed_ (Temp manifest) [] (current_of manifest) being step

      pub append_name : (next_act : Act) (behind : List Act) (rolls : List RollCall) → left_of running.job ≡ Rolls AppendName ∷ map Rolls (SyncTemporary ∷ rolls)
          → DiskStep state (Append (Temp manifest) (current_of manifest)) (as_answer None) after → BootKept (act_done (Rolls AppendName) running (next_act ∷ behind) s) after
      append_name next_act behind rolls left step =
          let on = name_on None step in
          let is = append_done (Temp manifest) (current_of manifest) state after being.file being.present step in
          goes_on s state after kept next _ (one_more (Rolls AppendName) next running) (omega arith) on (record {
            tables = record { are = made.tables.are; some = made.tables.some; few = made.tables.few };
            live_is = made.live_is;
            unstarted = made.unstarted;
            last_is = made.last_is;
            rising = made.rising;
            over = made.over;
            stage = inr (inr (inr (record {
              parts = parts_stay kept.bound next next running.job (moved next (Rolls AppendName) running.job) state after (Append (Temp manifest) (current_of manifest)) (as_answer None) one step ((λ n. refl), (λ n. refl))
                  (omega arith) parts.most refl refl refl parts (changed_logs kept.bound parts.log state after being.file (extended (current_of manifest) (length (current_of manifest))) is parts.logs);
              rolls = SyncTemporary ∷ rolls;
              left_is = left_moved next (Rolls AppendName) (map Rolls (SyncTemporary ∷ rolls)) running.job left;
              made = (
                manifest,
                manifest_is,
                temporary_is,
                made_stays state after (Append (Temp manifest) (current_of manifest)) (as_answer None) one step kept.bound (Manifest manifest) edit_record refl held,
                being_more kept.bound (Temp manifest) [] state one being (current_of manifest) after is,
                on.unmoved,
              );
            })));
          })

      pub append_name_failed : (fault : Fault) → DiskStep state (Append (Temp manifest) (current_of manifest)) (as_answer (Some fault)) after → BootKept (act_failed (Rolls AppendName) running.job (failure_of (Rolls AppendName) fault) s) after
      append_name_failed fault step = is_over s state after kept next _ (failure_of (Rolls AppendName) fault) (omega arith) (name_on (Some fault) step)

    module _ (being : IsBeingMade kept.bound (Temp manifest) (current_of manifest) state) where
      ready_on : (failed_ : Option Fault) → DiskStep state (Sync (Temp manifest)) (as_answer failed_) after → KeptOn kept.bound kept.old s.levels s.story next after
      ready_on failed_ step = sync_keeps kept.bound kept.old s.levels s.story next state one kept.booting unmoved after failed_ (Temp manifest) (current_of manifest) being step

      pub sync_temporary : (next_act : Act) (behind : List Act) (rolls : List RollCall) → left_of running.job ≡ Rolls SyncTemporary ∷ map Rolls (Rename ∷ rolls)
          → DiskStep state (Sync (Temp manifest)) (as_answer None) after → BootKept (act_done (Rolls SyncTemporary) running (next_act ∷ behind) s) after
      sync_temporary next_act behind rolls left step =
          let on = ready_on None step in
          let is = sync_done (Temp manifest) state after being.file being.present step in
          goes_on s state after kept next _ (one_more (Rolls SyncTemporary) next running) (omega arith) on (record {
            tables = record { are = made.tables.are; some = made.tables.some; few = made.tables.few };
            live_is = made.live_is;
            unstarted = made.unstarted;
            last_is = made.last_is;
            rising = made.rising;
            over = made.over;
            stage = inr (inr (inr (record {
              parts = parts_stay kept.bound next next running.job (moved next (Rolls SyncTemporary) running.job) state after (Sync (Temp manifest)) (as_answer None) one step ((λ n. refl), (λ n. refl))
                  (omega arith) parts.most refl refl refl parts (changed_logs kept.bound parts.log state after being.file synced is parts.logs);
              rolls = Rename ∷ rolls;
              left_is = left_moved next (Rolls SyncTemporary) (map Rolls (Rename ∷ rolls)) running.job left;
              made = (
                manifest,
                manifest_is,
                temporary_is,
                made_stays state after (Sync (Temp manifest)) (as_answer None) one step kept.bound (Manifest manifest) edit_record refl held,
                being_held kept.bound (Temp manifest) (current_of manifest) state one being (current_of manifest) after refl is,
                on.unmoved,
              );
            })));
          })

      pub sync_temporary_failed : (fault : Fault) → DiskStep state (Sync (Temp manifest)) (as_answer (Some fault)) after → BootKept (act_failed (Rolls SyncTemporary) running.job (failure_of (Rolls SyncTemporary) fault) s) after
      sync_temporary_failed fault step = is_over s state after kept next _ (failure_of (Rolls SyncTemporary) fault) (omega arith) (ready_on (Some fault) step)
