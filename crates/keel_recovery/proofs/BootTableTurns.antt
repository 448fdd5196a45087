-- The turns of a boot that make its tables.
use Rattle.std.proofs.Common.{◌≡◌, ℕ, ◌+◌, ◌<◌, false, List, [], ◌∷◌, ◌++◌, map, Option, Some, None, refl, sym, ap, subst, ◌∙◌, inl, inr, arith, append_assoc, append-nil}
use Rattle.std.specs.List.{AllByRecursion, flat_map}
use Rattle.keel_base.specs.declared.failure.Fault.{Fault}
use Rattle.keel_base.specs.declared.file_name.FileName.{FileName}
use Rattle.keel_base.specs.declared.file_name.FileName.TheVariants.{Current, Table}
use Rattle.keel_base.specs.Name.{name_eq}
use Rattle.keel_disk.specs.declared.change.Change.TheVariants.{Create, Append, Sync}
use Rattle.keel_disk.specs.State.{State as Disk}
use Rattle.keel_disk.specs.Step.{DiskStep}
use Rattle.keel_disk.specs.Steady.{CutsExist, file_behind}
use Rattle.keel_disk.specs.Sound.{IsOneToOne}
use Rattle.keel_edit.specs.declared.edit.Added.{Added}
use Rattle.keel_directory.specs.TableFiles.{TableFile}
use Rattle.keel_machine.specs.Outside.{as_answer}
use Rattle.keel_machine.specs.Resuming.{act_done, act_failed, batches_in, one_more}
use Rattle.keel_machine.specs.States.{State, Resumption, Segment, entries_in}
use Rattle.keel_open.specs.NextFiles.{number_in}
use Rattle.keel_draft.specs.Drafts.{Draft, AreDraftsOf, bytes_in, pieces_in}
use Rattle.keel_resume.specs.Plans.{Act, MakeTable, AddPiece, SyncTable, failure_of, latest, left_of, moved, plan_of}
use Rattle.keel_recovery.specs.Booting.{IsOldTable}
use Rattle.keel_recovery.specs.BootCalls.{AreMade, AreRising, AtTables, BootKept, HasMadeSo, InTable, IsMade, IsBeingMade}
use Rattle.keel_recovery.proofs.BootKeeps.{KeptOn, append_keeps, create_keeps, sync_keeps}
use Rattle.keel_recovery.proofs.BootMaking.{goes_on, is_over, left_moved}
use Rattle.keel_recovery.proofs.BootSteps.{all_made_stay, append_done, create_done, created_being, sync_done}
use Rattle.keel_recovery.proofs.BootTables.{all_less, below_last, being_held, being_more, joined_more, latest_last, over_more, pieces_joined, rising_more, tables_apart}

-- where there is no segment there is no table to make
no_drafts : (seq : ℕ) (segments : List Segment) (drafts done rest : List Draft) (draft : Draft) → segments ≡ [] → AreDraftsOf seq (batches_in segments) drafts → drafts ≡ done ++ draft ∷ rest → ⊥
no_drafts seq [] [] [] rest draft none are is = cc
no_drafts seq [] [] (d ∷ done) rest draft none are is = cc
no_drafts seq [] (d ∷ drafts) done rest draft none are is = absurd are
no_drafts seq (segment ∷ segments) drafts done rest draft none are is = cc

-- each table that is in use is numbered below the next file
live_drawn : (bound next : ℕ) (state : Disk) (levels : List TableFile) → ((count file : ℕ) (name : FileName) → file_behind count name state ≡ Some file → number_in name < next)
    → AllByRecursion (IsOldTable bound state) levels → AllByRecursion (λ (table : Added). table.number < next) (entries_in levels)
live_drawn bound next state [] drawn are = tt
live_drawn bound next state (table ∷ levels) drawn are =
    (drawn 0 are.0.file (Table table.entry.number) (are.0.steady.named 0), live_drawn bound next state levels drawn are.1)

made_more : (bound : ℕ) (numbers : List ℕ) (drafts : List Draft) (number : ℕ) (draft : Draft) (state : Disk) → AreMade bound numbers drafts state → IsMade bound (Table number) (bytes_in draft) state
    → AreMade bound (numbers ++ number ∷ []) (drafts ++ draft ∷ []) state
made_more bound [] [] number draft state are is = (is, tt)
made_more bound [] (d ∷ drafts) number draft state are is = absurd are
made_more bound (n ∷ numbers) [] number draft state are is = absurd are
made_more bound (n ∷ numbers) (d ∷ drafts) number draft state are is = (are.0, made_more bound numbers drafts number draft state are.1 is)

module _ (s : State) (running : Resumption) (state after : Disk) (one : IsOneToOne state) (cuts : CutsExist state) (kept : BootKept s state) (made : HasMadeSo kept.bound s running.job state) where
  abbrev next : ℕ
  next = s.numbers.next_file

  -- ---- a table is begun

  module _ (at : AtTables kept.bound running.job state) (draft : Draft) (rest : List Draft) (rest_is : at.rest ≡ draft ∷ rest) where
    drafts_are : running.job.drafts ≡ at.done ++ draft ∷ rest
    drafts_are = at.drafts_are ∙ ap (λ l. at.done ++ l) rest_is

    no_table : (before : ℕ) → file_behind before Current kept.old ≡ None → (n : ℕ) → Table next ≡ Table n → ⊥
    no_table before none n is = no_drafts s.numbers.in_tables s.segments.immutable running.job.drafts at.done rest draft (kept.bare before none) made.tables.are drafts_are

    begins_on : (failed_ : Option Fault) → DiskStep state (Create (Table next)) (as_answer failed_) after → KeptOn kept.bound kept.old s.levels s.story (next + 1) after
    begins_on failed_ step =
        create_keeps kept.bound kept.old s.levels s.story next state one kept.booting at.unmoved after failed_ (Table next) (next + 1)
        (λ count file is. absurd (omega (arith, kept.booting.drawn count file (Table next) is))) (λ is. cc) (λ n is. cc) no_table (omega arith) (omega arith) step

    begun : DiskStep state (Create (Table next)) (as_answer None) after → (later : List Act) → left_of running.job ≡ MakeTable ∷ later
        → later ≡ map AddPiece (pieces_in draft) ++ SyncTable ∷ plan_of rest → InTable kept.bound (moved next MakeTable running.job) after
    begun step later left later_is = record {
      done = at.done;
      draft = draft;
      rest = rest;
      drafts_are = drafts_are;
      numbers = running.job.progress.tables;
      number = next;
      numbers_are = refl;
      made = all_made_stay state after (Create (Table next)) (as_answer None) one step kept.bound running.job.progress.tables at.done
          (tables_apart running.job.progress.tables next (all_less running.job.progress.tables next made.rising)) at.made;
      given = [];
      todo = pieces_in draft;
      pieces_are = refl;
      left_is = left_moved next MakeTable later running.job left ∙ later_is;
      being = subst (IsBeingMade kept.bound (Table next) []) (sym (create_done (Table next) state after step)) (created_being kept.bound (Table next) state one cuts kept.booting.within (λ n is. cc));
      unmoved = (begins_on None step).unmoved;
    }

    pub make_table : (later : List Act) (next_act : Act) (behind : List Act) → left_of running.job ≡ MakeTable ∷ later → later ≡ next_act ∷ behind → later ≡ map AddPiece (pieces_in draft) ++ SyncTable ∷ plan_of rest
        → DiskStep state (Create (Table next)) (as_answer None) after → BootKept (act_done MakeTable running (next_act ∷ behind) s) after
    make_table later next_act behind left some later_is step =
        goes_on s state after kept (next + 1) _ (one_more MakeTable next running) (omega arith) (begins_on None step) (record {
          tables = record { are = made.tables.are; some = made.tables.some; few = made.tables.few };
          live_is = made.live_is;
          unstarted = made.unstarted;
          last_is = made.last_is;
          rising = rising_more running.job.progress.tables next kept.numbered made.rising;
          over = over_more running.job.live running.job.progress.tables next
              (subst (AllByRecursion (λ (table : Added). table.number < next)) (sym made.live_is) (live_drawn kept.bound next state s.levels kept.booting.drawn kept.booting.tables)) made.over;
          stage = inr (inl (begun step later left later_is));
        })

    pub make_table_failed : (fault : Fault) → DiskStep state (Create (Table next)) (as_answer (Some fault)) after → BootKept (act_failed MakeTable running.job (failure_of MakeTable fault) s) after
    make_table_failed fault step = is_over s state after kept (next + 1) _ (failure_of MakeTable fault) (omega arith) (begins_on (Some fault) step)

  -- ---- a piece is added

  module _ (in_ : InTable kept.bound running.job state) where
    abbrev name : FileName
    name = Table in_.number

    rising : AreRising (in_.numbers ++ in_.number ∷ []) next
    rising = subst (λ numbers. AreRising numbers next) in_.numbers_are made.rising

    apart : AllByRecursion (λ (number : ℕ). name_eq name (Table number) ≡ false) in_.numbers
    apart = tables_apart in_.numbers in_.number (below_last in_.numbers in_.number next rising)

    same_name : Table (latest running.job.progress.tables) ≡ name
    same_name = ap Table (ap latest in_.numbers_are ∙ latest_last in_.numbers in_.number)

    module _ (piece : List ℕ) (todo : List (List ℕ)) (todo_is : in_.todo ≡ piece ∷ todo) where
      adds_on : (failed_ : Option Fault) → DiskStep state (Append name piece) (as_answer failed_) after → KeptOn kept.bound kept.old s.levels s.story next after
      adds_on failed_ step =
          append_keeps kept.bound kept.old s.levels s.story next state one kept.booting in_.unmoved after failed_ name (flat_map (λ (p : List ℕ). p) in_.given) piece in_.being step

      added : DiskStep state (Append name piece) (as_answer None) after → (later : List Act) → left_of running.job ≡ AddPiece piece ∷ later → later ≡ map AddPiece todo ++ SyncTable ∷ plan_of in_.rest
          → InTable kept.bound (moved next (AddPiece piece) running.job) after
      added step later left later_is = record {
        done = in_.done;
        draft = in_.draft;
        rest = in_.rest;
        drafts_are = in_.drafts_are;
        numbers = in_.numbers;
        number = in_.number;
        numbers_are = in_.numbers_are;
        made = all_made_stay state after (Append name piece) (as_answer None) one step kept.bound in_.numbers in_.done apart in_.made;
        given = in_.given ++ piece ∷ [];
        todo = todo;
        pieces_are = in_.pieces_are ∙ (ap (λ l. in_.given ++ l) todo_is ∙ sym (append_assoc in_.given (piece ∷ []) todo));
        left_is = left_moved next (AddPiece piece) later running.job left ∙ later_is;
        being = subst (λ bytes. IsBeingMade kept.bound name bytes after) (sym (joined_more in_.given piece))
            (being_more kept.bound name (flat_map (λ (p : List ℕ). p) in_.given) state one in_.being piece after (append_done name piece state after in_.being.file in_.being.present step));
        unmoved = (adds_on None step).unmoved;
      }

      pub add_piece : (later : List Act) (next_act : Act) (behind : List Act) → left_of running.job ≡ AddPiece piece ∷ later → later ≡ map AddPiece todo ++ SyncTable ∷ plan_of in_.rest
          → DiskStep state (Append name piece) (as_answer None) after → BootKept (act_done (AddPiece piece) running (next_act ∷ behind) s) after
      add_piece later next_act behind left later_is step =
          goes_on s state after kept next _ (one_more (AddPiece piece) next running) (omega arith) (adds_on None step) (record {
            tables = record { are = made.tables.are; some = made.tables.some; few = made.tables.few };
            live_is = made.live_is;
            unstarted = made.unstarted;
            last_is = made.last_is;
            rising = made.rising;
            over = made.over;
            stage = inr (inl (added step later left later_is));
          })

      pub add_piece_failed : (fault : Fault) → DiskStep state (Append name piece) (as_answer (Some fault)) after → BootKept (act_failed (AddPiece piece) running.job (failure_of (AddPiece piece) fault) s) after
      add_piece_failed fault step = is_over s state after kept next _ (failure_of (AddPiece piece) fault) (omega arith) (adds_on (Some fault) step)

    -- ---- the table gets firm

    module _ (todo_is : in_.todo ≡ []) where
      all_given : flat_map (λ (p : List ℕ). p) in_.given ≡ bytes_in in_.draft
      all_given = ap (flat_map (λ (p : List ℕ). p)) (sym (in_.pieces_are ∙ (ap (λ l. in_.given ++ l) todo_is ∙ append-nil in_.given))) ∙ pieces_joined in_.draft

      syncs_on : (failed_ : Option Fault) → DiskStep state (Sync name) (as_answer failed_) after → KeptOn kept.bound kept.old s.levels s.story next after
      syncs_on failed_ step = sync_keeps kept.bound kept.old s.levels s.story next state one kept.booting in_.unmoved after failed_ name (flat_map (λ (p : List ℕ). p) in_.given) in_.being step

      ended : DiskStep state (Sync name) (as_answer None) after → (later : List Act) → left_of running.job ≡ SyncTable ∷ later → later ≡ plan_of in_.rest → AtTables kept.bound (moved next SyncTable running.job) after
      ended step later left later_is = record {
        done = in_.done ++ in_.draft ∷ [];
        rest = in_.rest;
        drafts_are = in_.drafts_are ∙ sym (append_assoc in_.done (in_.draft ∷ []) in_.rest);
        made = subst (λ numbers. AreMade kept.bound numbers (in_.done ++ in_.draft ∷ []) after) (sym in_.numbers_are)
            (made_more kept.bound in_.numbers in_.done in_.number in_.draft after
            (all_made_stay state after (Sync name) (as_answer None) one step kept.bound in_.numbers in_.done apart in_.made)
            (being_held kept.bound name (flat_map (λ (p : List ℕ). p) in_.given) state one in_.being (bytes_in in_.draft) after all_given (sync_done name state after in_.being.file in_.being.present step)));
        left_is = left_moved next SyncTable later running.job left ∙ later_is;
        unmoved = (syncs_on None step).unmoved;
      }

      pub sync_table : (later : List Act) (next_act : Act) (behind : List Act) → left_of running.job ≡ SyncTable ∷ later → later ≡ plan_of in_.rest
          → DiskStep state (Sync name) (as_answer None) after → BootKept (act_done SyncTable running (next_act ∷ behind) s) after
      sync_table later next_act behind left later_is step =
          goes_on s state after kept next _ (one_more SyncTable next running) (omega arith) (syncs_on None step) (record {
            tables = record { are = made.tables.are; some = made.tables.some; few = made.tables.few };
            live_is = made.live_is;
            unstarted = made.unstarted;
            last_is = made.last_is;
            rising = made.rising;
            over = made.over;
            stage = inl (ended step later left later_is);
          })

      pub sync_table_failed : (fault : Fault) → DiskStep state (Sync name) (as_answer (Some fault)) after → BootKept (act_failed SyncTable running.job (failure_of SyncTable fault) s) after
      sync_table_failed fault step = is_over s state after kept next _ (failure_of SyncTable fault) (omega arith) (syncs_on (Some fault) step)
