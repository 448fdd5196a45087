-- Each call of a boot keeps what a booting store keeps, or clears it.
use Rattle.std.proofs.Common.{◌≡◌, ℕ, zero, suc, ◌<◌, ◌^◌, true, List, [], ◌∷◌, ◌++◌, map, drop, Option, Some, None, unwrap_or, refl, sym, ap, subst, ◌∙◌, inl, inr}
use Rattle.keel_base.specs.declared.failure.Fault.{Fault}
use Rattle.keel_base.specs.declared.file_name.FileName.TheVariants.{Current, Table, Manifest, Temp}
use Rattle.keel_disk.specs.declared.change.Change.{Change}
use Rattle.keel_disk.specs.declared.change.Change.TheVariants.{Create, Append, Sync, Rename as RenameFile}
use Rattle.keel_disk.specs.Sound.{IsOneToOne}
use Rattle.keel_disk.specs.State.{State as Disk}
use Rattle.keel_disk.specs.Step.{DiskStep}
use Rattle.keel_disk.specs.Steady.{CutsExist}
use Rattle.keel_edit.specs.Spelling.{spelling}
use Rattle.keel_frag.specs.Writing.{record_bytes}
use Rattle.keel_name.specs.Current.{current_of}
use Rattle.keel_machine.specs.Outside.{as_answer}
use Rattle.keel_machine.specs.Resuming.{act_done, act_failed}
use Rattle.keel_machine.specs.States.{State, Resumption}
use Rattle.keel_manifest.specs.declared.roll.RollCall.{RollCall}
use Rattle.keel_manifest.specs.declared.roll.RollCall.TheVariants.{MakeManifest, AppendEdit, SyncManifest, MakeTemporary, AppendName, SyncTemporary, Rename, SyncDirectory}
use Rattle.keel_draft.specs.Drafts.{Draft, pieces_in}
use Rattle.keel_resume.specs.Plans.{Job, Act, MakeTable, AddPiece, SyncTable, MakeLog, SyncLogName, Rolls, change_of, draws, edit_of, failure_of, latest, left_of, plan_of, roll_acts}
use Rattle.keel_recovery.specs.BootCalls.{AreAllFixed, AtLogName, AtTables, BootKept, HasMadeSo, InTable, RollMade}
use Rattle.keel_recovery.specs.BootRoll.{Gives}
use Rattle.keel_recovery.specs.BootTurns.{GoesOn}
use Rattle.keel_recovery.proofs.BootCleared.{clears}
use Rattle.keel_recovery.proofs.BootLast.{last_failed}
use Rattle.keel_recovery.proofs.BootLog.{make_log, make_log_failed, sync_log_name, sync_log_name_failed}
use Rattle.keel_recovery.proofs.BootMaking.{plan_cons}
use Rattle.keel_recovery.proofs.BootMoved.{move_on, move_failed}
use Rattle.keel_recovery.proofs.BootRollTurns.{make_manifest, make_manifest_failed, append_edit, append_edit_failed, sync_manifest, sync_manifest_failed, make_temporary, make_temporary_failed, append_name, append_name_failed, sync_temporary, sync_temporary_failed}
use Rattle.keel_recovery.proofs.BootTables.{latest_last}
use Rattle.keel_recovery.proofs.BootTableTurns.{make_table, make_table_failed, add_piece, add_piece_failed, sync_table, sync_table_failed}

-- ---- the calls of a roll stand in their order

-- the calls behind one
abbrev behind_roll : RollCall → List RollCall
behind_roll MakeManifest = AppendEdit ∷ SyncManifest ∷ MakeTemporary ∷ AppendName ∷ SyncTemporary ∷ Rename ∷ SyncDirectory ∷ []
behind_roll AppendEdit = SyncManifest ∷ MakeTemporary ∷ AppendName ∷ SyncTemporary ∷ Rename ∷ SyncDirectory ∷ []
behind_roll SyncManifest = MakeTemporary ∷ AppendName ∷ SyncTemporary ∷ Rename ∷ SyncDirectory ∷ []
behind_roll MakeTemporary = AppendName ∷ SyncTemporary ∷ Rename ∷ SyncDirectory ∷ []
behind_roll AppendName = SyncTemporary ∷ Rename ∷ SyncDirectory ∷ []
behind_roll SyncTemporary = Rename ∷ SyncDirectory ∷ []
behind_roll Rename = SyncDirectory ∷ []
behind_roll SyncDirectory = []

abbrev Follows : Act → List Act → Type 0
Follows (Rolls asked) later = later ≡ map Rolls (behind_roll asked)
Follows act later = Unit {0}

abbrev AreOrdered : List Act → Type 0
AreOrdered [] = Unit {0}
AreOrdered (act ∷ later) = Follows act later × AreOrdered later

ordered_pieces : (pieces : List (List ℕ)) (rest : List Act) → AreOrdered rest → AreOrdered (map AddPiece pieces ++ rest)
ordered_pieces [] rest ordered = ordered
ordered_pieces (piece ∷ pieces) rest ordered = (tt, ordered_pieces pieces rest ordered)

ordered_plan : (drafts : List Draft) → AreOrdered (plan_of drafts)
ordered_plan [] = (tt, (tt, (refl, (refl, (refl, (refl, (refl, (refl, (refl, (refl, tt))))))))))
ordered_plan (draft ∷ rest) =
    subst AreOrdered (sym (plan_cons draft rest)) (tt, ordered_pieces (pieces_in draft) (SyncTable ∷ plan_of rest) (tt, ordered_plan rest))

ordered_drop : (count : ℕ) (acts : List Act) → AreOrdered acts → AreOrdered (drop count acts)
ordered_drop zero acts ordered = ordered
ordered_drop (suc count) [] ordered = tt
ordered_drop (suc count) (act ∷ later) ordered = ordered_drop count later ordered.1

follows_left : (job : Job) (act : Act) (later : List Act) → left_of job ≡ act ∷ later → Follows act later
follows_left job act later left = (subst AreOrdered left (ordered_drop job.progress.made (plan_of job.drafts) (ordered_plan job.drafts))).0

-- ---- lists

heads : {A : Type 0} {x y : A} {xs ys : List A} → x ∷ xs ≡ y ∷ ys → x ≡ y
heads e = cc

tails : {A : Type 0} {x y : A} {xs ys : List A} → x ∷ xs ≡ y ∷ ys → xs ≡ ys
tails e = cc

not_mid : {A P : Type 0} (xs : List A) (y : A) (ys : List A) → xs ++ y ∷ ys ≡ [] → P
not_mid [] y ys none = cc
not_mid (x ∷ xs) y ys none = cc

-- what is left of a plan has a call
some_plan : {P : Type 0} (drafts : List Draft) → plan_of drafts ≡ [] → P
some_plan [] none = cc
some_plan (draft ∷ rest) none = cc

-- ---- one turn

module _ (s : State) (running : Resumption) (state after : Disk) (one : IsOneToOne state) (cuts : CutsExist state) (kept : BootKept s state) (made : HasMadeSo kept.bound s running.job state)
    (gives : (parts : AreAllFixed kept.bound running.job s.numbers.next_file state) → Gives s.levels s.story running.job parts.log s.numbers.next_file) where
  abbrev next : ℕ
  next = s.numbers.next_file

  abbrev Leaves : Act → List Act → Option Fault → Type 0
  Leaves act later None = GoesOn later (act_done act running later s) after
  Leaves act later (Some fault) = BootKept (act_failed act running.job (failure_of act fault) s) after

  -- whatever is answered to a call
  abbrev Turn : Act → List Act → Type 0
  Turn act later =
      left_of running.job ≡ act ∷ later → (draws act ≡ true → next < 2 ^ 56) → (failed : Option Fault) → DiskStep state (change_of running.job next act) (as_answer failed) after
      → Leaves act later failed

  goes_by : (act : Act) (later : List Act) → (later ≡ [] → ⊥) → ((next_act : Act) (behind : List Act) → later ≡ next_act ∷ behind → BootKept (act_done act running (next_act ∷ behind) s) after)
      → GoesOn later (act_done act running later s) after
  goes_by act [] some each = absurd (some refl)
  goes_by act (next_act ∷ behind) some each = each next_act behind refl

  -- ---- tables

  table_turn : (at : AtTables kept.bound running.job state) (draft : Draft) (rest : List Draft) → at.rest ≡ draft ∷ rest → Turn MakeTable (map AddPiece (pieces_in draft) ++ SyncTable ∷ plan_of rest)
  table_turn at draft rest rest_is left fits None step =
      goes_by MakeTable (map AddPiece (pieces_in draft) ++ SyncTable ∷ plan_of rest) (λ none. not_mid (map AddPiece (pieces_in draft)) SyncTable (plan_of rest) none)
      (λ next_act behind is. make_table s running state after one cuts kept made at draft rest rest_is (map AddPiece (pieces_in draft) ++ SyncTable ∷ plan_of rest) next_act behind left is refl step)
  table_turn at draft rest rest_is left fits (Some fault) step = make_table_failed s running state after one cuts kept made at draft rest rest_is fault step

  log_turn : (at : AtTables kept.bound running.job state) → at.rest ≡ [] → Turn MakeLog (SyncLogName ∷ roll_acts)
  log_turn at rest_is left fits None step = make_log s running state after one cuts kept made at rest_is (fits refl) (SyncLogName ∷ roll_acts) SyncLogName roll_acts left refl step
  log_turn at rest_is left fits (Some fault) step = make_log_failed s running state after one cuts kept made at rest_is fault step

  -- the name of the table that is being made
  named_so : (in_ : InTable kept.bound running.job state) → latest running.job.progress.tables ≡ in_.number
  named_so in_ = ap latest in_.numbers_are ∙ latest_last in_.numbers in_.number

  piece_turn : (in_ : InTable kept.bound running.job state) (piece : List ℕ) (todo : List (List ℕ)) → in_.todo ≡ piece ∷ todo → Turn (AddPiece piece) (map AddPiece todo ++ SyncTable ∷ plan_of in_.rest)
  piece_turn in_ piece todo todo_is left fits None step =
      goes_by (AddPiece piece) (map AddPiece todo ++ SyncTable ∷ plan_of in_.rest) (λ none. not_mid (map AddPiece todo) SyncTable (plan_of in_.rest) none)
      (λ next_act behind is. add_piece s running state after one cuts kept made in_ piece todo todo_is (map AddPiece todo ++ SyncTable ∷ plan_of in_.rest) next_act behind left refl
      (subst (λ n. DiskStep state (Append (Table n) piece) (as_answer None) after) (named_so in_) step))
  piece_turn in_ piece todo todo_is left fits (Some fault) step =
      add_piece_failed s running state after one cuts kept made in_ piece todo todo_is fault (subst (λ n. DiskStep state (Append (Table n) piece) (as_answer (Some fault)) after) (named_so in_) step)

  table_sync_turn : (in_ : InTable kept.bound running.job state) → in_.todo ≡ [] → Turn SyncTable (plan_of in_.rest)
  table_sync_turn in_ todo_is left fits None step =
      goes_by SyncTable (plan_of in_.rest) (λ none. some_plan in_.rest none)
      (λ next_act behind is. sync_table s running state after one cuts kept made in_ todo_is (plan_of in_.rest) next_act behind left refl (subst (λ n. DiskStep state (Sync (Table n)) (as_answer None) after) (named_so in_) step))
  table_sync_turn in_ todo_is left fits (Some fault) step =
      sync_table_failed s running state after one cuts kept made in_ todo_is fault (subst (λ n. DiskStep state (Sync (Table n)) (as_answer (Some fault)) after) (named_so in_) step)

  name_turn : AtLogName kept.bound running.job next state → Turn SyncLogName roll_acts
  name_turn at left fits None step = sync_log_name s running state after one cuts kept made at roll_acts (Rolls MakeManifest) (map Rolls (behind_roll MakeManifest)) left refl step
  name_turn at left fits (Some fault) step = sync_log_name_failed s running state after one cuts kept made at fault step

  -- ---- the roll

  module _ (parts : AreAllFixed kept.bound running.job next state) where
    abbrev RollTurn : RollCall → Type 0
    RollTurn asked = Turn (Rolls asked) (map Rolls (behind_roll asked))

    abbrev edit_record : List ℕ
    edit_record = record_bytes 0 (spelling (edit_of running.job next))

    -- the change of a call that is about this manifest
    at_manifest : (asked : RollCall) (m : ℕ) → running.job.progress.manifest ≡ Some m → (change : ℕ → Change) → ((o : Option ℕ) → change_of (record running.job { progress = record running.job.progress { manifest = o } }) next (Rolls asked) ≡ change (unwrap_or o 0))
        → change_of running.job next (Rolls asked) ≡ change m
    at_manifest asked m is change each = each running.job.progress.manifest ∙ ap (λ o. change (unwrap_or o 0)) is

    manifest_turn : (made_so : RollMade kept.bound running.job next state (MakeManifest ∷ [])) → RollTurn MakeManifest
    manifest_turn unmoved left fits None step =
        make_manifest s running state after one cuts kept made parts unmoved (fits refl) (Rolls AppendEdit) (map Rolls (behind_roll AppendEdit)) (behind_roll AppendEdit) left step
    manifest_turn unmoved left fits (Some fault) step = make_manifest_failed s running state after one cuts kept made parts unmoved fault step

    edit_turn : RollMade kept.bound running.job next state (AppendEdit ∷ []) → RollTurn AppendEdit
    edit_turn (m, is, less, being, absent, unmoved) left fits None step =
        append_edit s running state after one cuts kept made parts m is less absent unmoved being (Rolls SyncManifest) (map Rolls (behind_roll SyncManifest)) (behind_roll SyncManifest) left
        (subst (λ (c : Change). DiskStep state c (as_answer None) after) (at_manifest AppendEdit m is (λ n. Append (Manifest n) edit_record) (λ o. refl)) step)
    edit_turn (m, is, less, being, absent, unmoved) left fits (Some fault) step =
        append_edit_failed s running state after one cuts kept made parts m is less absent unmoved being fault
        (subst (λ (c : Change). DiskStep state c (as_answer (Some fault)) after) (at_manifest AppendEdit m is (λ n. Append (Manifest n) edit_record) (λ o. refl)) step)

    firm_turn : RollMade kept.bound running.job next state (SyncManifest ∷ []) → RollTurn SyncManifest
    firm_turn (m, is, less, being, absent, unmoved) left fits None step =
        sync_manifest s running state after one cuts kept made parts m is less absent unmoved being (Rolls MakeTemporary) (map Rolls (behind_roll MakeTemporary)) (behind_roll MakeTemporary) left
        (subst (λ (c : Change). DiskStep state c (as_answer None) after) (at_manifest SyncManifest m is (λ n. Sync (Manifest n)) (λ o. refl)) step)
    firm_turn (m, is, less, being, absent, unmoved) left fits (Some fault) step =
        sync_manifest_failed s running state after one cuts kept made parts m is less absent unmoved being fault
        (subst (λ (c : Change). DiskStep state c (as_answer (Some fault)) after) (at_manifest SyncManifest m is (λ n. Sync (Manifest n)) (λ o. refl)) step)

    temporary_turn : RollMade kept.bound running.job next state (MakeTemporary ∷ []) → RollTurn MakeTemporary
    temporary_turn (m, is, less, held, absent, unmoved) left fits None step =
        make_temporary s running state after one cuts kept made parts m is less absent unmoved held (Rolls AppendName) (map Rolls (behind_roll AppendName)) (behind_roll AppendName) left
        (subst (λ (c : Change). DiskStep state c (as_answer None) after) (at_manifest MakeTemporary m is (λ n. Create (Temp n)) (λ o. refl)) step)
    temporary_turn (m, is, less, held, absent, unmoved) left fits (Some fault) step =
        make_temporary_failed s running state after one cuts kept made parts m is less absent unmoved held fault
        (subst (λ (c : Change). DiskStep state c (as_answer (Some fault)) after) (at_manifest MakeTemporary m is (λ n. Create (Temp n)) (λ o. refl)) step)

    append_turn : RollMade kept.bound running.job next state (AppendName ∷ []) → RollTurn AppendName
    append_turn (m, is, temporary, held, being, unmoved) left fits None step =
        append_name s running state after one cuts kept made parts m is temporary held unmoved being (Rolls SyncTemporary) (map Rolls (behind_roll SyncTemporary)) (behind_roll SyncTemporary) left
        (subst (λ (c : Change). DiskStep state c (as_answer None) after) (at_manifest AppendName m is (λ n. Append (Temp n) (current_of n)) (λ o. refl)) step)
    append_turn (m, is, temporary, held, being, unmoved) left fits (Some fault) step =
        append_name_failed s running state after one cuts kept made parts m is temporary held unmoved being fault
        (subst (λ (c : Change). DiskStep state c (as_answer (Some fault)) after) (at_manifest AppendName m is (λ n. Append (Temp n) (current_of n)) (λ o. refl)) step)

    ready_turn : RollMade kept.bound running.job next state (SyncTemporary ∷ []) → RollTurn SyncTemporary
    ready_turn (m, is, temporary, held, being, unmoved) left fits None step =
        sync_temporary s running state after one cuts kept made parts m is temporary held unmoved being (Rolls Rename) (map Rolls (behind_roll Rename)) (behind_roll Rename) left
        (subst (λ (c : Change). DiskStep state c (as_answer None) after) (at_manifest SyncTemporary m is (λ n. Sync (Temp n)) (λ o. refl)) step)
    ready_turn (m, is, temporary, held, being, unmoved) left fits (Some fault) step =
        sync_temporary_failed s running state after one cuts kept made parts m is temporary held unmoved being fault
        (subst (λ (c : Change). DiskStep state c (as_answer (Some fault)) after) (at_manifest SyncTemporary m is (λ n. Sync (Temp n)) (λ o. refl)) step)

    move_turn : RollMade kept.bound running.job next state (Rename ∷ []) → RollTurn Rename
    move_turn (m, is, temporary_is, held, temporary, unmoved) left fits None step =
        move_on s running state after one kept made parts (gives parts) m is held temporary unmoved (Rolls SyncDirectory) [] [] left
        (subst (λ (c : Change). DiskStep state c (as_answer None) after) (at_manifest Rename m is (λ n. RenameFile (Temp n) Current) (λ o. refl)) step)
    move_turn (m, is, temporary_is, held, temporary, unmoved) left fits (Some fault) step =
        move_failed s running state after one kept made parts (gives parts) m is held temporary unmoved fault
        (subst (λ (c : Change). DiskStep state c (as_answer (Some fault)) after) (at_manifest Rename m is (λ n. RenameFile (Temp n) Current) (λ o. refl)) step)

    last_turn : RollMade kept.bound running.job next state (SyncDirectory ∷ []) → RollTurn SyncDirectory
    last_turn (m, is, held, current) left fits None step = clears s running state after one kept made parts (gives parts) m held current is step
    last_turn (m, is, held, current) left fits (Some fault) step = last_failed s state after one kept running.job fault step

    roll_turn : (asked : RollCall) → RollMade kept.bound running.job next state (asked ∷ []) → RollTurn asked
    roll_turn MakeManifest so = manifest_turn so
    roll_turn AppendEdit so = edit_turn so
    roll_turn SyncManifest so = firm_turn so
    roll_turn MakeTemporary so = temporary_turn so
    roll_turn AppendName so = append_turn so
    roll_turn SyncTemporary so = ready_turn so
    roll_turn Rename so = move_turn so
    roll_turn SyncDirectory so = last_turn so

    -- what a roll has made is told by its next call alone
    made_next : (asked : RollCall) (left : List RollCall) → RollMade kept.bound running.job next state (asked ∷ left) → RollMade kept.bound running.job next state (asked ∷ [])
    made_next MakeManifest left so = so
    made_next AppendEdit left so = so
    made_next SyncManifest left so = so
    made_next MakeTemporary left so = so
    made_next AppendName left so = so
    made_next SyncTemporary left so = so
    made_next Rename left so = so
    made_next SyncDirectory left so = so

  -- ---- any turn

  turn_as : (act other : Act) (later others : List Act) → act ∷ later ≡ other ∷ others → Turn other others → Turn act later
  turn_as act other later others same turn = subst (λ (a : Act). Turn a later) (sym (heads same)) (subst (λ (l : List Act). Turn other l) (sym (tails same)) turn)

  tables_turn : (at : AtTables kept.bound running.job state) (rest : List Draft) → at.rest ≡ rest → (act : Act) (later : List Act) → left_of running.job ≡ act ∷ later → Turn act later
  tables_turn at [] rest_is act later left = turn_as act MakeLog later (SyncLogName ∷ roll_acts) (sym left ∙ (at.left_is ∙ ap plan_of rest_is)) (log_turn at rest_is)
  tables_turn at (draft ∷ rest) rest_is act later left =
      turn_as act MakeTable later (map AddPiece (pieces_in draft) ++ SyncTable ∷ plan_of rest) (sym left ∙ (at.left_is ∙ (ap plan_of rest_is ∙ plan_cons draft rest))) (table_turn at draft rest rest_is)

  in_turn : (in_ : InTable kept.bound running.job state) (todo : List (List ℕ)) → in_.todo ≡ todo → (act : Act) (later : List Act) → left_of running.job ≡ act ∷ later → Turn act later
  in_turn in_ [] todo_is act later left =
      turn_as act SyncTable later (plan_of in_.rest) (sym left ∙ (in_.left_is ∙ ap (λ t. map AddPiece t ++ SyncTable ∷ plan_of in_.rest) todo_is)) (table_sync_turn in_ todo_is)
  in_turn in_ (piece ∷ todo) todo_is act later left =
      turn_as act (AddPiece piece) later (map AddPiece todo ++ SyncTable ∷ plan_of in_.rest) (sym left ∙ (in_.left_is ∙ ap (λ t. map AddPiece t ++ SyncTable ∷ plan_of in_.rest) todo_is)) (piece_turn in_ piece todo todo_is)

  rolls_turn : (parts : AreAllFixed kept.bound running.job next state) (rolls : List RollCall) → left_of running.job ≡ map Rolls rolls → RollMade kept.bound running.job next state rolls
      → (act : Act) (later : List Act) → left_of running.job ≡ act ∷ later → Turn act later
  rolls_turn parts [] is so act later left = absurd so
  rolls_turn parts (asked ∷ rolls) is so act later left =
      turn_as act (Rolls asked) later (map Rolls (behind_roll asked)) (sym left ∙ (is ∙ ap (λ l. Rolls asked ∷ l) (follows_left running.job (Rolls asked) (map Rolls rolls) is)))
      (roll_turn parts asked (made_next parts asked rolls so))

  pub each_turn : (act : Act) (later : List Act) → left_of running.job ≡ act ∷ later → Turn act later
  each_turn act later left =
      elim made.stage [
        | inl at ↦ tables_turn at at.rest refl act later left
        | inr (inl in_) ↦ in_turn in_ in_.todo refl act later left
        | inr (inr (inl at)) ↦ turn_as act SyncLogName later roll_acts (sym left ∙ at.left_is) (name_turn at)
        | inr (inr (inr at)) ↦ rolls_turn at.parts at.rolls at.left_is at.made act later left
      ]
