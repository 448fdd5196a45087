-- A group's call, answered Ok or failed, keeps what the store's logs hold.
use Rattle.std.specs.Prelude.{is_some}
use Rattle.std.proofs.Common.{◌≡◌, ⊎_elim, ℕ, Bool, true, false, List, [], ◌∷◌, ◌^◌, ◌<◌, Option, Some, None, refl, sym, ap, subst, ◌∙◌}
use Rattle.keel_base.specs.declared.failure.Failure.{Failure}
use Rattle.keel_base.specs.declared.failure.Fault.{Fault}
use Rattle.keel_disk.specs.State.{State as Disk}
use Rattle.keel_disk.specs.Sound.{IsOneToOne}
use Rattle.keel_disk.specs.Step.{DiskStep}
use Rattle.keel_disk.specs.Steady.{CutsExist}
use Rattle.keel_machine.specs.Admission.{stopping}
use Rattle.keel_machine.specs.States.{State, SegmentLog, Group, Act, CloseLog, MakeLog, SyncDirectory, AddRecords, SyncLog, left_of}
use Rattle.keel_machine.specs.Writing.{change_of}
use Rattle.keel_machine.specs.WritingAfter.{switched, first_done, group_done, first_failed, group_failed, failure_of, noted}
use Rattle.keel_machine.proofs.Stopping.{log_failure_stops}
use Rattle.keel_recovery.specs.Chains.{IsWholeLog}
use Rattle.keel_recovery.specs.Machine.{calls_from_append, AwaitsAppend, AwaitsSync, HoldsBy, HasLog, IsStoredIn, IsStored}
use Rattle.keel_recovery.proofs.Acting.{add_done, add_published, sync_done}
use Rattle.keel_recovery.proofs.Switching.{close_done, make_done, sync_dir_done}
use Rattle.keel_recovery.proofs.Failing.{make_failed, sync_dir_failed, add_failed, sync_failed}
use Rattle.keel_recovery.proofs.Ordering.{went_well, went_wrong, drop_next}

pub first_act : (left : List Act) (act first : Act) (later others : List Act) → left ≡ act ∷ later → left ≡ first ∷ others → act ≡ first
first_act left act first later others e k = cc

-- what the logs hold, where that stops writes
abbrev pub StoredAt : Option Failure → Disk → State → Type 0
StoredAt stops state s = IsStoredIn state s.levels s.story s.segments s.writing.waiting stops s.jobs.write.running s.numbers s.jobs.flush.running

module _ (s : State) (group : Group) (log : SegmentLog) (before after : Disk) (one : IsOneToOne before) (cuts : CutsExist before) (halts : Option Failure) (below : (later : List Act) → left_of group ≡ MakeLog ∷ later → s.numbers.next_file < 2 ^ 56) where
  abbrev state_in : State
  state_in = record s { segments = record s.segments { active = record s.segments.active { log = Some log } } }

  abbrev group_in : Option ℕ → Group
  group_in drawn = record group { progress = record group.progress { log = drawn } }

  abbrev left : List Act
  left = left_of group

  abbrev Before : Option ℕ → Type 0
  Before drawn = HasLog log before s.levels s.story s.segments.immutable s.segments.active.batches s.writing.waiting halts (Some (group_in drawn)) s.numbers.next_file s.numbers.in_tables s.jobs.flush.running s.numbers.manifest

  -- ---- Ok

  abbrev Step : Option ℕ → Act → Type 0
  Step drawn act = DiskStep before (change_of state_in (group_in drawn) act) went_well after

  abbrev Behind : Option ℕ → List Act → Type 0
  Behind drawn calls = StoredAt halts after (first_done (group_in drawn) calls state_in)

  close_case : (act : Act) (later : List Act) → left ≡ act ∷ later → Before None → Step None act → AwaitsAppend s.story (CloseLog ∷ MakeLog ∷ SyncDirectory ∷ []) left → Behind None left
  close_case act later e h step awaits =
      let is = first_act left act CloseLog later (MakeLog ∷ SyncDirectory ∷ calls_from_append awaits.sync) e awaits.left_is in
      subst (Behind None) (sym awaits.left_is) (close_done s group log before after one cuts halts h awaits (subst (Step None) is step))

  make_case : (act : Act) (later : List Act) → left ≡ act ∷ later → (h : Before None) → Step None act → AwaitsAppend s.story (MakeLog ∷ SyncDirectory ∷ []) left × IsWholeLog h.own before → Behind None left
  make_case act later e h step awaits =
      let is = first_act left act MakeLog later (SyncDirectory ∷ calls_from_append awaits.0.sync) e awaits.0.left_is in
      subst (Behind None) (sym awaits.0.left_is) (make_done s group log before after one cuts halts (below (SyncDirectory ∷ calls_from_append awaits.0.sync) awaits.0.left_is) h awaits.0 awaits.1 (subst (Step None) is step))

  sync_dir_case : (number : ℕ) (act : Act) (later : List Act) → left ≡ act ∷ later → (h : Before (Some number)) → Step (Some number) act → Behind (Some number) left
  sync_dir_case number act later e h step =
      let awaits = h.order.1.0 in
      let is = first_act left act SyncDirectory later (calls_from_append awaits.sync) e awaits.left_is in
      subst (Behind (Some number)) (sym awaits.left_is) (sync_dir_done s group log before after one cuts halts number h (subst (Step (Some number)) is step))

  add_calls : (sync : Bool) → left ≡ calls_from_append sync → (h : Before None) → AwaitsAppend s.story [] left → Step None AddRecords → Behind None (calls_from_append sync)
  add_calls true left_is h awaits step =
      add_done s group log before after one cuts halts h awaits.none_in_limbo (drop_next group.progress.made group.plan AddRecords (SyncLog ∷ []) left_is) step
  add_calls false left_is h awaits step = add_published s group log before after one cuts halts h awaits.none_in_limbo step

  add_case : (act : Act) (later : List Act) → left ≡ act ∷ later → Before None → Step None act → AwaitsAppend s.story [] left → Behind None left
  add_case act later e h step awaits =
      let is = first_act left act AddRecords later _ e awaits.left_is in
      subst (Behind None) (sym awaits.left_is) (add_calls awaits.sync awaits.left_is h awaits (subst (Step None) is step))

  sync_case : (act : Act) (later : List Act) → left ≡ act ∷ later → Before None → Step None act → AwaitsSync group.batches left → Behind None left
  sync_case act later e h step awaits =
      let is = first_act left act SyncLog later [] e awaits.left_is in
      subst (Behind None) (sym awaits.left_is) (sync_done s group log before after one cuts halts h awaits.all_handed (subst (Step None) is step))

  pub done_at : (drawn : Option ℕ) (act : Act) (later : List Act) → left ≡ act ∷ later
      → HasLog log before s.levels s.story s.segments.immutable s.segments.active.batches s.writing.waiting halts (Some (group_in drawn)) s.numbers.next_file s.numbers.in_tables s.jobs.flush.running s.numbers.manifest
      → Step drawn act → StoredAt halts after (first_done (group_in drawn) left state_in)
  done_at None act later e h step =
      ⊎_elim (λ writes. ⊎_elim (add_case act later e h step) (sync_case act later e h step) writes)
      (λ changes. ⊎_elim (close_case act later e h step) (make_case act later e h step) changes) h.order.1
  done_at (Some number) act later e h step = sync_dir_case number act later e h step

  -- ---- failed

  module _ (fault : Fault) (failure : Failure) (stops_then : Option Failure) (severe : is_some stops_then ≡ true) where
    abbrev Fails : Option ℕ → Act → Type 0
    Fails drawn act = DiskStep before (change_of state_in (group_in drawn) act) (went_wrong fault) after

    abbrev Failed : Option ℕ → List Act → Type 0
    Failed drawn calls = StoredAt stops_then after (first_failed (group_in drawn) calls failure state_in)

    close_fails : (act : Act) (later : List Act) → left ≡ act ∷ later → Before None → Fails None act → AwaitsAppend s.story (CloseLog ∷ MakeLog ∷ SyncDirectory ∷ []) left → Failed None left
    close_fails act later e h step awaits =
        let is = first_act left act CloseLog later (MakeLog ∷ SyncDirectory ∷ calls_from_append awaits.sync) e awaits.left_is in
        subst (Failed None) (sym awaits.left_is) (sync_failed s group log before after one cuts halts fault stops_then severe h (subst (Fails None) is step))

    make_fails : (act : Act) (later : List Act) → left ≡ act ∷ later → (h : Before None) → Fails None act → AwaitsAppend s.story (MakeLog ∷ SyncDirectory ∷ []) left × IsWholeLog h.own before → Failed None left
    make_fails act later e h step awaits =
        let is = first_act left act MakeLog later (SyncDirectory ∷ calls_from_append awaits.0.sync) e awaits.0.left_is in
        subst (Failed None) (sym awaits.0.left_is) (make_failed s group log before after one cuts halts fault stops_then severe (below (SyncDirectory ∷ calls_from_append awaits.0.sync) awaits.0.left_is) h (subst (Fails None) is step))

    sync_dir_fails : (number : ℕ) (act : Act) (later : List Act) → left ≡ act ∷ later → (h : Before (Some number)) → Fails (Some number) act → Failed (Some number) left
    sync_dir_fails number act later e h step =
        let awaits = h.order.1.0 in
        let is = first_act left act SyncDirectory later (calls_from_append awaits.sync) e awaits.left_is in
        subst (Failed (Some number)) (sym awaits.left_is) (sync_dir_failed s group log before after one cuts halts fault stops_then severe number h (subst (Fails (Some number)) is step))

    add_fails : (act : Act) (later : List Act) → left ≡ act ∷ later → Before None → Fails None act → AwaitsAppend s.story [] left → Failed None left
    add_fails act later e h step awaits =
        let is = first_act left act AddRecords later _ e awaits.left_is in
        subst (Failed None) (sym awaits.left_is) (add_failed s group log before after one cuts halts fault stops_then severe h awaits.none_in_limbo (subst (Fails None) is step))

    sync_fails : (act : Act) (later : List Act) → left ≡ act ∷ later → Before None → Fails None act → AwaitsSync group.batches left → Failed None left
    sync_fails act later e h step awaits =
        let is = first_act left act SyncLog later [] e awaits.left_is in
        subst (Failed None) (sym awaits.left_is) (sync_failed s group log before after one cuts halts fault stops_then severe h (subst (Fails None) is step))

    pub failed_at : (drawn : Option ℕ) (act : Act) (later : List Act) → left ≡ act ∷ later
        → HasLog log before s.levels s.story s.segments.immutable s.segments.active.batches s.writing.waiting halts (Some (group_in drawn)) s.numbers.next_file s.numbers.in_tables s.jobs.flush.running s.numbers.manifest
        → Fails drawn act → StoredAt stops_then after (first_failed (group_in drawn) left failure state_in)
    failed_at None act later e h step =
        ⊎_elim (λ writes. ⊎_elim (add_fails act later e h step) (sync_fails act later e h step) writes)
        (λ changes. ⊎_elim (close_fails act later e h step) (make_fails act later e h step) changes) h.order.1
    failed_at (Some number) act later e h step = sync_dir_fails number act later e h step

-- ---- with the segment's log, which is there

module _ (s : State) (group : Group) (before after : Disk) (one : IsOneToOne before) (cuts : CutsExist before) (act : Act) (later : List Act) (next : left_of group ≡ act ∷ later) (below : (rest : List Act) → left_of group ≡ MakeLog ∷ rest → s.numbers.next_file < 2 ^ 56) where
  abbrev state_with : Option SegmentLog → State
  state_with o = record s { segments = record s.segments { active = record s.segments.active { log = o } } }

  pub done_by : (stops : Option Failure) (o : Option SegmentLog)
      → HoldsBy o before s.levels s.story s.segments.immutable s.segments.active.batches s.writing.waiting stops (Some group) s.numbers.next_file s.numbers.in_tables s.jobs.flush.running s.numbers.manifest
      → DiskStep before (change_of (state_with o) group act) went_well after → StoredAt stops after (first_done group (left_of group) (state_with o))
  done_by stops None h step = absurd h
  done_by stops (Some log) h step = done_at s group log before after one cuts stops below group.progress.log act later next h step

  pub failed_by : (fault : Fault) (failure : Failure) (stops_then : Option Failure) → is_some stops_then ≡ true → (stops : Option Failure) (o : Option SegmentLog)
      → HoldsBy o before s.levels s.story s.segments.immutable s.segments.active.batches s.writing.waiting stops (Some group) s.numbers.next_file s.numbers.in_tables s.jobs.flush.running s.numbers.manifest
      → DiskStep before (change_of (state_with o) group act) (went_wrong fault) after → StoredAt stops_then after (first_failed group (left_of group) failure (state_with o))
  failed_by fault failure stops_then severe stops None h step = absurd h
  failed_by fault failure stops_then severe stops (Some log) h step = failed_at s group log before after one cuts stops below fault failure stops_then severe group.progress.log act later next h step

-- ---- the failures

switched_stops : (drawn : Option ℕ) (s : State) → stopping (switched drawn s) ≡ stopping s
switched_stops None s = refl
switched_stops (Some number) s = refl

stops_done : (group : Group) (left : List Act) (s : State) → stopping (first_done group left s) ≡ stopping s
stops_done group [] s = refl
stops_done group (CloseLog ∷ []) s = refl
stops_done group (CloseLog ∷ next ∷ later) s = refl
stops_done group (MakeLog ∷ []) s = refl
stops_done group (MakeLog ∷ next ∷ later) s = refl
stops_done group (SyncDirectory ∷ []) s = switched_stops group.progress.log s
stops_done group (SyncDirectory ∷ next ∷ later) s = switched_stops group.progress.log s
stops_done group (AddRecords ∷ []) s = refl
stops_done group (AddRecords ∷ next ∷ later) s = refl
stops_done group (SyncLog ∷ []) s = refl
stops_done group (SyncLog ∷ next ∷ later) s = refl

stops_failed : (group : Group) (act : Act) (later : List Act) (failure : Failure) (s : State) → stopping (first_failed group (act ∷ later) failure s) ≡ stopping (noted failure s)
stops_failed group CloseLog later failure s = refl
stops_failed group MakeLog later failure s = refl
stops_failed group SyncDirectory later failure s = refl
stops_failed group AddRecords later failure s = refl
stops_failed group SyncLog later failure s = refl

-- ---- with the state whole

pub group_done_stored : (s : State) (group : Group) (act : Act) (later : List Act) → s.jobs.write.running ≡ Some group → left_of group ≡ act ∷ later → ((rest : List Act) → left_of group ≡ MakeLog ∷ rest → s.numbers.next_file < 2 ^ 56) → (before after : Disk) → IsOneToOne before → CutsExist before
    → IsStored before s → DiskStep before (change_of s group act) went_well after → IsStored after (group_done s.jobs.write.running s)
group_done_stored s group act later runs next below before after one cuts h step =
    let next_state = first_done group (left_of group) s in
    let at : StoredAt (stopping s) after next_state =
    done_by s group before after one cuts act later next below (stopping s) s.segments.active.log
    (subst (λ (running : Option Group). IsStoredIn before s.levels s.story s.segments s.writing.waiting (stopping s) running s.numbers s.jobs.flush.running) runs h) step in
    subst (λ (running : Option Group). IsStored after (group_done running s)) (sym runs) (subst (λ (o : Option Failure). StoredAt o after next_state) (sym (stops_done group (left_of group) s)) at)

pub group_failed_stored : (s : State) (group : Group) (act : Act) (later : List Act) (fault : Fault) → s.jobs.write.running ≡ Some group → left_of group ≡ act ∷ later
    → ((rest : List Act) → left_of group ≡ MakeLog ∷ rest → s.numbers.next_file < 2 ^ 56) → (before after : Disk) → IsOneToOne before → CutsExist before → IsStored before s → DiskStep before (change_of s group act) (went_wrong fault) after
    → IsStored after (group_failed s.jobs.write.running (failure_of fault) s)
group_failed_stored s group act later fault runs next below before after one cuts h step =
    let failure = failure_of fault in
    let next_state = first_failed group (left_of group) failure s in
    let stops : stopping next_state ≡ stopping (noted failure s) =
    subst (λ (calls : List Act). stopping (first_failed group calls failure s) ≡ stopping (noted failure s)) (sym next) (stops_failed group act later failure s) in
    let severe : is_some (stopping next_state) ≡ true = ap is_some stops ∙ log_failure_stops s fault in
    let at : StoredAt (stopping next_state) after next_state =
    failed_by s group before after one cuts act later next below fault failure (stopping next_state) severe (stopping s) s.segments.active.log
    (subst (λ (running : Option Group). IsStoredIn before s.levels s.story s.segments s.writing.waiting (stopping s) running s.numbers s.jobs.flush.running) runs h) step in
    subst (λ (running : Option Group). IsStored after (group_failed running failure s)) (sym runs) at
