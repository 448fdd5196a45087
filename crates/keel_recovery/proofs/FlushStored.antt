-- A flush's call, answered Ok or failed, keeps what the store's logs hold: with the state whole.
use Rattle.std.specs.Prelude.{is_some}
use Rattle.std.proofs.Common.{◌≡◌, inl, inr, ⊎_elim, ℕ, ◌^◌, ◌<◌, ◌≤◌, true, List, [], ◌∷◌, ◌++◌, length, map, drop, Option, Some, None, refl, sym, ap, subst, ◌∙◌, arith}
use Rattle.keel_base.specs.declared.failure.Failure.{Failure}
use Rattle.keel_base.specs.declared.failure.Fault.{Fault}
use Rattle.keel_base.specs.declared.file_name.FileName.TheVariants.{Table}
use Rattle.keel_base.specs.declared.op.Op.{Op}
use Rattle.keel_disk.specs.declared.change.Change.{Change}
use Rattle.keel_disk.specs.declared.change.Change.TheVariants.{Append, Sync}
use Rattle.keel_disk.specs.Sound.{IsOneToOne}
use Rattle.keel_disk.specs.State.{State as Disk}
use Rattle.keel_disk.specs.Step.{DiskStep}
use Rattle.keel_disk.specs.Steady.{CutsExist}
use Rattle.keel_draft.specs.Drafts.{Draft, IsDraftOf}
use Rattle.keel_flush.specs.Plans.{Act, AddPiece, MakeTable, SyncTable, SyncName, AppendEdit, SyncManifest, Job, change_of, edit_acts, failure_of, job_of, left_of, plan_of}
use Rattle.keel_machine.specs.Admission.{stopping}
use Rattle.keel_machine.specs.Flushing.{IsNewTable, batches_of_first, first_done, first_failed, first_log, flush_started, log_in}
use Rattle.keel_machine.specs.States.{State, SegmentLog, Segment}
use Rattle.keel_machine.specs.WritingAfter.{noted}
use Rattle.keel_machine.proofs.Stopping.{manifest_failure_stops}
use Rattle.keel_recovery.specs.Chains.{Chained}
use Rattle.keel_recovery.specs.Flushes.{AtSync, FlushesBy, HasMade, HasTable, InTable, IsBeforeEdit, IsReady}
use Rattle.keel_recovery.specs.Machine.{AreFull, HasLog, HoldsBy, IsStored}
use Rattle.keel_recovery.proofs.FlushStops.{less_stopped}
use Rattle.keel_recovery.proofs.FlushSteps.{first_act, number_is}
use Rattle.keel_recovery.proofs.FlushTurns.{append_done, append_failed, end_done, end_failed, make_done, make_failed, name_done, name_failed, piece_done, piece_failed, sync_done, sync_failed}
use Rattle.keel_recovery.proofs.Grouping.{StoredAt}
use Rattle.keel_recovery.proofs.Ordering.{went_well, went_wrong}

-- ---- calls are left

record HasSome (acts : List Act) : Type 0 where
  first : Act
  rest : List Act
  is : acts ≡ first ∷ rest

some_later : (todo : List (List ℕ)) → HasSome (map AddPiece todo ++ SyncTable ∷ edit_acts)
some_later [] = record { first = SyncTable; rest = edit_acts; is = refl }
some_later (piece ∷ todo) = record { first = AddPiece piece; rest = map AddPiece todo ++ SyncTable ∷ edit_acts; is = refl }

-- a failure of this act stops writes: it is one of the manifest
abbrev pub IsSevereAct : Act → Option Failure → Type 0
IsSevereAct AppendEdit later = is_some later ≡ true
IsSevereAct SyncManifest later = is_some later ≡ true
IsSevereAct act later = Unit {0}

module _ (s : State) (job : Job) (log : SegmentLog) (before after : Disk) (one : IsOneToOne before) (cuts : CutsExist before) (numbered : 1 ≤ s.numbers.next_file) (below : (rest : List Act) → left_of job ≡ MakeTable ∷ rest → s.numbers.next_file < 2 ^ 56)
    (stops : Option Failure) (h : HasLog log before s.levels s.story s.segments.immutable s.segments.active.batches s.writing.waiting stops s.jobs.write.running s.numbers.next_file s.numbers.in_tables (Some job) s.numbers.manifest)
    (act : Act) (later : List Act) (next_is : left_of job ≡ act ∷ later) where
  abbrev state_in : State
  state_in = record s { segments = record s.segments { active = record s.segments.active { log = Some log } } }

  abbrev left : List Act
  left = left_of job

  abbrev asked : Act → Change
  asked = change_of job s.numbers.next_file s.numbers.manifest

  -- ---- Ok

  abbrev Step : Act → Type 0
  Step call = DiskStep before (asked call) went_well after

  abbrev Done : List Act → Type 0
  Done acts = StoredAt stops after (first_done job acts state_in)

  module _ (step : Step act) where
    plan_done : (b : IsReady h.way s.numbers.manifest before) → left ≡ plan_of job.draft → Done left
    plan_done ready is =
        let some = some_later _ in
        subst Done (sym is)
        (subst (λ (l : List Act). Done (MakeTable ∷ l)) (sym some.is)
        (make_done s log job stops before after one cuts numbered h ready is (below _ is) (subst Step (first_act left act MakeTable later _ next_is is) step)))

    piece_case : (ready : IsReady h.way s.numbers.manifest before) (number : ℕ) (has : HasTable h.way s.levels job s.numbers.next_file number) (in_ : InTable job number before) (todo : List (List ℕ)) → in_.todo ≡ todo → Done (map AddPiece todo ++ SyncTable ∷ edit_acts)
    piece_case ready number has in_ [] none =
        let is = in_.left_is ∙ ap (λ (l : List (List ℕ)). map AddPiece l ++ SyncTable ∷ edit_acts) none in
        let there = subst (λ (n : ℕ). DiskStep before (Sync (Table n)) went_well after) (number_is job number has.is) (subst Step (first_act left act SyncTable later edit_acts next_is is) step) in
        sync_done s log job stops before after one cuts numbered h ready number has in_ none there
    piece_case ready number has in_ (piece ∷ todo) some =
        let is = in_.left_is ∙ ap (λ (l : List (List ℕ)). map AddPiece l ++ SyncTable ∷ edit_acts) some in
        let there = subst (λ (n : ℕ). DiskStep before (Append (Table n) piece) went_well after) (number_is job number has.is) (subst Step (first_act left act (AddPiece piece) later _ next_is is) step) in
        let more = some_later todo in
        subst (λ (l : List Act). Done (AddPiece piece ∷ l)) (sym more.is) (piece_done s log job stops before after one cuts numbered h ready number has in_ piece todo some there)

    made_done : (ready : IsReady h.way s.numbers.manifest before) (number : ℕ) → HasTable h.way s.levels job s.numbers.next_file number → HasMade job number before → Done left
    made_done ready number has (inl in_) = subst Done (sym in_.left_is) (piece_case ready number has in_ in_.todo refl)
    made_done ready number has (inr (inl at)) =
        subst Done (sym at.left_is) (name_done s log job stops before after one cuts numbered h ready number has at (subst Step (first_act left act SyncName later (AppendEdit ∷ SyncManifest ∷ []) next_is at.left_is) step))
    made_done ready number has (inr (inr at)) =
        subst Done (sym at.left_is) (append_done s log job stops before after one cuts numbered h ready number has at (subst Step (first_act left act AppendEdit later (SyncManifest ∷ []) next_is at.left_is) step))

    pub done_at : Done left
    done_at = ⊎_elim
        (λ (b : IsBeforeEdit h.way s.levels job s.numbers.next_file s.numbers.manifest before). ⊎_elim (λ plan. plan_done b.ready plan) (λ made. made_done b.ready made.0 made.1 made.2) b.stage)
        (λ (at : AtSync h.way s.levels job s.numbers.next_file s.numbers.manifest before).
        subst Done (sym at.left_is) (end_done s log job stops before after one cuts numbered h at (subst Step (first_act left act SyncManifest later [] next_is at.left_is) step)))
        h.flushes.goes.stage

  -- ---- failed

  module _ (fault : Fault) (failure : Failure) (then : Option Failure) (less : then ≡ None → stops ≡ None) (severe : IsSevereAct act then) (step : DiskStep before (asked act) (went_wrong fault) after) where
    abbrev Fails : Act → Type 0
    Fails call = DiskStep before (asked call) (went_wrong fault) after

    abbrev Failed : List Act → Type 0
    Failed acts = StoredAt then after (first_failed job acts failure state_in)

    plan_fails : (b : IsReady h.way s.numbers.manifest before) → left ≡ plan_of job.draft → Failed left
    plan_fails ready is =
        subst Failed (sym is) (make_failed s log job stops before after one cuts numbered h ready is (below _ is) fault then less (subst Fails (first_act left act MakeTable later _ next_is is) step))

    piece_fails : (ready : IsReady h.way s.numbers.manifest before) (number : ℕ) (has : HasTable h.way s.levels job s.numbers.next_file number) (in_ : InTable job number before) (todo : List (List ℕ)) → in_.todo ≡ todo → Failed (map AddPiece todo ++ SyncTable ∷ edit_acts)
    piece_fails ready number has in_ [] none =
        let is = in_.left_is ∙ ap (λ (l : List (List ℕ)). map AddPiece l ++ SyncTable ∷ edit_acts) none in
        let there = subst (λ (n : ℕ). DiskStep before (Sync (Table n)) (went_wrong fault) after) (number_is job number has.is) (subst Fails (first_act left act SyncTable later edit_acts next_is is) step) in
        sync_failed s log job stops before after one cuts numbered h ready number has in_ fault then less there
    piece_fails ready number has in_ (piece ∷ todo) some =
        let is = in_.left_is ∙ ap (λ (l : List (List ℕ)). map AddPiece l ++ SyncTable ∷ edit_acts) some in
        let there = subst (λ (n : ℕ). DiskStep before (Append (Table n) piece) (went_wrong fault) after) (number_is job number has.is) (subst Fails (first_act left act (AddPiece piece) later _ next_is is) step) in
        piece_failed s log job stops before after one cuts numbered h ready number has in_ piece fault then less there

    made_fails : (ready : IsReady h.way s.numbers.manifest before) (number : ℕ) → HasTable h.way s.levels job s.numbers.next_file number → HasMade job number before → Failed left
    made_fails ready number has (inl in_) = subst Failed (sym in_.left_is) (piece_fails ready number has in_ in_.todo refl)
    made_fails ready number has (inr (inl at)) =
        subst Failed (sym at.left_is) (name_failed s log job stops before after one cuts numbered h ready number has at fault then less (subst Fails (first_act left act SyncName later (AppendEdit ∷ SyncManifest ∷ []) next_is at.left_is) step))
    made_fails ready number has (inr (inr at)) =
        let same = first_act left act AppendEdit later (SyncManifest ∷ []) next_is at.left_is in
        subst Failed (sym at.left_is) (append_failed s log job stops before after one cuts numbered h ready number has at fault then (subst (λ (a : Act). IsSevereAct a then) same severe) (subst Fails same step) _)

    pub failed_at : Failed left
    failed_at = ⊎_elim
        (λ (b : IsBeforeEdit h.way s.levels job s.numbers.next_file s.numbers.manifest before). ⊎_elim (λ plan. plan_fails b.ready plan) (λ made. made_fails b.ready made.0 made.1 made.2) b.stage)
        (λ (at : AtSync h.way s.levels job s.numbers.next_file s.numbers.manifest before).
        let same = first_act left act SyncManifest later [] next_is at.left_is in
        subst Failed (sym at.left_is) (end_failed s log job stops before after one cuts numbered h at fault then (subst (λ (a : Act). IsSevereAct a then) same severe) (subst Fails same step) _))
        h.flushes.goes.stage

-- ---- with the segment's log, which is there

module _ (s : State) (job : Job) (before after : Disk) (one : IsOneToOne before) (cuts : CutsExist before) (numbered : 1 ≤ s.numbers.next_file) (below : (rest : List Act) → left_of job ≡ MakeTable ∷ rest → s.numbers.next_file < 2 ^ 56)
    (act : Act) (later : List Act) (next_is : left_of job ≡ act ∷ later) where
  abbrev state_with : Option SegmentLog → State
  state_with o = record s { segments = record s.segments { active = record s.segments.active { log = o } } }

  done_by : (stops : Option Failure) (o : Option SegmentLog)
      → HoldsBy o before s.levels s.story s.segments.immutable s.segments.active.batches s.writing.waiting stops s.jobs.write.running s.numbers.next_file s.numbers.in_tables (Some job) s.numbers.manifest
      → DiskStep before (change_of job s.numbers.next_file s.numbers.manifest act) went_well after → StoredAt stops after (first_done job (left_of job) (state_with o))
  done_by stops None h step = absurd h
  done_by stops (Some log) h step = done_at s job log before after one cuts numbered below stops h act later next_is step

  failed_by : (fault : Fault) (failure : Failure) (then stops : Option Failure) → (then ≡ None → stops ≡ None) → IsSevereAct act then → (o : Option SegmentLog)
      → HoldsBy o before s.levels s.story s.segments.immutable s.segments.active.batches s.writing.waiting stops s.jobs.write.running s.numbers.next_file s.numbers.in_tables (Some job) s.numbers.manifest
      → DiskStep before (change_of job s.numbers.next_file s.numbers.manifest act) (went_wrong fault) after → StoredAt then after (first_failed job (left_of job) failure (state_with o))
  failed_by fault failure then stops less severe None h step = absurd h
  failed_by fault failure then stops less severe (Some log) h step = failed_at s job log before after one cuts numbered below stops h act later next_is fault failure then less severe step

-- ---- with the state whole

stops_done : (job : Job) (left : List Act) (s : State) → stopping (first_done job left s) ≡ stopping s
stops_done job [] s = refl
stops_done job (act ∷ []) s = refl
stops_done job (act ∷ next ∷ later) s = refl

stops_failed : (job : Job) (act : Act) (later : List Act) (failure : Failure) (s : State) → stopping (first_failed job (act ∷ later) failure s) ≡ stopping (noted failure s)
stops_failed job act later failure s = refl

pub flush_done_stored : (s : State) (job : Job) (act : Act) (later : List Act) → s.jobs.flush.running ≡ Some job → left_of job ≡ act ∷ later → 1 ≤ s.numbers.next_file → ((rest : List Act) → left_of job ≡ MakeTable ∷ rest → s.numbers.next_file < 2 ^ 56)
    → (before after : Disk) → IsOneToOne before → CutsExist before → IsStored before s → DiskStep before (change_of job s.numbers.next_file s.numbers.manifest act) went_well after → IsStored after (first_done job (left_of job) s)
flush_done_stored s job act later runs next_is numbered below before after one cuts h step =
    let held = subst (λ (flush : Option Job). HoldsBy s.segments.active.log before s.levels s.story s.segments.immutable s.segments.active.batches s.writing.waiting (stopping s) s.jobs.write.running s.numbers.next_file s.numbers.in_tables flush s.numbers.manifest) runs h in
    subst (λ (o : Option Failure). StoredAt o after (first_done job (left_of job) s)) (sym (stops_done job (left_of job) s))
    (done_by s job before after one cuts numbered below act later next_is (stopping s) s.segments.active.log held step)

-- a failure of the manifest stops writes
severe_act : (s : State) (act : Act) (fault : Fault) → IsSevereAct act (stopping (noted (failure_of act fault) s))
severe_act s MakeTable fault = tt
severe_act s (AddPiece bytes) fault = tt
severe_act s SyncTable fault = tt
severe_act s SyncName fault = tt
severe_act s AppendEdit fault = manifest_failure_stops s fault
severe_act s SyncManifest fault = manifest_failure_stops s fault

pub flush_failed_stored : (s : State) (job : Job) (act : Act) (later : List Act) (fault : Fault) → s.jobs.flush.running ≡ Some job → left_of job ≡ act ∷ later → 1 ≤ s.numbers.next_file → ((rest : List Act) → left_of job ≡ MakeTable ∷ rest → s.numbers.next_file < 2 ^ 56)
    → (before after : Disk) → IsOneToOne before → CutsExist before → IsStored before s → DiskStep before (change_of job s.numbers.next_file s.numbers.manifest act) (went_wrong fault) after
    → IsStored after (first_failed job (left_of job) (failure_of act fault) s)
flush_failed_stored s job act later fault runs next_is numbered below before after one cuts h step =
    let failure = failure_of act fault in
    let held = subst (λ (flush : Option Job). HoldsBy s.segments.active.log before s.levels s.story s.segments.immutable s.segments.active.batches s.writing.waiting (stopping s) s.jobs.write.running s.numbers.next_file s.numbers.in_tables flush s.numbers.manifest) runs h in
    let stops : stopping (first_failed job (left_of job) failure s) ≡ stopping (noted failure s) = ap (λ (l : List Act). stopping (first_failed job l failure s)) next_is in
    subst (λ (o : Option Failure). StoredAt o after (first_failed job (left_of job) failure s)) (sym stops)
    (failed_by s job before after one cuts numbered below act later next_is fault failure (stopping (noted failure s)) (stopping s) (less_stopped s failure) (severe_act s act fault) s.segments.active.log held step)

-- ---- a flush begins

-- the first full segment and the one behind it, by their logs
record Starts (immutable : List Segment) (full : List Chained) (own : Chained) (log : SegmentLog) : Type 0 where
  first : Chained
  next : Chained
  rest : List Chained
  logs_are : full ++ own ∷ [] ≡ first ∷ next ∷ rest
  batches_are : first.batches ≡ batches_of_first immutable
  next_is : log_in (drop 1 immutable) (Some log) ≡ next.number

starts : (immutable : List Segment) (full : List Chained) (own : Chained) (log : SegmentLog) → AreFull immutable full → own.number ≡ log.number → 1 ≤ length immutable → Starts immutable full own log
starts [] full own log are same some = absurd (omega (arith, some))
starts (segment ∷ immutable) [] own log are same some = absurd are
starts (segment ∷ []) (first ∷ []) own log are same some = record { first = first; next = own; rest = []; logs_are = refl; batches_are = are.1; next_is = sym same }
starts (segment ∷ []) (first ∷ second ∷ full) own log are same some = absurd are.2
starts (segment ∷ other ∷ immutable) (first ∷ []) own log are same some = absurd are.2
starts (segment ∷ other ∷ immutable) (first ∷ second ∷ full) own log are same some = record {
  first = first;
  next = second;
  rest = full ++ own ∷ [];
  logs_are = refl;
  batches_are = are.1;
  next_is = ap first_log are.2.0;
}

begun_log : (log : SegmentLog) (state : Disk) (s : State) (draft : Draft) → stopping s ≡ None → 1 ≤ length s.segments.immutable → IsNewTable s draft
    → HasLog log state s.levels s.story s.segments.immutable s.segments.active.batches s.writing.waiting (stopping s) s.jobs.write.running s.numbers.next_file s.numbers.in_tables None s.numbers.manifest
    → HasLog log state s.levels s.story s.segments.immutable s.segments.active.batches s.writing.waiting (stopping s) s.jobs.write.running s.numbers.next_file s.numbers.in_tables (Some (job_of (log_in (drop 1 s.segments.immutable) (Some log)) draft)) s.numbers.manifest
begun_log log state s draft none some new h =
    let at = starts s.segments.immutable h.full h.own log h.are_full h.number_is some in
    let ready : IsReady h.way s.numbers.manifest state = subst (λ (stops : Option Failure). FlushesBy None stops h.way s.levels s.numbers.in_tables (h.full ++ h.own ∷ []) s.numbers.next_file s.numbers.manifest state) none h.flushes.goes in
    record {
      way = h.way;
      place = h.place;
      full = h.full;
      are_full = h.are_full;
      own = h.own;
      number_is = h.number_is;
      batches_are = h.batches_are;
      keeps = h.keeps;
      reach = h.reach;
      tables_to = h.tables_to;
      flushes = record {
        in_use = h.flushes.in_use;
        most = h.flushes.most;
        goes = record {
          first = at.first;
          next = at.next;
          rest = at.rest;
          logs_are = at.logs_are;
          draft = subst (λ (batches : List (List Op)). IsDraftOf s.numbers.in_tables batches draft) (sym at.batches_are) new.is;
          some = subst (λ (batches : List (List Op)). 1 ≤ length batches) (sym at.batches_are) new.some;
          min_log = at.next_is;
          few = new.few;
          stage = inl (record { ready = ready; stage = inl refl });
        };
      };
      order = h.order;
    }

-- with the log that it has
begun_by : (o : Option SegmentLog) (state : Disk) (s : State) (draft : Draft) → stopping s ≡ None → 1 ≤ length s.segments.immutable → IsNewTable s draft
    → HoldsBy o state s.levels s.story s.segments.immutable s.segments.active.batches s.writing.waiting (stopping s) s.jobs.write.running s.numbers.next_file s.numbers.in_tables None s.numbers.manifest
    → HoldsBy o state s.levels s.story s.segments.immutable s.segments.active.batches s.writing.waiting (stopping s) s.jobs.write.running s.numbers.next_file s.numbers.in_tables (Some (job_of (log_in (drop 1 s.segments.immutable) o) draft)) s.numbers.manifest
begun_by None state s draft none some new h = absurd h
begun_by (Some log) state s draft none some new h = begun_log log state s draft none some new h

pub begun_stored : (state : Disk) (s : State) (draft : Draft) → stopping s ≡ None → 1 ≤ length s.segments.immutable → IsNewTable s draft → s.jobs.flush.running ≡ None → IsStored state s → IsStored state (flush_started draft s)
begun_stored state s draft none some new runs h =
    begun_by s.segments.active.log state s draft none some new
    (subst (λ (flush : Option Job). HoldsBy s.segments.active.log state s.levels s.story s.segments.immutable s.segments.active.batches s.writing.waiting (stopping s) s.jobs.write.running s.numbers.next_file s.numbers.in_tables flush s.numbers.manifest) runs h)
