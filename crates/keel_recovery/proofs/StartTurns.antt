-- A resume that is asked for leaves the device covered: it makes no call.
use Rattle.std.proofs.Common.{◌≡◌, inl, inr, ℕ, zero, suc, ◌+◌, ◌≤◌, ◌==◌, ◌||◌, ◌&&◌, not, nat_le, Bool, true, false, if◌then◌else◌, List, [], ◌∷◌, ◌++◌, Option, Some, None, refl, sym, ap, subst, ◌∙◌, arith, eqb-true}
use Rattle.std.specs.Prelude.{is_some, nat_lt, unwrap_or}
use Rattle.std.proofs.lemmas.Bool.{le-leb, ltb-true, ltb-false}
use Rattle.keel_base.specs.declared.failure.Counter.TheVariants.{JobNumber}
use Rattle.keel_base.specs.declared.failure.Failure.{Failure}
use Rattle.keel_base.specs.declared.op.Op.{Op}
use Rattle.keel_directory.specs.TableFiles.{TableFile}
use Rattle.keel_disk.specs.Seen.{Seen}
use Rattle.keel_disk.specs.State.{State as Disk}
use Rattle.keel_flush.specs.Plans.{Job as FlushJob}
use Rattle.keel_group.specs.Queue.{Ticketed}
use Rattle.keel_handler.specs.Failures.{severity as severity_of, first_worst, standing_of, standing_severity, where_severe}
use Rattle.keel_manifest.specs.State.{ManifestState}
use Rattle.keel_machine.specs.declared.answers.Start.{Start}
use Rattle.keel_machine.specs.declared.answers.Start.TheVariants as start
use Rattle.keel_machine.specs.Admission.{standing, stopping}
use Rattle.keel_machine.specs.Flushing.{is_work_stopped}
use Rattle.keel_machine.specs.Starting.{StartAnswers, beyond, forgotten, group_turned, is_number_spent, is_resuming, job_started, severity, start_after}
use Rattle.keel_machine.specs.States.{State, Phase, Shut, Booting, Open, Closing, Group, Resumption, Segment, SegmentLog, Story, is_closing, is_left, with_device}
use Rattle.keel_machine.specs.Tests.{first_some, when}
use Rattle.keel_recovery.specs.BootCalls.{BootKept, RunsSo}
use Rattle.keel_recovery.specs.Flushes.{FlushesBy}
use Rattle.keel_recovery.specs.Machine.{HoldsBy, IsCovered, KeptBy, WhileItGoes}
use Rattle.keel_recovery.proofs.Covered.{as_it_is, quiet_keeps}
use Rattle.keel_recovery.proofs.StillStopped.{severe_is}

never : {P : Type 0} → true ≡ false → P
never e = cc

-- ---- the tests of an answer

-- without a test that held
record NoneHeld (work resuming one : Bool) (hard : Option Start) : Type 0 where
  work_is : work ≡ true
  resuming_is : resuming ≡ false
  hard_is : hard ≡ None
  one_is : one ≡ false

-- behind the test whether the store was closed
not_closed : (closing : Bool) (rest : List (Option Start)) (other answer : Start) → (answer ≡ start.Closing → ⊥) → answer ≡ unwrap_or (first_some (when closing start.Closing ∷ rest)) other
    → (closing ≡ false) × (answer ≡ unwrap_or (first_some rest) other)
not_closed true rest other answer differs is = absurd (differs is)
not_closed false rest other answer differs is = (refl, is)

started_by : (work resuming one spent : Bool) (number severe next job : ℕ) (failure : Option Failure)
    → start.Started job ≡ unwrap_or (first_some (when (not work) start.Nothing ∷ when resuming (start.Busy number) ∷ beyond severe failure ∷ when one start.Cleared ∷ when spent (start.Spent JobNumber) ∷ [])) (start.Started next)
    → NoneHeld work resuming one (beyond severe failure)
started_by false resuming one spent number severe next job failure is = cc
started_by true true one spent number severe next job failure is = cc
started_by true false true spent number severe next job None is = cc
started_by true false false spent number severe next job None is = record { work_is = refl; resuming_is = refl; hard_is = refl; one_is = refl }
started_by true false one spent number severe next job (Some failure) is =
    elim (nat_le 3 severe)
    as (λ hard. start.Started job ≡ unwrap_or (first_some (when hard (start.Beyond failure) ∷ when one start.Cleared ∷ when spent (start.Spent JobNumber) ∷ [])) (start.Started next)
    → NoneHeld true false one (when hard (start.Beyond failure))) [
      | true ↦ λ beyond_it. cc
      | false ↦ λ soft. by one soft
    ] is
  where
    by : (one : Bool) → start.Started job ≡ unwrap_or (first_some (when one start.Cleared ∷ when spent (start.Spent JobNumber) ∷ [])) (start.Started next) → NoneHeld true false one None
    by true is = cc
    by false is = record { work_is = refl; resuming_is = refl; hard_is = refl; one_is = refl }

-- of one that clears at once the severity is 1, and no job is under way
cleared_by : (work resuming one spent : Bool) (number severe next : ℕ) (failure : Option Failure)
    → start.Cleared ≡ unwrap_or (first_some (when (not work) start.Nothing ∷ when resuming (start.Busy number) ∷ beyond severe failure ∷ when one start.Cleared ∷ when spent (start.Spent JobNumber) ∷ [])) (start.Started next)
    → (resuming ≡ false) × (one ≡ true)
cleared_by false resuming one spent number severe next failure is = cc
cleared_by true true one spent number severe next failure is = cc
cleared_by true false true spent number severe next failure is = (refl, refl)
cleared_by true false false true number severe next None is = cc
cleared_by true false false false number severe next None is = cc
cleared_by true false false spent number severe next (Some failure) is =
    elim (nat_le 3 severe)
    as (λ hard. start.Cleared ≡ unwrap_or (first_some (when hard (start.Beyond failure) ∷ when false start.Cleared ∷ when spent (start.Spent JobNumber) ∷ [])) (start.Started next) → (false ≡ false) × (false ≡ true)) [
      | true ↦ λ beyond_it. cc
      | false ↦ λ soft. by spent soft
    ] is
  where
    by : (spent : Bool) → start.Cleared ≡ unwrap_or (first_some (when spent (start.Spent JobNumber) ∷ [])) (start.Started next) → (false ≡ false) × (false ≡ true)
    by true is = cc
    by false is = cc

-- ---- severities

-- an error that stands is one
stands_bad : (paranoid : Bool) (failures : List Failure) → is_some (standing_of paranoid failures) ≡ true → 1 ≤ standing_severity paranoid (standing_of paranoid failures)
stands_bad paranoid [] some = never (sym some)
stands_bad paranoid (front ∷ failures) some = by (standing_of paranoid failures) (stands_bad paranoid failures) some
  where
    by : (behind : Option Failure) → (is_some behind ≡ true → 1 ≤ standing_severity paranoid behind) → is_some (first_worst paranoid front behind) ≡ true → 1 ≤ standing_severity paranoid (first_worst paranoid front behind)
    by None bad some =
        elim (nat_lt 0 (severity_of paranoid front))
        as (λ b. nat_lt 0 (severity_of paranoid front) ≡ b → is_some (if b then Some front else None) ≡ true → 1 ≤ standing_severity paranoid (if b then Some front else None)) [
          | true ↦ λ is here. omega (arith, ltb-true 0 (severity_of paranoid front) is)
          | false ↦ λ is here. never (sym here)
        ] refl some
    by (Some other) bad some =
        elim (nat_lt (severity_of paranoid front) (severity_of paranoid other))
        as (λ b. nat_lt (severity_of paranoid front) (severity_of paranoid other) ≡ b → 1 ≤ standing_severity paranoid (if b then Some other else Some front)) [
          | true ↦ λ less. bad refl
          | false ↦ λ more. omega (arith, bad refl, ltb-false (severity_of paranoid front) (severity_of paranoid other) more)
        ] refl

-- work is stopped by an error that stands
work_by : (paranoid auto : Bool) (standing_ : Option Failure) → (is_some (where_severe paranoid standing_) || (is_some standing_ && not auto)) ≡ true → is_some standing_ ≡ true
work_by paranoid auto None is = never (sym is)
work_by paranoid auto (Some failure) is = refl

-- where a resume is started writes are stopped
started_stops : (s : State) (job : ℕ) → StartAnswers s (start.Started job) → (is_some (stopping s) ≡ true) × (is_resuming s ≡ false) × (is_closing s.mode.phase ≡ false)
started_stops s job is =
    let first = not_closed (is_closing s.mode.phase) _ (start.Started (s.jobs.resume.number + 1)) (start.Started job) (λ e. cc) is in
    let held = started_by (is_work_stopped s) (is_resuming s) (severity s == 1) (is_number_spent s.jobs) s.jobs.resume.number (severity s) (s.jobs.resume.number + 1) job (standing s) first.1 in
    let some = work_by s.options.paranoid s.options.auto (standing s) held.work_is in
    let bad : 1 ≤ severity s = stands_bad s.options.paranoid s.failing.failures some in
    let two : 2 ≤ severity s = over (severity s) bad held.one_is in
    (severe_is s.options.paranoid (standing s) ∙ le-leb 2 (severity s) two, held.resuming_is, first.0)
  where
    over : (severe : ℕ) → 1 ≤ severe → (severe == 1) ≡ false → 2 ≤ severe
    over zero some not_one = absurd (omega (arith, some))
    over (suc zero) some not_one = never not_one
    over (suc (suc n)) some not_one = omega arith

cleared_soft : (s : State) → StartAnswers s start.Cleared → (is_some (stopping s) ≡ false) × (is_resuming s ≡ false)
cleared_soft s is =
    let first = not_closed (is_closing s.mode.phase) _ (start.Started (s.jobs.resume.number + 1)) start.Cleared (λ e. cc) is in
    let held = cleared_by (is_work_stopped s) (is_resuming s) (severity s == 1) (is_number_spent s.jobs) s.jobs.resume.number (severity s) (s.jobs.resume.number + 1) (standing s) first.1 in
    (severe_is s.options.paranoid (standing s) ∙ ap (nat_le 2) (eqb-true (severity s) 1 held.1), held.0)

none_of_it : (o : Option Failure) → is_some o ≡ false → o ≡ None
none_of_it None is = refl
none_of_it (Some failure) is = never is

-- nothing was asked for, and no job runs
idle_of : (asked : Bool) (running : Option Resumption) → (asked || is_some running) ≡ false → (asked ≡ false) × (running ≡ None)
idle_of true running is = never is
idle_of false None is = (refl, refl)
idle_of false (Some running) is = never is

-- ---- what is kept

-- while writes are stopped, and without a group, nothing is asked of the last log; and without a flush nothing of the manifest
stopped_log : (stops : Option Failure) (goes : Type 0) → is_some stops ≡ true → WhileItGoes None stops goes
stopped_log None goes stopped = never (sym stopped)
stopped_log (Some failure) goes stopped = tt

still_log : (log : Option SegmentLog) (state : Disk) (levels : List TableFile) (story : Story) (immutable : List Segment) (batches : List (List Op)) (waiting : List Ticketed) (stops : Option Failure) (running : Option Group)
    (next_file in_tables : ℕ) (flush : Option FlushJob) (manifest : ManifestState) → is_some stops ≡ true → HoldsBy log state levels story immutable batches waiting stops running next_file in_tables flush manifest
    → HoldsBy log state levels story immutable batches waiting stops None next_file in_tables None manifest
still_log None state levels story immutable batches waiting stops running next_file in_tables flush manifest stopped h = h
still_log (Some log) state levels story immutable batches waiting stops running next_file in_tables flush manifest stopped h = record {
  way = h.way;
  place = h.place;
  full = h.full;
  are_full = h.are_full;
  own = h.own;
  number_is = h.number_is;
  batches_are = h.batches_are;
  keeps = h.keeps;
  reach = h.reach;
  tables_to = h.tables_to;
  flushes = record { in_use = h.flushes.in_use; most = h.flushes.most; goes = by stops stopped };
  order = stopped_log stops _ stopped;
}
  where
    by : (stops : Option Failure) → is_some stops ≡ true → FlushesBy None stops h.way levels in_tables (h.full ++ h.own ∷ []) next_file manifest state
    by None stopped = never (sym stopped)
    by (Some failure) stopped = tt

-- a store of which a job may make calls later
boot_started : (s : State) (state : Disk) (device : Seen) (failure : Failure) → BootKept s state → BootKept (with_device device (job_started (group_turned (Some failure) s))) state
boot_started s state device failure k = record {
  bound = k.bound;
  old = k.old;
  booting = k.booting;
  floor_within = k.floor_within;
  numbered = k.numbered;
  bare = k.bare;
  facts = k.facts;
  runs = tt;
  none_active = k.none_active;
  waits = k.waits;
  no_group = refl;
  no_flush = refl;
}

started_kept : (s : State) (device : Seen) (failure : Failure) (phase : Phase) (left : Bool) (state : Disk) → is_some (stopping s) ≡ true → is_resuming s ≡ false → is_closing phase ≡ false → KeptBy phase left state s
    → KeptBy phase left state (with_device device (job_started (group_turned (Some failure) s)))
started_kept s device failure Shut false state stopped idle stays h = h
started_kept s device failure Shut true state stopped idle stays h = h
started_kept s device failure Closing left state stopped idle stays h = never stays
started_kept s device failure Booting left state stopped idle stays h =
    record { one_to_one = h.one_to_one; cuts = h.cuts; kept = boot_started s state device failure h.kept; none_waits = h.none_waits }
started_kept s device failure Open left state stopped idle stays (inr h) =
    inr (record { one_to_one = h.one_to_one; cuts = h.cuts; kept = boot_started s state device failure h.kept; stopped = stopped })
started_kept s device failure Open left state stopped idle stays (inl h) = inl (record {
  one_to_one = h.one_to_one;
  cuts = h.cuts;
  uncut = h.uncut;
  listed = h.listed;
  numbered = h.numbered;
  none_boots = refl;
  calm = λ started. record { no_group = refl; no_flush = refl; stopped = stopped };
  waits = h.waits;
  stored = still_log s.segments.active.log state s.levels s.story s.segments.immutable s.segments.active.batches s.writing.waiting (stopping s) s.jobs.write.running
      s.numbers.next_file s.numbers.in_tables s.jobs.flush.running s.numbers.manifest stopped h.stored;
})

boot_forgets : (s : State) (state : Disk) (device : Seen) → s.jobs.resume.running ≡ None → BootKept s state → BootKept (with_device device (forgotten s)) state
boot_forgets s state device idle k = record {
  bound = k.bound;
  old = k.old;
  booting = k.booting;
  floor_within = k.floor_within;
  numbered = k.numbered;
  bare = k.bare;
  facts = k.facts;
  runs = subst (λ (running : Option Resumption). RunsSo k.bound (with_device device (forgotten s)) running state) (sym idle) tt;
  none_active = k.none_active;
  waits = k.waits;
  no_group = k.no_group;
  no_flush = k.no_flush;
}

forgets_kept : (s : State) (device : Seen) (phase : Phase) (left : Bool) (state : Disk) → is_some (stopping s) ≡ false → is_resuming s ≡ false → KeptBy phase left state s → KeptBy phase left state (with_device device (forgotten s))
forgets_kept s device Shut false state soft idle h = h
forgets_kept s device Shut true state soft idle h = h
forgets_kept s device Booting left state soft idle h =
    record { one_to_one = h.one_to_one; cuts = h.cuts; kept = boot_forgets s state device (idle_of s.jobs.started s.jobs.resume.running idle).1 h.kept; none_waits = h.none_waits }
forgets_kept s device Closing left state soft idle h = record {
  left = h.left;
  bears = record { tables = h.bears.tables; said = h.bears.said; says = h.bears.says };
  none_waits = h.none_waits;
  no_group = h.no_group;
  no_boot = h.no_boot;
  unstarted = h.unstarted;
}
forgets_kept s device Open left state soft idle (inr h) = never (sym h.stopped ∙ soft)
forgets_kept s device Open left state soft idle (inl h) = inl (record {
  one_to_one = h.one_to_one;
  cuts = h.cuts;
  uncut = h.uncut;
  listed = h.listed;
  numbered = h.numbered;
  none_boots = h.none_boots;
  calm = λ started. never (sym started ∙ (idle_of s.jobs.started s.jobs.resume.running idle).0);
  waits = h.waits;
  stored = subst (λ (stops : Option Failure). HoldsBy s.segments.active.log state s.levels s.story s.segments.immutable s.segments.active.batches s.writing.waiting stops s.jobs.write.running
      s.numbers.next_file s.numbers.in_tables s.jobs.flush.running s.numbers.manifest) (none_of_it (stopping s) soft) h.stored;
})

-- ---- the turn

started_keeps : (s : State) (job : ℕ) (device : Seen) → StartAnswers s (start.Started job) → device.told ≡ s.device.told → IsCovered s → IsCovered (with_device device (start_after s (start.Started job)))
started_keeps s job device a same h = by (standing s) refl
  where
    stops : (is_some (stopping s) ≡ true) × (is_resuming s ≡ false) × (is_closing s.mode.phase ≡ false)
    stops = started_stops s job a

    by : (failure : Option Failure) → standing s ≡ failure → IsCovered (with_device device (job_started (group_turned failure s)))
    by None none = never (sym stops.0 ∙ ap (λ (o : Option Failure). is_some (where_severe s.options.paranoid o)) none)
    by (Some failure) is =
        quiet_keeps s (with_device device (job_started (group_turned (Some failure) s))) refl same
        (λ state kept. started_kept s device failure s.mode.phase (is_left s.mode.left) state stops.0 stops.1 stops.2 kept) h

pub start_keeps : (s : State) (answer : Start) (device : Seen) → StartAnswers s answer → device.told ≡ s.device.told → IsCovered s → IsCovered (with_device device (start_after s answer))
start_keeps s start.Closing device a same h = as_it_is s device same h
start_keeps s start.Nothing device a same h = as_it_is s device same h
start_keeps s (start.Busy job) device a same h = as_it_is s device same h
start_keeps s (start.Beyond failure) device a same h = as_it_is s device same h
start_keeps s (start.Spent counter) device a same h = as_it_is s device same h
start_keeps s (start.Started job) device a same h = started_keeps s job device a same h
start_keeps s start.Cleared device a same h =
    let soft = cleared_soft s a in
    quiet_keeps s (with_device device (forgotten s)) refl same (λ state kept. forgets_kept s device s.mode.phase (is_left s.mode.left) state soft.0 soft.1 kept) h
