-- A write step, and a batch that is queued, leave the device covered.
use Rattle.std.proofs.Common.{◌≡◌, ℕ, ◌+◌, ◌^◌, ◌<◌, ◌≤◌, Bool, true, false, List, [], ◌∷◌, ◌++◌, length, Option, Some, None, is_some, refl, sym, ap, subst, inl, inr, ◌∙◌, ltb-false, arith}
use Rattle.keel_base.specs.declared.failure.Counter.TheVariants.{Sequence}
use Rattle.keel_base.specs.declared.failure.Failure.{Failure}
use Rattle.keel_base.specs.declared.failure.Fault.{Fault}
use Rattle.keel_base.specs.declared.op.Batch.{Batch}
use Rattle.keel_batch.specs.Batches.{AreBatches}
use Rattle.keel_disk.specs.State.{State as Disk}
use Rattle.keel_disk.specs.Step.{DiskStep}
use Rattle.keel_disk.specs.Seen.{Seen}
use Rattle.keel_disk.proofs.Staying.{GivesNames, one_stays, cuts_stay}
use Rattle.keel_machine.specs.declared.answers.Admit.{Admit}
use Rattle.keel_machine.specs.declared.answers.Admit.TheVariants as admit
use Rattle.keel_machine.specs.declared.steps.WriteStep.{WriteStep}
use Rattle.keel_machine.specs.declared.steps.WriteStep.TheVariants as step
use Rattle.keel_machine.specs.Admission.{AdmitAnswers, batches_of_group, ops_of, size_refusal, refusals, refusal, seq_with, is_sequence_spent, stopping, queued, admit_after}
use Rattle.keel_machine.specs.Outside.{as_answer}
use Rattle.keel_machine.specs.States.{State, Phase, Shut, Booting, Open, Closing, is_open, is_left, is_booting, is_closing, Mode, Resumption, Group, Act, CloseLog, MakeLog, SyncDirectory, AddRecords, SyncLog, left_of, point_of, with_device}
use Rattle.keel_machine.specs.Writing.{started, started_or, ready, write_rest, change_of}
use Rattle.keel_machine.specs.WritingAfter.{WriteAnswers, MadeCall, call_done, call_failed, failure_of, queue_turned, write_after}
use Rattle.keel_machine.proofs.FirstTests.{none_some, none_mapped, none_when, none_of}
use Rattle.keel_group.specs.Queue.{Ticketed}
use Rattle.keel_draft.specs.Drafts.{count_ops}
use Rattle.keel_recovery.specs.BootCalls.{BootKept, RunsSo}
use Rattle.keel_recovery.specs.Machine.{IsCalm, IsKept, KeptBy, IsCovered}
use Rattle.keel_recovery.proofs.Listing.{TakesNone, listed_stays}
use Rattle.keel_recovery.proofs.NoCuts.{CutsNothing, no_cuts_stay}
use Rattle.keel_recovery.specs.Waiting.{ops_waiting}
use Rattle.keel_recovery.proofs.Ordering.{went_well, went_wrong}
use Rattle.keel_recovery.proofs.Covered.{covered_by, open_covered, quiet_keeps, as_it_is, called_by}
use Rattle.keel_recovery.proofs.Grouping.{group_done_stored, group_failed_stored}
use Rattle.keel_recovery.proofs.Sizes.{IsWithinLimits, sizes_within}
use Rattle.keel_recovery.proofs.Turning.{none_while_stopped, ready_keeps, number_below, turned_keeps, queued_keeps}
use Rattle.keel_recovery.proofs.Unchanged.{IsUnmoved, unmoved_on, unmoved_ready, unmoved_done, unmoved_failed}
use Rattle.keel_recovery.proofs.WaitingOn.{done_waits, failed_waits, queued_waits, ready_waits}

-- ---- a write step

pub ready_file : (s : State) → (ready s).numbers.next_file ≡ s.numbers.next_file
ready_file s = by s.jobs.write.running
  where
    by_waiting : (waiting : List Ticketed) → (started waiting s).numbers.next_file ≡ s.numbers.next_file
    by_waiting [] = refl
    by_waiting (first ∷ rest) = refl

    by : (running : Option Group) → (started_or running s).numbers.next_file ≡ s.numbers.next_file
    by None = by_waiting s.writing.waiting
    by (Some group) = refl

-- where nobody waits, and no group is in flight, no call of one is made
pub no_group_made : {P : Type 0} (s : State) (group : Group) → s.writing.waiting ≡ [] → s.jobs.write.running ≡ None → (ready s).jobs.write.running ≡ Some group → P
no_group_made s group none_waits none runs =
    let first : (started_or None s).jobs.write.running ≡ Some group = subst (λ (running : Option Group). (started_or running s).jobs.write.running ≡ Some group) none runs in
    let second : (started [] s).jobs.write.running ≡ Some group = subst (λ (waiting : List Ticketed). (started waiting s).jobs.write.running ≡ Some group) none_waits first in
    let no : Some group ≡ None = sym second ∙ none in
    none_some group no

-- the queue is turned away of a store that boots, or that a resume took over
turned_boot : (state : Disk) (s : State) (failure : Failure) (device : Seen) → BootKept s state → BootKept (with_device device (queue_turned failure s)) state
turned_boot state s failure device k = record {
  bound = k.bound;
  old = k.old;
  booting = k.booting;
  floor_within = k.floor_within;
  facts = k.facts;
  runs = by s.jobs.resume.running k.runs;
  none_active = k.none_active;
  waits = tt;
  no_group = k.no_group;
  no_flush = k.no_flush;
  numbered = k.numbered;
  bare = k.bare;
}
  where
    by : (running : Option Resumption) → RunsSo k.bound s running state → RunsSo k.bound (with_device device (queue_turned failure s)) running state
    by None r = r
    by (Some running) r = record {
      tables = record { are = r.tables.are; some = r.tables.some; few = r.tables.few };
      live_is = r.live_is;
      unstarted = r.unstarted;
      last_is = r.last_is;
      rising = r.rising;
      over = r.over;
      stage = r.stage;
    }

ready_kept : (state : Disk) (s : State) (held : Option ℕ) → write_rest s held ≡ None → IsKept state s → IsKept state (ready s)
ready_kept state s held none h =
    let same = unmoved_ready s.jobs.write.running s in
    record {
      one_to_one = h.one_to_one;
      cuts = h.cuts;
      uncut = h.uncut;
      listed = h.listed;
      numbered = omega (arith, h.numbered, same.files);
      none_boots = same.resume ∙ h.none_boots;
      calm = λ is. let c = h.calm (sym same.started ∙ is) in none_while_stopped s held none c.no_group c.stopped;
      waits = ready_waits s.jobs.write.running s h.waits;
      stored = ready_keeps state s held none h.stored;
    }

-- a store whose group makes a call is one that writes
pub kept_open : (phase : Phase) (left : Bool) (state : Disk) (s : State) (held : Option ℕ) (group : Group) → write_rest s held ≡ None → is_open phase ≡ true → (ready s).jobs.write.running ≡ Some group → KeptBy phase left state s → (phase ≡ Open) × IsKept state s
kept_open Shut left state s held group none is runs h = cc
kept_open Booting left state s held group none is runs h = no_group_made s group h.none_waits h.kept.no_group runs
kept_open Closing left state s held group none is runs h = no_group_made s group h.none_waits h.no_group runs
kept_open Open left state s held group none is runs (inl h) = (refl, h)
kept_open Open left state s held group none is runs (inr h) = none_while_stopped s held none h.kept.no_group h.stopped

kept_by : (m : Mode) (state : Disk) (n : State) → m.phase ≡ Open → IsKept state n → KeptBy m.phase (is_left m.left) state n
kept_by m state n is h = subst (λ (phase : Phase). KeptBy phase (is_left m.left) state n) (sym is) (inl h)

made_keeps : (s next : State) (held : Option ℕ) (group : Group) (act : Act) (later : List Act) (failed : Option Fault) → MadeCall s held group act later failed next.device
    → is_open s.mode.phase ≡ true → next.mode ≡ s.mode → next.footing ≡ s.footing
    → ((before behind : Disk) → IsKept before (ready s) → DiskStep before (change_of (ready s) group act) (as_answer failed) behind → IsKept behind next)
    → IsCovered s → IsCovered next
made_keeps s next held group act later failed made is mode footing keep h =
    open_covered s next footing (called_by s.footing s.device.told next.device.told (change_of (ready s) group act) failed s next
    (λ before behind kept step.
    let writes = kept_open s.mode.phase (is_left s.mode.left) before s held group made.makes.no_rest is made.makes.group_is kept in
    kept_by next.mode behind next (ap (λ (m : Mode). m.phase) mode ∙ writes.0) (keep before behind (ready_kept before s held made.makes.no_rest writes.1) step))
    made.calls.step (covered_by s h))

-- a log that is made has a name of the store
pub gives_names : (s : State) (held : Option ℕ) (group : Group) (act : Act) (later : List Act) (failed : Option Fault) (device : Seen) → MadeCall s held group act later failed device
    → 1 ≤ (ready s).numbers.next_file → GivesNames (change_of (ready s) group act)
gives_names s held group CloseLog later failed device made least = tt
gives_names s held group MakeLog later failed device made least =
    let below = number_below s held group later made.makes.no_rest made.makes.group_is made.makes.next in
    record { least = least; most = omega (arith, below, ready_file s) }
gives_names s held group SyncDirectory later failed device made least = tt
gives_names s held group AddRecords later failed device made least = tt
gives_names s held group SyncLog later failed device made least = tt

-- the number of a log that is made is below the end
pub below_of : (s : State) (held : Option ℕ) (group : Group) (rest : List Act) → write_rest s held ≡ None → (ready s).jobs.write.running ≡ Some group → left_of group ≡ MakeLog ∷ rest → (ready s).numbers.next_file < 2 ^ 56
below_of s held group rest none runs left = omega (arith, ready_file s, number_below s held group rest none runs left)

-- no call of a group is a cut
pub group_cuts : (s : State) (group : Group) (act : Act) → CutsNothing (change_of s group act)
group_cuts s group CloseLog = tt
group_cuts s group MakeLog = tt
group_cuts s group SyncDirectory = tt
group_cuts s group AddRecords = tt
group_cuts s group SyncLog = tt

-- nor does it take a name away
group_takes : (s : State) (group : Group) (act : Act) (state : Disk) → TakesNone (change_of s group act) state
group_takes s group CloseLog state = tt
group_takes s group MakeLog state = tt
group_takes s group SyncDirectory state = tt
group_takes s group AddRecords state = tt
group_takes s group SyncLog state = tt

-- while a group is in flight no resume is asked for
none_asked : {P : Type 0} (s next : State) (group : Group) → s.jobs.write.running ≡ Some group → next.jobs.started ≡ s.jobs.started → (s.jobs.started ≡ true → IsCalm s) → next.jobs.started ≡ true → P
none_asked s next group runs same calm is = none_some group (sym runs ∙ (calm (sym same ∙ is)).no_group)

done_unmoved : (s : State) → IsUnmoved s (call_done s)
done_unmoved s = unmoved_on s (ready s) (call_done s) (unmoved_ready s.jobs.write.running s) (unmoved_done (ready s).jobs.write.running (ready s))

failed_unmoved : (s : State) (failure : Failure) → IsUnmoved s (call_failed failure s)
failed_unmoved s failure = unmoved_on s (ready s) (call_failed failure s) (unmoved_ready s.jobs.write.running s) (unmoved_failed (ready s).jobs.write.running failure (ready s))

done_keeps : (s : State) (held : Option ℕ) (group : Group) (act : Act) (later : List Act) (device : Seen) → MadeCall s held group act later None device
    → is_open s.mode.phase ≡ true → IsCovered s → IsCovered (with_device device (call_done s))
done_keeps s held group act later device made is h =
    made_keeps s (with_device device (call_done s)) held group act later None made is (done_unmoved s).mode (done_unmoved s).footing
    (λ before behind kept step. record {
      one_to_one = one_stays (change_of (ready s) group act) went_well before behind (gives_names s held group act later None device made kept.numbered) kept.one_to_one step;
      cuts = cuts_stay (change_of (ready s) group act) went_well before behind kept.one_to_one kept.cuts step;
      uncut = no_cuts_stay (change_of (ready s) group act) went_well before behind (group_cuts (ready s) group act) kept.uncut step;
      listed = listed_stays (change_of (ready s) group act) went_well before behind (group_takes (ready s) group act before) kept.listed step;
      numbered = omega (arith, kept.numbered, (unmoved_done (ready s).jobs.write.running (ready s)).files);
      none_boots = (unmoved_done (ready s).jobs.write.running (ready s)).resume ∙ kept.none_boots;
      calm = none_asked (ready s) (with_device device (call_done s)) group made.makes.group_is (unmoved_done (ready s).jobs.write.running (ready s)).started kept.calm;
      waits = done_waits before (ready s) group made.makes.group_is kept.stored kept.waits;
      stored = group_done_stored (ready s) group act later made.makes.group_is made.makes.next (λ rest left. below_of s held group rest made.makes.no_rest made.makes.group_is left) before behind kept.one_to_one kept.cuts kept.stored step;
    }) h

failed_keeps : (s : State) (held : Option ℕ) (failure : Failure) (group : Group) (act : Act) (later : List Act) (fault : Fault) (device : Seen) → failure ≡ failure_of fault
    → MadeCall s held group act later (Some fault) device → is_open s.mode.phase ≡ true → IsCovered s → IsCovered (with_device device (call_failed failure s))
failed_keeps s held failure group act later fault device failure_is made is h =
    subst (λ (f : Failure). IsCovered (with_device device (call_failed f s))) (sym failure_is)
    (made_keeps s (with_device device (call_failed (failure_of fault) s)) held group act later (Some fault) made is (failed_unmoved s (failure_of fault)).mode (failed_unmoved s (failure_of fault)).footing
    (λ before behind kept step. record {
      one_to_one = one_stays (change_of (ready s) group act) (went_wrong fault) before behind (gives_names s held group act later (Some fault) device made kept.numbered) kept.one_to_one step;
      cuts = cuts_stay (change_of (ready s) group act) (went_wrong fault) before behind kept.one_to_one kept.cuts step;
      uncut = no_cuts_stay (change_of (ready s) group act) (went_wrong fault) before behind (group_cuts (ready s) group act) kept.uncut step;
      listed = listed_stays (change_of (ready s) group act) (went_wrong fault) before behind (group_takes (ready s) group act before) kept.listed step;
      numbered = omega (arith, kept.numbered, (unmoved_failed (ready s).jobs.write.running (failure_of fault) (ready s)).files);
      none_boots = (unmoved_failed (ready s).jobs.write.running (failure_of fault) (ready s)).resume ∙ kept.none_boots;
      calm = none_asked (ready s) (with_device device (call_failed (failure_of fault) s)) group made.makes.group_is (unmoved_failed (ready s).jobs.write.running (failure_of fault) (ready s)).started kept.calm;
      waits = failed_waits (ready s).jobs.write.running (failure_of fault) (ready s) kept.waits;
      stored = group_failed_stored (ready s) group act later fault made.makes.group_is made.makes.next (λ rest left. below_of s held group rest made.makes.no_rest made.makes.group_is left) before behind kept.one_to_one kept.cuts kept.stored step;
    }) h)

-- ---- the queue

turned_kept : (phase : Phase) (left : Bool) (state : Disk) (s : State) (failure : Failure) (device : Seen) → KeptBy phase left state s → KeptBy phase left state (with_device device (queue_turned failure s))
turned_kept Shut false state s failure device h = h
turned_kept Shut true state s failure device h = h
turned_kept Booting left state s failure device h = record { one_to_one = h.one_to_one; cuts = h.cuts; kept = turned_boot state s failure device h.kept; none_waits = refl }
turned_kept Closing left state s failure device h = record {
  left = h.left;
  bears = record { tables = h.bears.tables; said = h.bears.said; says = h.bears.says };
  none_waits = refl;
  no_group = h.no_group;
  no_boot = h.no_boot;
  unstarted = h.unstarted;
}
turned_kept Open left state s failure device (inr h) = inr (record { one_to_one = h.one_to_one; cuts = h.cuts; kept = turned_boot state s failure device h.kept; stopped = h.stopped })
turned_kept Open left state s failure device (inl h) = inl (record {
  one_to_one = h.one_to_one;
  cuts = h.cuts;
  uncut = h.uncut;
  listed = h.listed;
  numbered = h.numbered;
  none_boots = h.none_boots;
  calm = λ is. let c = h.calm is in record { no_group = c.no_group; no_flush = c.no_flush; stopped = c.stopped };
  waits = tt;
  stored = turned_keeps s.segments.active.log state s.levels s.story s.segments.immutable s.segments.active.batches s.writing.waiting (stopping s) s.jobs.write.running s.numbers.next_file s.numbers.in_tables s.jobs.flush.running s.numbers.manifest h.stored;
})

pub write_keeps : (s : State) (held : Option ℕ) (answer : WriteStep) (device : Seen) → is_open s.mode.phase ≡ true → WriteAnswers s held answer device → IsCovered s
    → IsCovered (with_device device (write_after s answer))
write_keeps s held (step.Moved job call) device is a h = done_keeps s held a.group a.act (a.next ∷ a.later) device a.made is h
write_keeps s held (step.Done job seq batches) device is a h = done_keeps s held a.group a.act [] device a.made is h
write_keeps s held (step.Failed failure) device is a h = failed_keeps s held failure a.group a.act a.later a.fault device a.failure_is a.made is h
write_keeps s held (step.Turned batches failure) device is a h =
    quiet_keeps s (with_device device (queue_turned failure s)) refl a.quiet.same (λ state. turned_kept s.mode.phase (is_left s.mode.left) state s failure device) h
write_keeps s held step.Idle device is a h = as_it_is s device a.quiet.same h
write_keeps s held (step.Full weight immutables) device is a h = as_it_is s device a.quiet.same h
write_keeps s held (step.Spent counter) device is a h = as_it_is s device a.quiet.same h
write_keeps s held (step.Cancelled job current) device is a h = as_it_is s device a.quiet.same h
write_keeps s held step.OutOfMemory device is a h = as_it_is s device a.quiet.same h

-- ---- a batch is taken in

sizes_none : (s : State) (batch : Batch) → refusal s batch ≡ None → size_refusal batch ≡ None
sizes_none s batch none = (none_of (refusals s batch) none).0

within_sequences : (s : State) (batch : Batch) → refusal s batch ≡ None → seq_with s batch ≤ 2 ^ 56
within_sequences s batch none =
    let answer : Admit = admit.Spent Sequence in
    ltb-false (2 ^ 56) (seq_with s batch) (none_when (is_sequence_spent s batch) answer (none_of (refusals s batch) none).1.1.1.1.0)

not_booting : (s : State) (batch : Batch) → refusal s batch ≡ None → is_booting s.mode.phase ≡ false
not_booting s batch none =
    let answer : Admit = admit.Booting in
    none_when (is_booting s.mode.phase) answer (none_of (refusals s batch) none).1.1.0

not_closing : (s : State) (batch : Batch) → refusal s batch ≡ None → is_closing s.mode.phase ≡ false
not_closing s batch none =
    let answer : Admit = admit.Closing in
    none_when (is_closing s.mode.phase) answer (none_of (refusals s batch) none).1.0

not_stopped : (s : State) (batch : Batch) → refusal s batch ≡ None → stopping s ≡ None
not_stopped s batch none =
    let stops : Failure → Admit = admit.Stopped in
    none_mapped stops (stopping s) (none_of (refusals s batch) none).1.1.1.0

fewer : (last limbo group waiting more most : ℕ) → last + (limbo + group + waiting) + more ≤ most → last + waiting + more ≤ most
fewer last limbo group waiting more most h = omega (arith, h)

-- so is what waits, without what is on its way
waiting_within : (s : State) (batch : Batch) → refusal s batch ≡ None → (point_of s.story).seq + count_ops (ops_waiting s.writing.waiting) + length batch.ops ≤ 2 ^ 56
waiting_within s batch none =
    fewer (point_of s.story).seq (count_ops s.story.limbo) (count_ops (ops_of (batches_of_group s.jobs.write.running))) (count_ops (ops_waiting s.writing.waiting)) (length batch.ops) (2 ^ 56) (within_sequences s batch none)

-- a store that writes takes it in
queued_open : (state : Disk) (s : State) (batch : Batch) (device : Seen) → IsWithinLimits batch → seq_with s batch ≤ 2 ^ 56
    → AreBatches (point_of s.story).seq (ops_waiting (s.writing.waiting ++ (record { ticket = s.writing.last_ticket + 1; batch = batch }) ∷ []))
    → IsKept state s → IsKept state (with_device device (queued batch s))
queued_open state s batch device limits most waits h = record {
  one_to_one = h.one_to_one;
  cuts = h.cuts;
  uncut = h.uncut;
  listed = h.listed;
  numbered = h.numbered;
  none_boots = h.none_boots;
  calm = λ asked. let c = h.calm asked in record { no_group = c.no_group; no_flush = c.no_flush; stopped = c.stopped };
  waits = waits;
  stored = queued_keeps s.segments.active.log state s.levels s.story s.segments.immutable s.segments.active.batches s.writing.waiting (stopping s) s.jobs.write.running s.numbers.next_file s.numbers.in_tables s.jobs.flush.running s.numbers.manifest
      (s.writing.last_ticket + 1) batch limits most h.stored;
}

-- one that a resume took over doesn't: writes are stopped
queued_stopped : {P : Type 0} (s : State) (batch : Batch) → refusal s batch ≡ None → is_some (stopping s) ≡ true → P
queued_stopped s batch none stopped = never (sym (ap (λ (o : Option Failure). is_some o) (not_stopped s batch none)) ∙ stopped)
  where
    never : {P : Type 0} → false ≡ true → P
    never e = cc

not_false : true ≡ false → ⊥
not_false e = cc

queued_kept : (phase : Phase) (left : Bool) (state : Disk) (s : State) (batch : Batch) (device : Seen) → is_booting phase ≡ false → is_closing phase ≡ false → refusal s batch ≡ None → KeptBy phase left state s
    → KeptBy phase left state (with_device device (queued batch s))
queued_kept Shut false state s batch device is stays none h = h
queued_kept Shut true state s batch device is stays none h = h
queued_kept Booting left state s batch device is stays none h = absurd (not_false is)
queued_kept Closing left state s batch device is stays none h = absurd (not_false stays)
queued_kept Open left state s batch device is stays none (inr h) = queued_stopped s batch none h.stopped
queued_kept Open left state s batch device is stays none (inl h) =
    let limits = sizes_within batch (sizes_none s batch none) in
    inl (queued_open state s batch device limits (within_sequences s batch none)
    (queued_waits (point_of s.story).seq s.writing.waiting (s.writing.last_ticket + 1) batch limits (waiting_within s batch none) h.waits) h)

pub admit_keeps : (s : State) (batch : Batch) (answer : Admit) (device : Seen) → AdmitAnswers s batch answer → device.told ≡ s.device.told → IsCovered s
    → IsCovered (with_device device (admit_after s batch answer))
admit_keeps s batch (admit.Queued ticket) device a same h =
    quiet_keeps s (with_device device (queued batch s)) refl same (λ state. queued_kept s.mode.phase (is_left s.mode.left) state s batch device (not_booting s batch a.0) (not_closing s batch a.0) a.0) h
admit_keeps s batch (admit.BadSize part size) device a same h = as_it_is s device same h
admit_keeps s batch admit.Closing device a same h = as_it_is s device same h
admit_keeps s batch admit.Booting device a same h = as_it_is s device same h
admit_keeps s batch (admit.Stopped failure) device a same h = as_it_is s device same h
admit_keeps s batch (admit.Spent counter) device a same h = as_it_is s device same h
admit_keeps s batch (admit.Full weight immutables) device a same h = as_it_is s device same h
admit_keeps s batch (admit.QueueFull waiting) device a same h = as_it_is s device same h
admit_keeps s batch admit.OutOfMemory device a same h = as_it_is s device same h
