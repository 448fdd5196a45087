-- Batches that wait stay numbered on behind the published ones.
use Rattle.std.proofs.Common.{◌≡◌, ℕ, ◌+◌, ◌^◌, ◌≤◌, Bool, true, false, List, [], ◌∷◌, ◌++◌, length, take, drop, Option, Some, None, sym, subst, arith}
use Rattle.std.proofs.lemmas.List.{map-append}
use Rattle.keel_base.specs.declared.failure.Failure.{Failure}
use Rattle.keel_base.specs.declared.op.Batch.{Batch}
use Rattle.keel_base.specs.declared.op.Op.{Op}
use Rattle.keel_batch.specs.Batches.{AreBatches}
use Rattle.keel_disk.specs.State.{State as Disk}
use Rattle.keel_draft.specs.Drafts.{count_ops}
use Rattle.keel_group.specs.Queue.{Ticketed, batches_of}
use Rattle.keel_group.specs.Forming.{next_size}
use Rattle.keel_machine.specs.Admission.{stopping, ops_of, batches_of_group}
use Rattle.keel_machine.specs.States.{State, Story, SegmentLog, Group, Act, CloseLog, MakeLog, SyncDirectory, AddRecords, SyncLog, handed, left_of, point_of, published}
use Rattle.keel_machine.specs.Writing.{started, started_or}
use Rattle.keel_machine.specs.WritingAfter.{first_done, first_failed, group_done, group_failed, switched}
use Rattle.keel_recovery.specs.Machine.{HoldsBy, IsStored, IsStoredIn}
use Rattle.keel_recovery.specs.Waiting.{AreOnTheirWay, ops_waiting}
use Rattle.keel_recovery.proofs.Numbering.{batches_append, rest_batches}
use Rattle.keel_recovery.proofs.Ordering.{handed_order, published_order}
use Rattle.keel_recovery.proofs.Sizes.{IsWithinLimits}
use Rattle.keel_recovery.proofs.Turning.{ops_split, queued_batch}

abbrev pub Waits : State → Type 0
Waits s = AreBatches (point_of s.story).seq (ops_waiting s.writing.waiting)

-- ---- batches that are numbered on

-- those with numbers within their limits are so with lower ones
lower : (last less : ℕ) (batches : List (List Op)) → less ≤ last → AreBatches last batches → AreBatches less batches
lower last less [] le h = tt
lower last less (ops ∷ rest) le h =
    (record { first = omega arith; some = h.0.some; few = h.0.few; last = omega (arith, h.0.last, le); each = h.0.each }, lower (last + length ops) (less + length ops) rest (omega (arith, le)) h.1)

-- those in front are dropped
behind_front : (last : ℕ) (front rest : List (List Op)) → AreBatches last (front ++ rest) → AreBatches last rest
behind_front last front rest h = lower (last + count_ops front) last rest (omega arith) (rest_batches last front rest h)

-- ---- a group

-- behind what is in limbo, once that is published
published_waits : (sync : Bool) (story : Story) (running : Option Group) (waiting : List Ticketed) → AreOnTheirWay story running waiting → AreBatches (point_of (published sync story)).seq (ops_waiting waiting)
published_waits sync story running waiting h =
    let group = ops_of (batches_of_group running) in
    behind_front (point_of (published sync story)).seq group (ops_waiting waiting) (published_order story (group ++ ops_waiting waiting) h)

-- the group is handed over, and published
handed_waits : (sync : Bool) (story : Story) (group : Group) (waiting : List Ticketed) → AreOnTheirWay story (Some group) waiting → AreBatches (point_of (published sync (handed (ops_of group.batches) story))).seq (ops_waiting waiting)
handed_waits sync story group waiting h =
    published_order (handed (ops_of group.batches) story) (ops_waiting waiting) (handed_order (point_of story).seq story.limbo (ops_of group.batches) (ops_waiting waiting) h)

switched_waits : (drawn : Option ℕ) (s : State) → Waits s → Waits (switched drawn s)
switched_waits None s w = w
switched_waits (Some number) s w = w

switched_way : (drawn : Option ℕ) (running : Option Group) (s : State) → AreOnTheirWay s.story running s.writing.waiting → AreOnTheirWay (switched drawn s).story running (switched drawn s).writing.waiting
switched_way None running s h = h
switched_way (Some number) running s h = h

first_done_waits : (group : Group) (left : List Act) (s : State) → AreOnTheirWay s.story (Some group) s.writing.waiting → Waits s → Waits (first_done group left s)
first_done_waits group [] s h w = w
first_done_waits group (CloseLog ∷ []) s h w = published_waits false s.story (Some group) s.writing.waiting h
first_done_waits group (CloseLog ∷ next ∷ later) s h w = w
first_done_waits group (MakeLog ∷ []) s h w = published_waits false s.story (Some group) s.writing.waiting h
first_done_waits group (MakeLog ∷ next ∷ later) s h w = w
first_done_waits group (SyncDirectory ∷ []) s h w =
    let at = switched group.progress.log s in
    published_waits false at.story (Some group) at.writing.waiting (switched_way group.progress.log (Some group) s h)
first_done_waits group (SyncDirectory ∷ next ∷ later) s h w = switched_waits group.progress.log s w
first_done_waits group (AddRecords ∷ []) s h w = handed_waits false s.story group s.writing.waiting h
first_done_waits group (AddRecords ∷ next ∷ later) s h w = w
first_done_waits group (SyncLog ∷ []) s h w = published_waits true s.story (Some group) s.writing.waiting h
first_done_waits group (SyncLog ∷ next ∷ later) s h w = w

first_failed_waits : (group : Group) (left : List Act) (failure : Failure) (s : State) → Waits s → Waits (first_failed group left failure s)
first_failed_waits group [] failure s w = w
first_failed_waits group (CloseLog ∷ later) failure s w = w
first_failed_waits group (MakeLog ∷ later) failure s w = w
first_failed_waits group (SyncDirectory ∷ later) failure s w = w
first_failed_waits group (AddRecords ∷ later) failure s w = w
first_failed_waits group (SyncLog ∷ later) failure s w = w

-- batches are on their way in order while a group is in flight
way_stored : (state : Disk) (s : State) (group : Group) → s.jobs.write.running ≡ Some group → IsStored state s → AreOnTheirWay s.story (Some group) s.writing.waiting
way_stored state s group runs h =
    by s.segments.active.log (subst (λ (running : Option Group). IsStoredIn state s.levels s.story s.segments s.writing.waiting (stopping s) running s.numbers s.jobs.flush.running) runs h)
  where
    by : (o : Option SegmentLog)
        → HoldsBy o state s.levels s.story s.segments.immutable s.segments.active.batches s.writing.waiting (stopping s) (Some group) s.numbers.next_file s.numbers.in_tables s.jobs.flush.running s.numbers.manifest
        → AreOnTheirWay s.story (Some group) s.writing.waiting
    by None stored = absurd stored
    by (Some log) stored = stored.order.2

pub done_waits : (state : Disk) (s : State) (group : Group) → s.jobs.write.running ≡ Some group → IsStored state s → Waits s → Waits (group_done s.jobs.write.running s)
done_waits state s group runs h w =
    subst (λ (running : Option Group). Waits (group_done running s)) (sym runs) (first_done_waits group (left_of group) s (way_stored state s group runs h) w)

pub failed_waits : (running : Option Group) (failure : Failure) (s : State) → Waits s → Waits (group_failed running failure s)
failed_waits None failure s w = w
failed_waits (Some group) failure s w = first_failed_waits group (left_of group) failure s w

-- ---- the queue

started_waits : (waiting : List Ticketed) (s : State) → AreBatches (point_of s.story).seq (ops_waiting waiting) → Waits s → Waits (started waiting s)
started_waits [] s h w = w
started_waits (first ∷ rest) s h w =
    let queue : List Ticketed = first ∷ rest in
    let size = next_size queue in
    behind_front (point_of s.story).seq (ops_of (take size (batches_of queue))) (ops_waiting (drop size queue)) (subst (AreBatches (point_of s.story).seq) (ops_split size queue) h)

-- a group takes the first of those that wait
pub ready_waits : (running : Option Group) (s : State) → Waits s → Waits (started_or running s)
ready_waits None s w = started_waits s.writing.waiting s w w
ready_waits (Some group) s w = w

pub queued_waits : (last : ℕ) (waiting : List Ticketed) (ticket : ℕ) (batch : Batch) → IsWithinLimits batch → last + count_ops (ops_waiting waiting) + length batch.ops ≤ 2 ^ 56
    → AreBatches last (ops_waiting waiting) → AreBatches last (ops_waiting (waiting ++ (record { ticket = ticket; batch = batch }) ∷ []))
queued_waits last waiting ticket batch limits most h =
    let member : Ticketed = record { ticket = ticket; batch = batch } in
    subst (AreBatches last) (sym (map-append (λ (m : Ticketed). m.batch.ops) waiting (member ∷ [])))
    (batches_append last (ops_waiting waiting) (batch.ops ∷ []) h (queued_batch last (count_ops (ops_waiting waiting)) batch limits most, tt))
