-- What a write step and a queued batch do to the order of batches, where no call is made.
use Rattle.std.specs.Prelude.{◌==◌, nat_le, ◌&&◌, is_some}
use Rattle.std.proofs.Common.{◌≡◌, inl, inr, ℕ, zero, suc, ◌+◌, ◌^◌, ◌<◌, ◌≤◌, Bool, true, false, List, [], ◌∷◌, ◌++◌, length, take, drop, Option, Some, None, option_map, refl, sym, ap, subst, ◌∙◌, arith}
use Rattle.std.proofs.lemmas.Bool.{leb-false}
use Rattle.std.proofs.lemmas.List.{append_assoc, append-nil, map-append}
use Rattle.keel_base.specs.declared.failure.Failure.{Failure}
use Rattle.keel_base.specs.declared.op.Batch.{Batch}
use Rattle.keel_base.specs.declared.op.Op.{Op}
use Rattle.keel_batch.specs.Batches.{AreBatches}
use Rattle.keel_batch.specs.Spelling.{IsBatch}
use Rattle.keel_disk.specs.State.{State as Disk}
use Rattle.keel_base.specs.declared.failure.Counter.TheVariants.{FileNumber}
use Rattle.keel_machine.specs.declared.steps.WriteStep.{WriteStep}
use Rattle.keel_machine.specs.declared.steps.WriteStep.TheVariants.{Idle, Spent}
use Rattle.keel_flush.specs.Plans.{Job as FlushJob}
use Rattle.keel_manifest.specs.State.{ManifestState}
use Rattle.keel_machine.specs.Admission.{stopping, ops_of, batches_of_group, is_full}
use Rattle.keel_draft.specs.Drafts.{count_ops}
use Rattle.keel_directory.specs.TableFiles.{TableFile}
use Rattle.keel_group.specs.Queue.{Ticketed, tickets_of, batches_of}
use Rattle.keel_group.specs.Forming.{next_size, next_batches, wants_sync}
use Rattle.keel_machine.specs.States.{State, Story, SegmentLog, Segment, Group, Act, MakeLog, left_of, point_of}
use Rattle.keel_machine.specs.Tests.{first_some, differing}
use Rattle.keel_machine.specs.Writing.{group_plan, nothing_made, formed, started, started_or, ready, turned_away, is_nobody_waiting, is_file_spent, draws, rests_before_group, rests_of, cancelled, write_rest}
use Rattle.keel_machine.proofs.FirstTests.{none_some, none_first, none_later, none_mapped, none_when, none_of}
use Rattle.keel_recovery.specs.Calls.{CanGrow}
use Rattle.keel_recovery.specs.Machine.{IsAt, WhileItGoes, HoldsBy, IsStored}
use Rattle.keel_recovery.specs.Waiting.{AreOnTheirWay, ops_waiting}
use Rattle.keel_recovery.proofs.Numbering.{batches_append, front_batches, counted_append}
use Rattle.keel_recovery.proofs.Sizes.{IsWithinLimits}

-- ---- a group is formed

-- so many of those that wait, and the rest, are all of them
pub ops_split : (n : ℕ) (waiting : List Ticketed) → ops_waiting waiting ≡ ops_of (take n (batches_of waiting)) ++ ops_waiting (drop n waiting)
ops_split zero waiting = refl
ops_split (suc n) [] = refl
ops_split (suc n) (first ∷ rest) = ap (λ (l : List (List Op)). first.batch.ops ∷ l) (ops_split n rest)

abbrev group_of : List ℕ → List Batch → Bool → Bool → Group
group_of tickets batches switches sync = record { tickets = tickets; batches = batches; plan = group_plan switches sync; progress = nothing_made }

formed_keeps : (o : Option SegmentLog) (state : Disk) (levels : List TableFile) (story : Story) (immutable : List Segment) (own : List (List Op)) (waiting rest : List Ticketed) (batches : List Batch) (switches sync : Bool)
    (stops : Option Failure) (tickets : List ℕ) (next_file in_tables : ℕ) (flush : Option FlushJob) (manifest : ManifestState) → stops ≡ None → ops_waiting waiting ≡ ops_of batches ++ ops_waiting rest
    → HoldsBy o state levels story immutable own waiting stops None next_file in_tables flush manifest
    → HoldsBy o state levels story immutable own rest stops (Some (group_of tickets batches switches sync)) next_file in_tables flush manifest
formed_keeps None state levels story immutable own waiting rest batches switches sync stops tickets next_file in_tables flush manifest none split h = h
formed_keeps (Some log) state levels story immutable own waiting rest batches switches sync (Some failure) tickets next_file in_tables flush manifest none split h = none_some failure none
formed_keeps (Some log) state levels story immutable own waiting rest batches switches sync None tickets next_file in_tables flush manifest none split h = record {
  way = h.way;
  place = h.place;
  full = h.full;
  are_full = h.are_full;
  own = h.own;
  number_is = h.number_is;
  batches_are = h.batches_are;
  keeps = h.keeps;
  reach = h.reach;
  tables_to = h.tables_to;
  flushes = h.flushes;
  order = (
    h.order.0,
    at switches h.order.1,
    subst (λ (l : List (List Op)). AreBatches (point_of story).seq (story.limbo ++ l)) split h.order.2,
  );
}
  where
    at : (switches : Bool) → story.limbo ≡ [] → IsAt state story next_file h.own (Some (group_of tickets batches switches sync))
    at true none = inr (inl (record { none_in_limbo = none; sync = sync; left_is = refl }))
    at false none = inl (inl (record { none_in_limbo = none; sync = sync; left_is = refl }))

started_keeps : (state : Disk) (waiting : List Ticketed) (s : State) → stopping s ≡ None
    → HoldsBy s.segments.active.log state s.levels s.story s.segments.immutable s.segments.active.batches waiting (stopping s) None s.numbers.next_file s.numbers.in_tables s.jobs.flush.running s.numbers.manifest
    → IsStored state s → IsStored state (started waiting s)
started_keeps state [] s none h same = same
started_keeps state (first ∷ rest) s none h same =
    let queue : List Ticketed = first ∷ rest in
    formed_keeps s.segments.active.log state s.levels s.story s.segments.immutable s.segments.active.batches queue (drop (next_size queue) queue) (next_batches queue) (is_full s) (wants_sync (next_batches queue)) (stopping s)
    (take (next_size queue) (tickets_of queue)) s.numbers.next_file s.numbers.in_tables s.jobs.flush.running s.numbers.manifest none (ops_split (next_size queue) queue) h

pub none_stands : (s : State) → first_some (rests_before_group s) ≡ None → stopping s ≡ None
none_stands s h = none_mapped (turned_away s) (stopping s) (none_of (rests_before_group s) h).1.0

running_keeps : (state : Disk) (running : Option Group) (s : State) → first_some (rests_of s running) ≡ None
    → HoldsBy s.segments.active.log state s.levels s.story s.segments.immutable s.segments.active.batches s.writing.waiting (stopping s) running s.numbers.next_file s.numbers.in_tables s.jobs.flush.running s.numbers.manifest
    → IsStored state s → IsStored state (started_or running s)
running_keeps state None s none h same = started_keeps state s.writing.waiting s (none_stands s none) h same
running_keeps state (Some group) s none h same = same

pub in_group : (s : State) (held : Option ℕ) → write_rest s held ≡ None → first_some (rests_of s s.jobs.write.running) ≡ None
in_group s held none =
    let here = first_some (rests_of s s.jobs.write.running) in
    let number : Option WriteStep = option_map (cancelled s) (differing held s.jobs.write.number) in
    none_first here [] (none_later number (here ∷ []) none)

pub ready_keeps : (state : Disk) (s : State) (held : Option ℕ) → write_rest s held ≡ None → IsStored state s → IsStored state (ready s)
ready_keeps state s held none h = running_keeps state s.jobs.write.running s (in_group s held none) h h

-- without a group in flight no call is made while writes are stopped
pub none_while_stopped : {P : Type 0} (s : State) (held : Option ℕ) → write_rest s held ≡ None → s.jobs.write.running ≡ None → is_some (stopping s) ≡ true → P
none_while_stopped s held none idle stopped =
    let rests : first_some (rests_before_group s) ≡ None = subst (λ (running : Option Group). first_some (rests_of s running) ≡ None) idle (in_group s held none) in
    never (sym (ap (λ (o : Option Failure). is_some o) (none_stands s rests)) ∙ stopped)
  where
    never : {P : Type 0} → false ≡ true → P
    never e = cc

-- ---- the number of a log that is made is below the end

not_planned : (switches sync : Bool) (later : List Act) → group_plan switches sync ≡ MakeLog ∷ later → ⊥
not_planned false sync later plan = cc
not_planned true sync later plan = cc

same_group : (made group : Group) → Some made ≡ Some group → made ≡ group
same_group made group e = cc

below_drawn : (left later : List Act) (number : ℕ) → left ≡ MakeLog ∷ later → (draws left && nat_le (2 ^ 56) number) ≡ false → number < 2 ^ 56
below_drawn left later number e h =
    let drawn : draws left ≡ true = ap draws e in
    leb-false (2 ^ 56) number (rw drawn at h)

below_first : (waiting : List Ticketed) (s : State) (group : Group) (later : List Act) → (length waiting == 0) ≡ false
    → (started waiting s).jobs.write.running ≡ Some group → left_of group ≡ MakeLog ∷ later → ⊥
below_first [] s group later some runs left = cc
below_first (first ∷ rest) s group later some runs left =
    let is = same_group (formed (first ∷ rest) s) group runs in
    not_planned (is_full s) (wants_sync (next_batches (first ∷ rest))) later (ap left_of is ∙ left)

below_in : (running : Option Group) (s : State) (group : Group) (later : List Act) → first_some (rests_of s running) ≡ None
    → (started_or running s).jobs.write.running ≡ Some group → running ≡ s.jobs.write.running → left_of group ≡ MakeLog ∷ later → s.numbers.next_file < 2 ^ 56
below_in None s group later h runs same left =
    let tests = none_of (rests_before_group s) h in
    absurd (below_first s.writing.waiting s group later (none_when (is_nobody_waiting s) Idle tests.0) runs left)
below_in (Some made) s group later h runs same left =
    let is = same_group made group (same ∙ runs) in
    below_drawn (left_of made) later s.numbers.next_file (ap left_of is ∙ left)
    (none_when (draws (left_of made) && is_file_spent s) (Spent FileNumber) (none_of (rests_of s (Some made)) h).0)

pub number_below : (s : State) (held : Option ℕ) (group : Group) (later : List Act) → write_rest s held ≡ None
    → (ready s).jobs.write.running ≡ Some group → left_of group ≡ MakeLog ∷ later → s.numbers.next_file < 2 ^ 56
number_below s held group later none runs left = below_in s.jobs.write.running s group later (in_group s held none) runs refl left

-- ---- the order of batches that wait

-- the order alone is changed
reordered : (o : Option SegmentLog) (state : Disk) (levels : List TableFile) (story : Story) (immutable : List Segment) (own : List (List Op)) (waiting next : List Ticketed) (stops : Option Failure) (running : Option Group)
    (next_file in_tables : ℕ) (flush : Option FlushJob) (manifest : ManifestState) → (AreOnTheirWay story running waiting → AreOnTheirWay story running next) → HoldsBy o state levels story immutable own waiting stops running next_file in_tables flush manifest
    → HoldsBy o state levels story immutable own next stops running next_file in_tables flush manifest
reordered None state levels story immutable own waiting next stops running next_file in_tables flush manifest keep h = h
reordered (Some log) state levels story immutable own waiting next stops running next_file in_tables flush manifest keep h = record {
  way = h.way;
  place = h.place;
  full = h.full;
  are_full = h.are_full;
  own = h.own;
  number_is = h.number_is;
  batches_are = h.batches_are;
  keeps = h.keeps;
  reach = h.reach;
  tables_to = h.tables_to;
  flushes = h.flushes;
  order = by running stops h.order;
}
  where
    by : (r : Option Group) (stops : Option Failure) → WhileItGoes r stops (CanGrow h.full h.own log.size state × IsAt state story next_file h.own running × AreOnTheirWay story running waiting)
        → WhileItGoes r stops (CanGrow h.full h.own log.size state × IsAt state story next_file h.own running × AreOnTheirWay story running next)
    by (Some group) stops order = (order.0, order.1, keep order.2)
    by None None order = (order.0, order.1, keep order.2)
    by None (Some failure) order = tt

-- the queue is turned away

front_order : (last : ℕ) (limbo group waiting : List (List Op)) → AreBatches last (limbo ++ (group ++ waiting)) → AreBatches last (limbo ++ (group ++ []))
front_order last limbo group waiting h =
    let front = front_batches last (limbo ++ group) waiting (subst (AreBatches last) (sym (append_assoc limbo group waiting)) h) in
    subst (λ (l : List (List Op)). AreBatches last (limbo ++ l)) (sym (append-nil group)) front

pub turned_keeps : (o : Option SegmentLog) (state : Disk) (levels : List TableFile) (story : Story) (immutable : List Segment) (own : List (List Op)) (waiting : List Ticketed) (stops : Option Failure) (running : Option Group) (next_file in_tables : ℕ) (flush : Option FlushJob) (manifest : ManifestState)
    → HoldsBy o state levels story immutable own waiting stops running next_file in_tables flush manifest → HoldsBy o state levels story immutable own [] stops running next_file in_tables flush manifest
turned_keeps o state levels story immutable own waiting stops running next_file in_tables flush manifest h =
    reordered o state levels story immutable own waiting [] stops running next_file in_tables flush manifest
    (λ order. front_order (point_of story).seq story.limbo (ops_of (batches_of_group running)) (ops_waiting waiting) order) h

-- a batch is queued

pub queued_batch : (last total : ℕ) (batch : Batch) → IsWithinLimits batch → last + total + length batch.ops ≤ 2 ^ 56 → IsBatch (last + total + 1) batch.ops
queued_batch last total batch limits most = record {
  first = omega arith;
  some = limits.some;
  few = limits.few;
  last = omega (arith, most);
  each = limits.each;
}

queued_order : (last : ℕ) (limbo group waiting : List (List Op)) (batch : Batch) → IsWithinLimits batch
    → last + (count_ops limbo + count_ops group + count_ops waiting) + length batch.ops ≤ 2 ^ 56
    → AreBatches last (limbo ++ (group ++ waiting)) → AreBatches last (limbo ++ (group ++ (waiting ++ batch.ops ∷ [])))
queued_order last limbo group waiting batch limits most h =
    let all = limbo ++ (group ++ waiting) in
    let count : last + count_ops all + length batch.ops ≤ 2 ^ 56 =
    omega (arith, most, counted_append limbo (group ++ waiting), counted_append group waiting) in
    let whole : AreBatches last (all ++ batch.ops ∷ []) = batches_append last all (batch.ops ∷ []) h (queued_batch last (count_ops all) batch limits count, tt) in
    let e : all ++ batch.ops ∷ [] ≡ limbo ++ (group ++ (waiting ++ batch.ops ∷ [])) =
    append_assoc limbo (group ++ waiting) (batch.ops ∷ []) ∙ ap (λ (l : List (List Op)). limbo ++ l) (append_assoc group waiting (batch.ops ∷ [])) in
    subst (AreBatches last) e whole

pub queued_keeps : (o : Option SegmentLog) (state : Disk) (levels : List TableFile) (story : Story) (immutable : List Segment) (own : List (List Op)) (waiting : List Ticketed) (stops : Option Failure) (running : Option Group)
    (next_file in_tables : ℕ) (flush : Option FlushJob) (manifest : ManifestState) (ticket : ℕ) (batch : Batch) → IsWithinLimits batch
    → (point_of story).seq + (count_ops story.limbo + count_ops (ops_of (batches_of_group running)) + count_ops (ops_waiting waiting)) + length batch.ops ≤ 2 ^ 56
    → HoldsBy o state levels story immutable own waiting stops running next_file in_tables flush manifest
    → HoldsBy o state levels story immutable own (waiting ++ (record { ticket = ticket; batch = batch }) ∷ []) stops running next_file in_tables flush manifest
queued_keeps o state levels story immutable own waiting stops running next_file in_tables flush manifest ticket batch limits most h =
    let last = (point_of story).seq in
    let group = ops_of (batches_of_group running) in
    let member : Ticketed = record { ticket = ticket; batch = batch } in
    let e : ops_waiting (waiting ++ member ∷ []) ≡ ops_waiting waiting ++ batch.ops ∷ [] = map-append (λ (m : Ticketed). m.batch.ops) waiting (member ∷ []) in
    reordered o state levels story immutable own waiting (waiting ++ member ∷ []) stops running next_file in_tables flush manifest
    (λ order. subst (λ (l : List (List Op)). AreBatches last (story.limbo ++ (group ++ l))) (sym e) (queued_order last story.limbo group (ops_waiting waiting) batch limits most order)) h
