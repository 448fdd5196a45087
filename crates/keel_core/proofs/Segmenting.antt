-- The rows of segments and their batches.
use Rattle.std.proofs.Common.{◌≡◌, ◌≢◌, ℕ, ◌+◌, List, [], ◌∷◌, ◌++◌, drop, length, Option, Some, None, refl, sym, ap, subst, ◌∙◌, arith, append_assoc}
use Rattle.keel_base.specs.declared.op.Op.{Op}
use Rattle.keel_base.specs.declared.row.Row.{Row}
use Rattle.keel_base.specs.Rows.{op_rows}
use Rattle.keel_base.specs.Weight as ops
use Rattle.keel_base.specs.Weight.{AreAdmissible}
use Rattle.keel_flush.specs.Plans.{Job as FlushJob}
use Rattle.keel_base.specs.declared.op.Batch.{Batch}
use Rattle.keel_group.specs.Forming.{EachIsAdmissible}
use Rattle.keel_machine.specs.Admission.{ops_of, weight_of_batches}
use Rattle.keel_machine.specs.Resuming.{closed_batches}
use Rattle.keel_machine.specs.States.{Segment}
use Rattle.keel_mem.specs.Totals.{row_bytes, weight_of}
use Rattle.keel_mem.proofs.Weighing.{weight_of-op_rows}
use Rattle.std.proofs.lemmas.List.{length-append}
use Rattle.std.proofs.lemmas.List.Elements.{All-head, All-tail}
use Rattle.std.proofs.lemmas.List.Sums.{sum_by-append}
use Rattle.keel_draft.specs.Drafts.{batch_rows, count_ops}
use Rattle.keel_core.specs.declared.segments.Segment.{Segment as CoreSegment}
use Rattle.keel_core.specs.Segments.{segment_shown, segments_shown}
use Rattle.keel_core.specs.Views.{AreSegments, Cleared, FullSegment, HaveOps, IsFlushing, IsOfFirst}
use Rattle.keel_core.specs.Covering.{closed_full}
use Rattle.keel_core.proofs.Lists.{count_ops-append}

pub batch_rows-append : (seq : ℕ) (front back : List (List Op)) → batch_rows seq (front ++ back) ≡ batch_rows seq front ++ batch_rows (seq + count_ops front) back
batch_rows-append seq [] back = ap (λ n. batch_rows n back) (omega arith)
batch_rows-append seq (ops ∷ front) back =
    let number : seq + length ops + count_ops front ≡ seq + count_ops (ops ∷ front) = omega arith in
    ap (λ l. op_rows seq ops ++ l) (batch_rows-append (seq + length ops) front back)
    ∙ sym (append_assoc (op_rows seq ops) (batch_rows (seq + length ops) front) (batch_rows (seq + length ops + count_ops front) back))
    ∙ ap (λ n. (op_rows seq ops ++ batch_rows (seq + length ops) front) ++ batch_rows n back) number

-- what rows weigh is what their batches weigh
pub weight_of-batch_rows : (seq : ℕ) (batches : List (List Op)) → weight_of (batch_rows seq batches) ≡ weight_of_batches batches
weight_of-batch_rows seq [] = refl
weight_of-batch_rows seq (batch ∷ batches) =
    let rest = weight_of-batch_rows (seq + length batch) batches in
    let first = weight_of-op_rows seq batch in
    let split = sum_by-append (λ (row : Row). 16 + row_bytes row) (op_rows seq batch) (batch_rows (seq + length batch) batches) in
    let whole : weight_of_batches (batch ∷ batches) ≡ ops.weight_of batch + weight_of_batches batches = refl in
    omega (arith, rest, first, split, whole)

-- ---- of all segments

pub active_weighs : (seq : ℕ) (fulls : List FullSegment) (segments : List Segment) (rows : List Row) (active : List (List Op)) (last : ℕ)
    → AreSegments seq fulls segments rows active last → weight_of_batches active ≡ weight_of rows
active_weighs seq [] [] rows active last h = sym (weight_of-batch_rows (seq + 1) active) ∙ ap weight_of (sym h.0)
active_weighs seq (full ∷ fulls) (segment ∷ segments) rows active last h = active_weighs (seq + count_ops segment.batches) fulls segments rows active last h.2
active_weighs seq [] (segment ∷ segments) rows active last h = absurd h
active_weighs seq (full ∷ fulls) [] rows active last h = absurd h

pub as_many : (seq : ℕ) (fulls : List FullSegment) (segments : List Segment) (rows : List Row) (active : List (List Op)) (last : ℕ)
    → AreSegments seq fulls segments rows active last → length segments ≡ length fulls
as_many seq [] [] rows active last h = refl
as_many seq (full ∷ fulls) (segment ∷ segments) rows active last h = omega (arith, as_many (seq + count_ops segment.batches) fulls segments rows active last h.2)
as_many seq [] (segment ∷ segments) rows active last h = absurd h
as_many seq (full ∷ fulls) [] rows active last h = absurd h

-- a flush is of the first one, whatever stands behind
first_behind : (seq last : ℕ) (segments : List Segment) (full : Segment) → IsOfFirst seq last segments → IsOfFirst seq last (segments ++ full ∷ [])
first_behind seq last [] full h = absurd h
first_behind seq last (segment ∷ segments) full h = h

pub one_behind : (flush : Option FlushJob) (seq : ℕ) (segments : List Segment) (full : Segment) → IsFlushing Cleared flush seq segments → IsFlushing Cleared flush seq (segments ++ full ∷ [])
one_behind None seq segments full h = tt
one_behind (Some job) seq segments full h = first_behind seq job.draft.last segments full h

-- admissible batches have ops
pub have_ops : (batches : List Batch) → EachIsAdmissible batches → HaveOps (ops_of batches)
have_ops [] each = tt
have_ops (batch ∷ batches) each = ((All-head (λ (b : Batch). AreAdmissible b.ops) batch batches each).some, have_ops batches (All-tail (λ (b : Batch). AreAdmissible b.ops) batch batches each))

pub have_ops-append : (front back : List (List Op)) → HaveOps front → HaveOps back → HaveOps (front ++ back)
have_ops-append [] back a b = b
have_ops-append (ops ∷ front) back a b = (a.0, have_ops-append front back a.1 b)

-- the first one is gone
pub first_gone : (seq flushed : ℕ) (fulls : List FullSegment) (segments : List Segment) (rows : List Row) (active : List (List Op)) (last : ℕ)
    → IsOfFirst seq flushed segments → AreSegments seq fulls segments rows active last → AreSegments flushed (drop 1 fulls) (drop 1 segments) rows active last
first_gone seq flushed fulls [] rows active last of h = absurd of
first_gone seq flushed [] (segment ∷ segments) rows active last of h = absurd h
first_gone seq flushed (full ∷ fulls) (segment ∷ segments) rows active last of h = subst (λ n. AreSegments n fulls segments rows active last) (sym of) h.2

-- batches more in the active one
pub added_more : (seq : ℕ) (fulls : List FullSegment) (segments : List Segment) (rows : List Row) (active more : List (List Op)) (last behind : ℕ)
    → AreSegments seq fulls segments rows active last → behind ≡ last + count_ops more → HaveOps more
    → AreSegments seq fulls segments (rows ++ batch_rows (last + 1) more) (active ++ more) behind
added_more seq [] [] rows active more last behind h is some =
    let number : last + 1 ≡ seq + 1 + count_ops active = omega (arith, h.1) in (
      (λ i. h.0 i ++ batch_rows (number i) more) ∙ sym (batch_rows-append (seq + 1) active more),
      omega (arith, h.1, is, count_ops-append active more),
      have_ops-append active more h.2 some,
    )
added_more seq (full ∷ fulls) (segment ∷ segments) rows active more last behind h is some =
    (h.0, h.1, added_more (seq + count_ops segment.batches) fulls segments rows active more last behind h.2 is some)
added_more seq [] (segment ∷ segments) rows active more last behind h is some = absurd h
added_more seq (full ∷ fulls) [] rows active more last behind h is some = absurd h

-- the active one is full, and another has no batch yet
pub one_full : (seq : ℕ) (fulls : List FullSegment) (segments : List Segment) (rows : List Row) (active : List (List Op)) (last : ℕ) (logs : List ℕ)
    → AreSegments seq fulls segments rows active last
    → AreSegments seq (fulls ++ (record { rows = rows; logs = logs }) ∷ []) (segments ++ (record { batches = active; logs = logs }) ∷ []) [] [] last
one_full seq [] [] rows active last logs h = (refl, h.0, (refl, omega (arith, h.1), tt))
one_full seq (full ∷ fulls) (segment ∷ segments) rows active last logs h =
    (h.0, h.1, one_full (seq + count_ops segment.batches) fulls segments rows active last logs h.2)
one_full seq [] (segment ∷ segments) rows active last logs h = absurd h
one_full seq (full ∷ fulls) [] rows active last logs h = absurd h

-- ---- a job takes over the active one

-- it becomes a full one where it has a row
pub one_closed : (seq : ℕ) (fulls : List FullSegment) (segments : List Segment) (rows : List Row) (active : List (List Op)) (last : ℕ) (logs : List ℕ)
    → AreSegments seq fulls segments rows active last → AreSegments seq (fulls ++ closed_full rows logs) (segments ++ closed_batches active logs) [] [] last
one_closed seq [] [] rows [] last logs h = subst (λ (r : List Row). AreSegments seq (closed_full r logs) [] [] [] last) (sym h.0) (refl, h.1, tt)
one_closed seq [] [] rows ([] ∷ batches) last logs h = absurd (omega (arith, h.2.0))
one_closed seq [] [] rows ((op ∷ ops) ∷ batches) last logs h =
    let count = h.1 in
    subst (λ (r : List Row). AreSegments seq (closed_full r logs) (record { batches = (op ∷ ops) ∷ batches; logs = logs } ∷ []) [] [] last) (sym h.0)
    (refl, refl, (refl, omega (arith, count), tt))
one_closed seq (full ∷ fulls) (segment ∷ segments) rows active last logs h =
    (h.0, h.1, one_closed (seq + count_ops segment.batches) fulls segments rows active last logs h.2)
one_closed seq [] (segment ∷ segments) rows active last logs h = absurd h
one_closed seq (full ∷ fulls) [] rows active last logs h = absurd h

pub closed_some : (rows : List Row) (logs : List ℕ) → rows ≢ [] → closed_full rows logs ≡ record { rows = rows; logs = logs } ∷ []
closed_some [] logs some = absurd (some refl)
closed_some (row ∷ rows) logs some = refl

-- ---- as the code has them

pub segments_shown-push : (segments : List CoreSegment) (segment : CoreSegment) → segments_shown (segments ++ segment ∷ []) ≡ segments_shown segments ++ segment_shown segment ∷ []
segments_shown-push [] segment = refl
segments_shown-push (first ∷ segments) segment = ap (λ l. segment_shown first ∷ l) (segments_shown-push segments segment)

pub shown_many : (segments : List CoreSegment) → length (segments_shown segments) ≡ length segments
shown_many [] = refl
shown_many (first ∷ segments) = omega (arith, shown_many segments)

pub push_many : (old new : List CoreSegment) (segment : CoreSegment) → new ≡ old ++ segment ∷ [] → length new ≡ length old + 1
push_many old new segment is =
    let one : length (segment ∷ []) ≡ 1 = refl in
    omega (arith, ap length is, length-append old (segment ∷ []), one)
