-- The order of a group's calls and batches.
use Rattle.std.specs.Prelude.{is_some}
use Rattle.std.specs.List.{AllByRecursion}
use Rattle.std.proofs.Common.{◌≡◌, ℕ, zero, suc, ◌+◌, ◌<◌, ◌≤◌, true, List, [], ◌∷◌, ◌++◌, drop, Option, Some, None, Ok, Err, sym, ap, subst, ◌∙◌, arith}
use Rattle.std.proofs.lemmas.List.{append_assoc, append-nil}
use Rattle.keel_base.specs.Points.{Point, fold_batches}
use Rattle.keel_base.specs.declared.failure.Failure.{Failure}
use Rattle.keel_base.specs.declared.failure.Fault.{Fault}
use Rattle.keel_base.specs.declared.op.Op.{Op}
use Rattle.keel_batch.specs.Batches.{AreBatches}
use Rattle.keel_disk.specs.declared.error.DiskError.TheVariants as error
use Rattle.keel_disk.specs.State.{State as Disk}
use Rattle.keel_machine.specs.States.{Story, Segment, point_of}
use Rattle.keel_recovery.specs.Calls.{Answer, point_handed, AllReach, AllWhole}
use Rattle.keel_recovery.specs.Chains.{Chained, IsWholeLog}
use Rattle.keel_recovery.specs.Machine.{AreFull, WhileItGoes}
use Rattle.keel_recovery.specs.Roots.{Way}
use Rattle.keel_recovery.proofs.Numbering.{folded_append, seq_folded, front_batches, rest_batches}
use Rattle.keel_draft.specs.Drafts.{count_ops}

abbrev pub went_well : Answer
went_well = Ok tt

abbrev pub went_wrong : Fault → Answer
went_wrong fault = Err (error.Fault fault)

-- ---- the calls that are left

pub drop_next : {A : Type 0} (made : ℕ) (plan : List A) (first : A) (later : List A) → drop made plan ≡ first ∷ later → drop (made + 1) plan ≡ later
drop_next zero [] first later e = cc
drop_next zero (act ∷ plan) first later e = let same : plan ≡ later = cc in same
drop_next (suc made) [] first later e = cc
drop_next {A} (suc made) (act ∷ plan) first later e =
    let n : suc made + 1 ≡ suc (made + 1) = omega arith in
    ap (λ (k : ℕ). drop k (act ∷ plan)) n ∙ drop_next made plan first later e

-- ---- batches in order

pub first_limits : (last : ℕ) (limbo group waiting : List (List Op)) → limbo ≡ [] → AreBatches last (limbo ++ (group ++ waiting)) → AreBatches last group
first_limits last limbo group waiting none h = front_batches last group waiting (subst (λ (l : List (List Op)). AreBatches last (l ++ (group ++ waiting))) none h)

pub handed_order : (last : ℕ) (limbo group waiting : List (List Op)) → AreBatches last (limbo ++ (group ++ waiting)) → AreBatches last ((limbo ++ group) ++ waiting)
handed_order last limbo group waiting h = subst (AreBatches last) (sym (append_assoc limbo group waiting)) h

-- those that wait come behind the published ones
pub published_order : (story : Story) (waiting : List (List Op)) → AreBatches (point_of story).seq (story.limbo ++ waiting) → AreBatches (point_handed story).seq waiting
published_order story waiting h =
    let point = point_of story in
    let e : (point_handed story).seq ≡ point.seq + count_ops story.limbo =
    ap (λ (p : Point). p.seq) (folded_append story.start story.log story.limbo) ∙ seq_folded point story.limbo in
    subst (λ (n : ℕ). AreBatches n waiting) (sym e) (rest_batches point.seq story.limbo waiting h)

-- where none is in limbo, all that was handed over is published
pub none_handed : (story : Story) → story.limbo ≡ [] → point_handed story ≡ point_of story
none_handed story none = ap (λ (l : List (List Op)). fold_batches story.start (story.log ++ l)) none ∙ ap (fold_batches story.start) (append-nil story.log)

pub stopped : (stops : Option Failure) (goes : Type 0) → is_some stops ≡ true → WhileItGoes None stops goes
stopped None goes some = cc
stopped (Some failure) goes some = tt

pub goes_while : (stops : Option Failure) (goes : Type 0) → goes → WhileItGoes None stops goes
goes_while None goes h = h
goes_while (Some failure) goes h = tt

-- the full segments and one more
pub full_push : (immutable : List Segment) (full : List Chained) (own : Chained) (segment : Segment) → segment.logs ≡ own.number ∷ [] → own.batches ≡ segment.batches → AreFull immutable full
    → AreFull (immutable ++ segment ∷ []) (full ++ own ∷ [])
full_push [] [] own segment logs batches h = (logs, batches, tt)
full_push [] (_ ∷ _) own segment logs batches h = absurd h
full_push (_ ∷ _) [] own segment logs batches h = absurd h
full_push (first ∷ immutable) (log ∷ full) own segment logs batches h = (h.0, h.1, full_push immutable full own segment logs batches h.2)

pub whole_push : (logs : List Chained) (log : Chained) (state : Disk) → AllWhole logs state → IsWholeLog log state → AllWhole (logs ++ log ∷ []) state
whole_push [] log state all one = (one, tt)
whole_push (first ∷ logs) log state all one = (all.0, whole_push logs log state all.1 one)

pub last_below : (number : ℕ) (logs : List Chained) (log : Chained) → AllByRecursion (λ (l : Chained). l.number < number) (logs ++ log ∷ []) → log.number < number
last_below number [] log h = h.0
last_below number (first ∷ logs) log h = last_below number logs log h.1

pub reach_more : (ways : List Way) (number more : ℕ) → number ≤ more → AllReach ways number → AllReach ways more
reach_more ways number more le reach = λ way count version one least most is. omega (arith, le, reach way count version one least most is)
