-- Lists from an index on, and what batches count.
use Rattle.std.proofs.Common.{◌≡◌, ℕ, zero, suc, ◌+◌, ◌<◌, ◌≤◌, List, [], ◌∷◌, ◌++◌, length, drop, get_or, refl, sym, ap, ◌∙◌, arith, add-one}
use Rattle.std.proofs.Math.Seq.{drop-cons}
use Rattle.std.proofs.lemmas.List.Sums.{sum_by-cons}
use Rattle.keel_base.specs.declared.op.Batch.{Batch}
use Rattle.keel_base.specs.declared.op.Op.{Op}
use Rattle.keel_group.specs.Queue.{ops_count}
use Rattle.keel_machine.specs.Admission.{ops_of}
use Rattle.keel_draft.specs.Drafts.{count_ops}
use Rattle.keel_machine.specs.WritingAfter.{seq_behind}

-- the elements from an index on are the one there and those behind it
pub next_item : {A : Type 0} (items : List A) (i : ℕ) (item : A) → i < length items → item ≡ get_or items i item → drop i items ≡ item ∷ drop (i + 1) items
next_item items i item lt is = rw add-one (drop-cons items i item lt ∙ ap (λ x. x ∷ drop (suc i) items) (sym is))

pub none_behind : {A : Type 0} (items : List A) (i : ℕ) → length items ≤ i → drop i items ≡ []
none_behind [] zero h = refl
none_behind [] (suc i) h = refl
none_behind (item ∷ items) zero h = absurd (omega (arith, h))
none_behind (item ∷ items) (suc i) h = none_behind items i (omega (arith, h))

ops_step : (i : ℕ) (batches : List Batch) → drop 1 (ops_of (drop i batches)) ≡ ops_of (drop (suc i) batches)
ops_step zero [] = refl
ops_step zero (batch ∷ batches) = refl
ops_step (suc i) [] = refl
ops_step (suc i) (batch ∷ batches) = ops_step i batches

pub ops_next : (i : ℕ) (batches : List Batch) → drop 1 (ops_of (drop i batches)) ≡ ops_of (drop (i + 1) batches)
ops_next i batches = rw add-one (ops_step i batches)

pub seq_counts : (seq : ℕ) (batches : List (List Op)) → seq_behind seq batches + count_ops (drop 1 batches) ≡ seq + count_ops batches
seq_counts seq [] = refl
seq_counts seq (ops ∷ batches) = omega arith

pub count_ops-append : (front back : List (List Op)) → count_ops (front ++ back) ≡ count_ops front + count_ops back
count_ops-append [] back = omega arith
count_ops-append (ops ∷ front) back =
    let rest = count_ops-append front back in
    let left : count_ops ((ops ∷ front) ++ back) ≡ length ops + count_ops (front ++ back) = refl in
    let right : count_ops (ops ∷ front) ≡ length ops + count_ops front = refl in
    omega (arith, rest, left, right)

pub ops_counted : (batches : List Batch) → ops_count batches ≡ count_ops (ops_of batches)
ops_counted [] = refl
ops_counted (batch ∷ batches) = sum_by-cons (λ (b : Batch). length b.ops) batch batches ∙ ap (λ n. length batch.ops + n) (ops_counted batches)
