-- Batches that are numbered on.
use Rattle.std.proofs.Common.{◌≡◌, ℕ, zero, suc, ◌+◌, ◌-◌, List, [], ◌∷◌, ◌++◌, length, take, Result, Ok, Err, refl, ap, subst, ◌∙◌, arith}
use Rattle.keel_base.specs.Points.{Point, after_batch, fold_batches}
use Rattle.keel_base.specs.declared.op.Op.{Op}
use Rattle.keel_batch.specs.declared.batch.Numbered.{Numbered}
use Rattle.keel_batch.specs.declared.batch.BatchError.TheVariants as errors
use Rattle.keel_batch.specs.Spelling.{spelling, IsBatch}
use Rattle.keel_batch.specs.Reading.{batch_of}
use Rattle.keel_batch.proofs.Laws.{decoded_only}
use Rattle.keel_batch.specs.Batches.{payloads_behind, AreBatches}
use Rattle.keel_draft.specs.Drafts.{count_ops}

pub folded_append : (point : Point) (front rest : List (List Op)) → fold_batches point (front ++ rest) ≡ fold_batches (fold_batches point front) rest
folded_append point [] rest = refl
folded_append point (ops ∷ front) rest = folded_append (after_batch point ops) front rest

pub seq_folded : (point : Point) (batches : List (List Op)) → (fold_batches point batches).seq ≡ point.seq + count_ops batches
seq_folded point [] = omega arith
seq_folded point (ops ∷ rest) = seq_folded (after_batch point ops) rest ∙ omega arith

pub counted_append : (front rest : List (List Op)) → count_ops (front ++ rest) ≡ count_ops front + count_ops rest
counted_append [] rest = omega arith
counted_append (ops ∷ front) rest = omega (arith, counted_append front rest)

-- ---- within their limits

pub batches_take : (first last : ℕ) (batches : List (List Op)) → AreBatches last batches → AreBatches last (take first batches)
batches_take zero last batches h = tt
batches_take (suc first) last [] h = tt
batches_take (suc first) last (ops ∷ rest) h = (h.0, batches_take first (last + length ops) rest h.1)

pub batches_append : (last : ℕ) (front rest : List (List Op)) → AreBatches last front → AreBatches (last + count_ops front) rest → AreBatches last (front ++ rest)
batches_append last [] rest h k = let e : last + 0 ≡ last = omega arith in subst (λ (n : ℕ). AreBatches n rest) e k
batches_append last (ops ∷ front) rest h k =
    let e : last + (length ops + count_ops front) ≡ last + length ops + count_ops front = omega arith in
    (h.0, batches_append (last + length ops) front rest h.1 (subst (λ (n : ℕ). AreBatches n rest) e k))

pub front_batches : (last : ℕ) (front rest : List (List Op)) → AreBatches last (front ++ rest) → AreBatches last front
front_batches last [] rest h = tt
front_batches last (ops ∷ front) rest h = (h.0, front_batches (last + length ops) front rest h.1)

pub rest_batches : (last : ℕ) (front rest : List (List Op)) → AreBatches last (front ++ rest) → AreBatches (last + count_ops front) rest
rest_batches last [] rest h = let e : last ≡ last + 0 = omega arith in subst (λ (n : ℕ). AreBatches n rest) e h
rest_batches last (ops ∷ front) rest h =
    let e : last + length ops + count_ops front ≡ last + (length ops + count_ops front) = omega arith in
    subst (λ (n : ℕ). AreBatches n rest) e (rest_batches (last + length ops) front rest h.1)

-- ---- their payloads

pub payloads_append : (last : ℕ) (front rest : List (List Op)) → payloads_behind last (front ++ rest) ≡ payloads_behind last front ++ payloads_behind (last + count_ops front) rest
payloads_append last [] rest = let e : last ≡ last + 0 = omega arith in ap (λ (n : ℕ). payloads_behind n rest) e
payloads_append last (ops ∷ front) rest =
    let e : last + length ops + count_ops front ≡ last + (length ops + count_ops front) = omega arith in
    ap (λ (l : List (List ℕ)). spelling (last + 1) ops ∷ l)
    (payloads_append (last + length ops) front rest ∙ ap (λ (n : ℕ). payloads_behind (last + length ops) front ++ payloads_behind n rest) e)

pub payloads_take : (first last : ℕ) (batches : List (List Op)) → take first (payloads_behind last batches) ≡ payloads_behind last (take first batches)
payloads_take zero last batches = refl
payloads_take (suc first) last [] = refl
payloads_take (suc first) last (ops ∷ rest) = ap (λ (l : List (List ℕ)). spelling (last + 1) ops ∷ l) (payloads_take first (last + length ops) rest)

pub payloads_length : (last : ℕ) (batches : List (List Op)) → length (payloads_behind last batches) ≡ length batches
payloads_length last [] = refl
payloads_length last (ops ∷ rest) = ap suc (payloads_length (last + length ops) rest)

-- what is spelled is read again
pub read_again : (seq : ℕ) (ops : List Op) → IsBatch seq ops → batch_of (spelling seq ops) ≡ Ok (seq, ops)
read_again seq ops h = by (batch_of (spelling seq ops)) refl
  where
    by : (read : Result (ℕ × List Op) ℕ) → batch_of (spelling seq ops) ≡ read → batch_of (spelling seq ops) ≡ Ok (seq, ops)
    by (Ok x) e =
        let found : Numbered = record { seq = x.0; ops = x.1 } in
        let is = decoded_only (spelling seq ops) (Ok found) e seq ops h refl in
        e ∙ (λ i. Ok (is.0 i, is.1 i))
    by (Err left) e = absurd (decoded_only (spelling seq ops) (Err (errors.BadBatch (length (spelling seq ops) - left))) (left, e, refl) seq ops h refl)
