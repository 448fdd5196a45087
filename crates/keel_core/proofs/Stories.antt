-- How a story goes on that has the batches of a trail behind others.
use Rattle.std.proofs.Common.{◌≡◌, ℕ, suc, ◌+◌, Bool, true, false, List, [], ◌∷◌, ◌++◌, length, take, drop, refl, sym, ap, ◌∙◌, arith, append_assoc}
use Rattle.std.proofs.lemmas.List.{length-append, take-append-drop}
use Rattle.keel_base.specs.Points.{Point, after_batch, fold_batches}
use Rattle.keel_base.specs.declared.op.Batch.{Batch}
use Rattle.keel_base.specs.declared.op.Op.{Op}
use Rattle.keel_machine.specs.Admission.{ops_of}
use Rattle.keel_machine.specs.Resuming.{cleared_story}
use Rattle.keel_machine.specs.States as machine
use Rattle.keel_machine.specs.States.{Story, point_of}
use Rattle.keel_draft.specs.Drafts.{count_ops}
use Rattle.keel_core.specs.Trails.{Continues, TrailShown, cleared, handed, published, seq_in}
use Rattle.keel_core.proofs.Lists.{count_ops-append}

pub ops_of-append : (front back : List Batch) → ops_of (front ++ back) ≡ ops_of front ++ ops_of back
ops_of-append [] back = refl
ops_of-append (batch ∷ front) back = ap (λ (l : List (List Op)). batch.ops ∷ l) (ops_of-append front back)

pub fold_batches-append : (point : Point) (front back : List (List Op)) → fold_batches point (front ++ back) ≡ fold_batches (fold_batches point front) back
fold_batches-append point [] back = refl
fold_batches-append point (ops ∷ front) back = fold_batches-append (after_batch point ops) front back

pub seq-fold_batches : (point : Point) (batches : List (List Op)) → (fold_batches point batches).seq ≡ point.seq + count_ops batches
seq-fold_batches point [] = omega arith
seq-fold_batches point (ops ∷ batches) =
    let first : count_ops (ops ∷ batches) ≡ length ops + count_ops batches = refl in
    omega (arith, first, seq-fold_batches (after_batch point ops) batches)

-- ---- the number of the last op

pub last_same : {booted : Bool} (trail : TrailShown) (story : Story) → Continues booted trail story → (point_of story).seq ≡ seq_in trail
last_same trail story h =
    let split = ap (λ (l : List (List Op)). (fold_batches story.start l).seq) h.log_is ∙ ap (λ (p : Point). p.seq) (fold_batches-append story.start h.earlier trail.log) in
    let sum = seq-fold_batches (fold_batches story.start h.earlier) trail.log in
    let start = h.start_is in
    omega (arith, split, sum, start)

pub seq_published : (trail : TrailShown) (sync : Bool) → seq_in (published sync trail) ≡ seq_in trail + count_ops trail.limbo
seq_published trail sync = omega (arith, count_ops-append trail.log trail.limbo)

-- ---- it goes on

pub handed_on : {booted : Bool} (trail : TrailShown) (story : Story) (batches : List (List Op)) → Continues booted trail story → Continues booted (handed batches trail) (machine.handed batches story)
handed_on trail story batches h = record {
  earlier = h.earlier;
  start_is = h.start_is;
  log_is = h.log_is;
  limbo_is = λ is. ap (λ (l : List (List Op)). l ++ batches) (h.limbo_is is);
  floor_is = h.floor_is;
}

log_published : (trail : TrailShown) (story : Story) (h : Continues true trail story) → story.log ++ story.limbo ≡ h.earlier ++ (trail.log ++ trail.limbo)
log_published trail story h = (λ i. h.log_is i ++ h.limbo_is refl i) ∙ append_assoc h.earlier trail.log trail.limbo

floor_published : (sync : Bool) (trail : TrailShown) (story : Story) (h : Continues true trail story) → (machine.published sync story).floor ≡ length h.earlier + (published sync trail).floor
floor_published false trail story h = h.floor_is refl
floor_published true trail story h = ap length (log_published trail story h) ∙ length-append h.earlier (trail.log ++ trail.limbo)

pub published_on : (trail : TrailShown) (story : Story) (sync : Bool) → Continues true trail story → Continues true (published sync trail) (machine.published sync story)
published_on trail story sync h = record {
  earlier = h.earlier;
  start_is = h.start_is;
  log_is = log_published trail story h;
  limbo_is = λ is. refl;
  floor_is = λ is. floor_published sync trail story h;
}

pub cleared_on : {booted : Bool} (trail : TrailShown) (story : Story) → Continues booted trail story → Continues true (cleared trail) (cleared_story story)
cleared_on trail story h = record {
  earlier = h.earlier;
  start_is = h.start_is;
  log_is = h.log_is;
  limbo_is = λ is. refl;
  floor_is = λ is. ap length h.log_is ∙ length-append h.earlier trail.log;
}

-- ---- a trail's own batches

drop_whole : {A : Type 0} (items : List A) → drop (length items) items ≡ []
drop_whole [] = refl
drop_whole (item ∷ items) = drop_whole items

take_whole : {A : Type 0} (items : List A) → take (length items) items ≡ items
take_whole [] = refl
take_whole (item ∷ items) = ap (λ l. item ∷ l) (take_whole items)

length-ops_of : (batches : List Batch) → length (ops_of batches) ≡ length batches
length-ops_of [] = refl
length-ops_of (batch ∷ batches) = ap suc (length-ops_of batches)

-- all of a trail's batches are those that were published, and those that were in limbo
pub whole_log : (batches : List Batch) (count all : ℕ) → all ≡ length batches → ops_of (take all batches) ≡ ops_of (take count batches) ++ ops_of (drop count batches)
whole_log batches count all is =
    ap (λ n. ops_of (take n batches)) is ∙ ap ops_of (take_whole batches) ∙ sym (ap ops_of (take-append-drop count batches)) ∙ ops_of-append (take count batches) (drop count batches)

pub no_limbo : (batches : List Batch) (all : ℕ) → all ≡ length batches → ops_of (drop all batches) ≡ []
no_limbo batches all is = ap (λ n. ops_of (drop n batches)) is ∙ ap ops_of (drop_whole batches)

pub whole_length : (batches : List Batch) (count all : ℕ) → all ≡ length batches → all ≡ length (ops_of (take count batches) ++ ops_of (drop count batches))
whole_length batches count all is =
    is ∙ sym (length-ops_of batches) ∙ sym (ap (λ l. length (ops_of l)) (take_whole batches)) ∙ ap (λ n. length (ops_of (take n batches))) (sym is) ∙ ap (λ (l : List (List Op)). length l) (whole_log batches count all is)
