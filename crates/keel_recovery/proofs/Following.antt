-- The batches of a chain, and how they go on with the story.
use Rattle.std.specs.List.{AllByRecursion}
use Rattle.std.proofs.Common.{◌≡◌, ℕ, ◌+◌, ◌≤◌, ◌||◌, Bool, true, false, List, [], ◌∷◌, ◌++◌, length, take, drop, refl, sym, ap, subst, ◌∙◌, arith, eqb, eq-eqb, take-append-drop}
use Rattle.std.proofs.lemmas.List.{append_assoc, append-nil, length-append, length-drop, take-append-le, drop-append-le}
use Rattle.keel_base.specs.Points.{Point, fold_batches}
use Rattle.keel_base.specs.declared.op.Op.{Op}
use Rattle.keel_batch.specs.Batches.{AreBatches}
use Rattle.keel_disk.specs.State.{State}
use Rattle.keel_disk.proofs.Owning.{either_false}
use Rattle.keel_draft.specs.Drafts.{count_ops}
use Rattle.keel_machine.specs.States.{Story, handed, published}
use Rattle.keel_recovery.specs.Calls.{point_handed, grown}
use Rattle.keel_recovery.specs.Chains.{Chained, batches_of, FollowOn, is_chained, AreChained}
use Rattle.keel_recovery.specs.Keeping.{HoldStory}
use Rattle.keel_recovery.specs.Roots.{point_at}
use Rattle.keel_recovery.proofs.Numbering.{folded_append, seq_folded, batches_append, counted_append}

-- ---- batches of a chain

pub batches_push : (front : List Chained) (log : Chained) → batches_of (front ++ log ∷ []) ≡ batches_of front ++ log.batches
batches_push [] log = append-nil log.batches
batches_push (first ∷ front) log = ap (λ (l : List (List Op)). first.batches ++ l) (batches_push front log) ∙ sym (append_assoc first.batches (batches_of front) log.batches)

pub follow_last : (before last : ℕ) (front : List Chained) (log : Chained) → FollowOn before last (front ++ log ∷ []) → (log.before ≡ before + length (batches_of front)) × (log.last ≡ last + count_ops (batches_of front))
follow_last before last [] log h = (omega (arith, h.0), omega (arith, h.1))
follow_last before last (first ∷ front) log h =
    let rest = follow_last (before + length first.batches) (last + count_ops first.batches) front log h.2 in
    (omega (arith, rest.0, length-append first.batches (batches_of front)), omega (arith, rest.1, counted_append first.batches (batches_of front)))

pub follow_changed : (before last : ℕ) (front : List Chained) (log next : Chained) → next.before ≡ log.before → next.last ≡ log.last → FollowOn before last (front ++ log ∷ []) → FollowOn before last (front ++ next ∷ [])
follow_changed before last [] log next b l h = (b ∙ h.0, l ∙ h.1, tt)
follow_changed before last (first ∷ front) log next b l h = (h.0, h.1, follow_changed (before + length first.batches) (last + count_ops first.batches) front log next b l h.2)

pub follow_push : (before last : ℕ) (logs : List Chained) (next : Chained) → next.before ≡ before + length (batches_of logs) → next.last ≡ last + count_ops (batches_of logs) → FollowOn before last logs → FollowOn before last (logs ++ next ∷ [])
follow_push before last [] next b l h = (omega (arith, b), omega (arith, l), tt)
follow_push before last (log ∷ logs) next b l h = (
  h.0,
  h.1,
  follow_push (before + length log.batches) (last + count_ops log.batches) logs next (omega (arith, b, length-append log.batches (batches_of logs)))
      (omega (arith, l, counted_append log.batches (batches_of logs))) h.2,
)

pub least_changed : (least : ℕ) (front : List Chained) (log next : Chained) → next.number ≡ log.number → AllByRecursion (λ (l : Chained). least ≤ l.number) (front ++ log ∷ []) → AllByRecursion (λ (l : Chained). least ≤ l.number) (front ++ next ∷ [])
least_changed least [] log next same h = (omega (arith, same, h.0), tt)
least_changed least (first ∷ front) log next same h = (h.0, least_changed least front log next same h.1)

pub least_last : (least : ℕ) (front : List Chained) (log : Chained) → AllByRecursion (λ (l : Chained). least ≤ l.number) (front ++ log ∷ []) → least ≤ log.number
least_last least [] log h = h.0
least_last least (first ∷ front) log h = least_last least front log h.1

pub least_push : (least : ℕ) (logs : List Chained) (next : Chained) → least ≤ next.number → AllByRecursion (λ (l : Chained). least ≤ l.number) logs → AllByRecursion (λ (l : Chained). least ≤ l.number) (logs ++ next ∷ [])
least_push least [] next le h = (le, tt)
least_push least (log ∷ logs) next le h = (h.0, least_push least logs next le h.1)

-- the numbers of a chain don't depend on its batches
pub chained_changed : (n : ℕ) (front : List Chained) (log next : Chained) → next.number ≡ log.number → is_chained n (front ++ next ∷ []) ≡ is_chained n (front ++ log ∷ [])
chained_changed n [] log next same = ap (λ k. eqb k n || false) same
chained_changed n (first ∷ front) log next same = ap (λ b. eqb first.number n || b) (chained_changed n front log next same)

pub unchained_push : (n : ℕ) (logs : List Chained) (next : Chained) → is_chained n (logs ++ next ∷ []) ≡ false → is_chained n logs ≡ false
unchained_push n [] next h = refl
unchained_push n (log ∷ logs) next h =
    let parts = either_false (eqb log.number n) (is_chained n (logs ++ next ∷ [])) h in
    rw parts.0 (unchained_push n logs next parts.1)

pub last_is_chained : (front : List Chained) (log : Chained) → is_chained log.number (front ++ log ∷ []) ≡ true
last_is_chained [] log = rw (eq-eqb log.number log.number refl) refl
last_is_chained (first ∷ front) log = or_true (eqb first.number log.number) (is_chained log.number (front ++ log ∷ [])) (last_is_chained front log)
  where
    or_true : (a b : Bool) → b ≡ true → (a || b) ≡ true
    or_true true b h = refl
    or_true false b h = h

-- ---- the end of the story

-- all batches that were handed over end with the last log's
pub record IsLast (story : Story) (log : Chained) : Type 0 where
  pub ends : log.before + length log.batches ≡ length (story.log ++ story.limbo)
  pub seq : log.last + count_ops log.batches ≡ (point_handed story).seq

pub at_end : (place : ℕ) (logs : List Chained) (story : Story) (state : State) → HoldStory place logs story state
    → (place + length (batches_of logs) ≡ length (story.log ++ story.limbo)) × ((point_at place story).seq + count_ops (batches_of logs) ≡ (point_handed story).seq)
at_end place logs story state h =
    let all = story.log ++ story.limbo in
    let parts : all ≡ take place all ++ batches_of logs = sym (take-append-drop place all) ∙ ap (λ (l : List (List Op)). take place all ++ l) h.batches_are in
    let point : point_handed story ≡ fold_batches (point_at place story) (batches_of logs) = ap (fold_batches story.start) parts ∙ folded_append story.start (take place all) (batches_of logs) in (
      omega (arith, ap length h.batches_are, length-drop place all, length-append story.log story.limbo, h.place_within),
      sym (ap (λ (p : Point). p.seq) point ∙ seq_folded (point_at place story) (batches_of logs)),
    )

pub last_ends : (place : ℕ) (front : List Chained) (log : Chained) (story : Story) (state : State) → HoldStory place (front ++ log ∷ []) story state → IsLast story log
last_ends place front log story state h =
    let end = at_end place (front ++ log ∷ []) story state h in
    let starts = follow_last place (point_at place story).seq front log h.in_turn in
    let all = batches_push front log in
    record {
      ends = omega (arith, end.0, starts.0, ap length all, length-append (batches_of front) log.batches);
      seq = omega (arith, end.1, starts.1, ap count_ops all, counted_append (batches_of front) log.batches);
    }

-- a point of the story stays where more is handed over, and where it is published
pub point_stays : (place : ℕ) (story : Story) (batches : List (List Op)) → place ≤ length story.log → point_at place (handed batches story) ≡ point_at place story
point_stays place story batches within =
    ap (fold_batches story.start)
    (take-append-le place story.log (story.limbo ++ batches) within ∙ sym (take-append-le place story.log story.limbo within))

pub same_all : (sync : Bool) (story : Story) → (published sync story).log ++ (published sync story).limbo ≡ story.log ++ story.limbo
same_all sync story = append-nil (story.log ++ story.limbo)

-- ---- the story

pub stored_handed : (place : ℕ) (front : List Chained) (log : Chained) (story : Story) (batches : List (List Op)) (state after : State) → HoldStory place (front ++ log ∷ []) story state
    → AreBatches (point_handed story).seq batches → AreChained story.floor (length story.log) (front ++ grown batches log ∷ []) after
    → HoldStory place (front ++ grown batches log ∷ []) (handed batches story) after
stored_handed place front log story batches state after h limits chained =
    let next = grown batches log in
    let all = story.log ++ story.limbo in
    let longer : batches_of (front ++ next ∷ []) ≡ batches_of (front ++ log ∷ []) ++ batches =
    batches_push front next ∙ sym (append_assoc (batches_of front) log.batches batches) ∙ ap (λ (l : List (List Op)). l ++ batches) (sym (batches_push front log)) in
    let point : point_at place (handed batches story) ≡ point_at place story = point_stays place story batches h.place_within in
    let whole : story.log ++ (story.limbo ++ batches) ≡ all ++ batches = sym (append_assoc story.log story.limbo batches) in
    let dropped : drop place (all ++ batches) ≡ drop place all ++ batches = drop-append-le place all batches (omega (arith, h.place_within, length-append story.log story.limbo)) in
    let end = at_end place (front ++ log ∷ []) story state h in
    record {
      in_turn = subst (λ (p : Point). FollowOn place p.seq (front ++ next ∷ [])) (sym point) (follow_changed place (point_at place story).seq front log next refl refl h.in_turn);
      batches_are = ap (drop place) whole ∙ dropped ∙ ap (λ (l : List (List Op)). l ++ batches) h.batches_are ∙ sym longer;
      limits = subst (λ (p : Point). AreBatches p.seq (batches_of (front ++ next ∷ []))) (sym point)
          (subst (AreBatches (point_at place story).seq) (sym longer)
          (batches_append (point_at place story).seq (batches_of (front ++ log ∷ [])) batches h.limits (subst (λ (n : ℕ). AreBatches n batches) (sym end.1) limits)));
      place_within = h.place_within;
      floor_within = h.floor_within;
      chained = chained;
    }

pub floor_published : (sync : Bool) (story : Story) → story.floor ≤ length story.log → (published sync story).floor ≤ length (published sync story).log
floor_published true story within = omega arith
floor_published false story within = omega (arith, within, length-append story.log story.limbo)

pub stored_published : (place : ℕ) (logs : List Chained) (sync : Bool) (story : Story) (state after : State) → HoldStory place logs story state
    → AreChained (published sync story).floor (length (published sync story).log) logs after → HoldStory place logs (published sync story) after
stored_published place logs sync story state after h chained =
    let point : point_at place (published sync story) ≡ point_at place story = ap (λ (l : List (List Op)). fold_batches story.start (take place l)) (same_all sync story) in
    record {
      in_turn = subst (λ (p : Point). FollowOn place p.seq logs) (sym point) h.in_turn;
      batches_are = ap (drop place) (same_all sync story) ∙ h.batches_are;
      limits = subst (λ (p : Point). AreBatches p.seq (batches_of logs)) (sym point) h.limits;
      place_within = omega (arith, h.place_within, length-append story.log story.limbo);
      floor_within = floor_published sync story h.floor_within;
      chained = chained;
    }
