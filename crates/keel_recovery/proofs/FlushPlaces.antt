-- The place of a story behind the batches of the first log.
use Rattle.std.proofs.Common.{◌≡◌, ℕ, ◌+◌, ◌^◌, ◌≤◌, List, [], ◌∷◌, length, drop, refl, sym, ap, subst, ◌∙◌, arith}
use Rattle.std.proofs.lemmas.List.{drop_at, drop-drop}
use Rattle.keel_base.specs.declared.op.Op.{Op}
use Rattle.keel_base.specs.Points.{Point, fold_batches}
use Rattle.keel_batch.specs.Batches.{AreBatches}
use Rattle.keel_disk.specs.State.{State}
use Rattle.keel_draft.specs.Drafts.{count_ops}
use Rattle.keel_machine.specs.States.{Story}
use Rattle.keel_recovery.specs.Chains.{Chained, FollowOn, batches_of}
use Rattle.keel_recovery.specs.Keeping.{HoldStory}
use Rattle.keel_recovery.specs.Roots.{point_at}
use Rattle.keel_recovery.proofs.Numbering.{front_batches, rest_batches, seq_folded}
use Rattle.keel_recovery.proofs.Onward.{all_of, behind_log}

-- a batch has an op, whose number is one
pub some_ops : (last : ℕ) (batches : List (List Op)) → 1 ≤ length batches → AreBatches last batches → 1 ≤ count_ops batches
some_ops last [] some are = absurd (omega (arith, some))
some_ops last (ops ∷ batches) some are = omega (arith, are.0.some)

pub last_known : (most last : ℕ) (batches : List (List Op)) → most ≡ 2 ^ 56 → 1 ≤ length batches → AreBatches last batches → last ≤ most
last_known most last [] is some are = absurd (omega (arith, some))
last_known most last (ops ∷ batches) is some are = omega (arith, is, are.0.last)

module _ (place : ℕ) (first : Chained) (logs : List Chained) (story : Story) (state : State) (h : HoldStory place (first ∷ logs) story state) where
  abbrev pub later : ℕ
  later = place + length first.batches

  pub point_behind : point_at later story ≡ fold_batches (point_at place story) first.batches
  point_behind = behind_log place first.batches (batches_of logs) story h.batches_are

  pub seq_behind : (point_at place story).seq + count_ops first.batches ≡ (point_at later story).seq
  seq_behind = sym (ap (λ (p : Point). p.seq) point_behind ∙ seq_folded (point_at place story) first.batches)

  pub first_limits : AreBatches (point_at place story).seq first.batches
  first_limits = front_batches (point_at place story).seq first.batches (batches_of logs) h.limits

  -- the other logs hold the story from there on
  pub stored_behind : later ≤ length story.log → HoldStory later logs story state
  stored_behind published = record {
    in_turn = subst (λ (n : ℕ). FollowOn later n logs) seq_behind h.in_turn.2;
    batches_are = sym (drop-drop (length first.batches) place (all_of story)) ∙ ap (drop (length first.batches)) h.batches_are ∙ drop_at first.batches (batches_of logs) (length first.batches) refl;
    limits = subst (λ (n : ℕ). AreBatches n (batches_of logs)) seq_behind (rest_batches (point_at place story).seq first.batches (batches_of logs) h.limits);
    place_within = published;
    floor_within = h.floor_within;
    chained = h.chained.3;
  }
