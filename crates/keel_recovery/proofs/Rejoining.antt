-- An opening that goes on with a story: the first batches of its limbo that the directory shows are published from then on.
use Rattle.std.proofs.Common.{◌≡◌, ℕ, ◌+◌, List, ◌++◌, length, take, drop, refl, sym, ap, ◌∙◌, arith, append_assoc, take-append-drop}
use Rattle.std.proofs.lemmas.List.{length-append, take_at}
use Rattle.keel_base.specs.declared.op.Op.{Op}
use Rattle.keel_base.specs.Points.{Point, fold_batches}
use Rattle.keel_directory.specs.Standing.{ReadsAs}
use Rattle.keel_disk.specs.Directory.{Named}
use Rattle.keel_disk.specs.Plain.{image_read}
use Rattle.keel_disk.specs.State.{State as Disk}
use Rattle.keel_machine.specs.Opening.{GoesOn}
use Rattle.keel_machine.specs.States.{Story, joined_story}
use Rattle.keel_recovery.specs.Leaving.{IsLeft}
use Rattle.keel_recovery.specs.Standing.{InPrefixes, ReadsIn}

module _ (story : Story) (joined : ℕ) where
  abbrev then_ : Story
  then_ = joined_story joined story

  all_same : then_.log ++ then_.limbo ≡ story.log ++ story.limbo
  all_same = append_assoc story.log (take joined story.limbo) (drop joined story.limbo) ∙ ap (λ (l : List (List Op)). story.log ++ l) (take-append-drop joined story.limbo)

  size_same : length then_.log + length then_.limbo ≡ length story.log + length story.limbo
  size_same = omega (arith, length-append then_.log then_.limbo, ap length all_same, length-append story.log story.limbo)

  prefix_joined : (least : ℕ) (point : Point) → InPrefixes story least point → InPrefixes then_ least point
  prefix_joined least point is = record {
    count = is.count;
    enough = is.enough;
    within = omega (arith, is.within, size_same);
    point_is = is.point_is ∙ ap (λ (l : List (List Op)). fold_batches story.start (take is.count l)) (sym all_same);
  }

  reads_joined : (least : ℕ) (image : Named (List ℕ)) → ReadsIn story least image → ReadsIn then_ least image
  reads_joined least image reads = (reads.0, reads.1, prefix_joined least reads.0 reads.2)

  -- the device that was left for the story is left for that
  pub left_joined : (state : Disk) (point : Point) → IsLeft state story → GoesOn story joined point → ReadsAs (image_read state) point → IsLeft state then_
  left_joined state point h goes reads = record {
    one_to_one = h.one_to_one;
    cuts = h.cuts;
    uncut = h.uncut;
    read = h.read;
    floor_within = omega (arith, h.floor_within, length-append story.log (take joined story.limbo));
    stands = record {
      images = λ image plain. reads_joined story.floor image (h.stands.images image plain);
      now = (
        point,
        reads,
        record {
          count = length then_.log;
          enough = omega arith;
          within = omega arith;
          point_is = goes.point_is ∙ ap (fold_batches story.start) (sym (take_at then_.log then_.limbo (length then_.log) refl));
        },
      );
    };
    listed = h.listed;
    within = h.within;
    steady = h.steady;
  }
