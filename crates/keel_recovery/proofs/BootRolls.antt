-- The rolls of a job are ways to its story.
use Rattle.std.proofs.Common.{◌≡◌, ℕ, zero, suc, ◌≤◌, List, [], ◌∷◌, length, take, drop, refl, sym, ap, subst, ◌∙◌, arith}
use Rattle.std.proofs.lemmas.List.{append-nil, take-append-le}
use Rattle.keel_base.specs.Points.{fold_batches}
use Rattle.keel_disk.specs.Directory.{Named, operated_all}
use Rattle.keel_disk.specs.Image.{AreImages}
use Rattle.keel_disk.specs.Plain.{ArePlain, image_read}
use Rattle.keel_disk.specs.Sound.{IsOneToOne}
use Rattle.keel_disk.specs.State.{State}
use Rattle.keel_directory.specs.TableFiles.{TableFile}
use Rattle.keel_edit.specs.declared.edit.Edit.{Edit}
use Rattle.keel_machine.specs.States.{Story}
use Rattle.keel_recovery.specs.Booting.{IsBooting, IsRoll}
use Rattle.keel_machine.specs.Resuming.{cleared_story}
use Rattle.keel_recovery.specs.BootLaws.{BootingStands}
use Rattle.keel_recovery.specs.Keeping.{HoldStory}
use Rattle.keel_recovery.specs.Roots.{IsRoot, AreRoots}
use Rattle.keel_recovery.specs.Standing.{InPrefixes, ReadsIn}
use Rattle.keel_recovery.proofs.BootStands.{same_files, stands}
use Rattle.keel_recovery.proofs.Stands.{way_reads, way_is_read}

-- of one edit, the only number from one to all is one
one_taken : (count : ℕ) (edits : List Edit) → length edits ≡ 1 → 1 ≤ count → take count edits ≡ edits
one_taken zero edits one some = absurd (omega (arith, some))
one_taken (suc zero) [] one some = refl
one_taken (suc (suc count)) [] one some = refl
one_taken (suc zero) (edit ∷ []) one some = refl
one_taken (suc (suc count)) (edit ∷ []) one some = refl
one_taken (suc count) (edit ∷ other ∷ edits) one some = absurd (omega (arith, one))

all_dropped : {A : Type 0} (xs : List A) → drop (length xs) xs ≡ []
all_dropped [] = refl
all_dropped (x ∷ xs) = all_dropped xs

-- what has all that is published has what must not be lost
pub reads_story : (story : Story) (least : ℕ) → least ≤ length story.log → (image : Named (List ℕ)) → ReadsIn (cleared_story story) (length story.log) image → ReadsIn story least image
reads_story story least most image reads = (reads.0, reads.1, in_story reads.2)
  where
    in_story : InPrefixes (cleared_story story) (length story.log) reads.0 → InPrefixes story least reads.0
    in_story is =
        let all : is.count ≤ length story.log = omega (arith, is.within) in
        record {
          count = is.count;
          enough = omega (arith, most, is.enough);
          within = omega (arith, all);
          point_is = is.point_is ∙ ap (fold_batches story.start) (take-append-le is.count story.log [] all ∙ sym (take-append-le is.count story.log story.limbo all));
        }

module _ (bound : ℕ) (old : State) (levels : List TableFile) (story : Story) (next_file : ℕ) (state : State) (one : IsOneToOne state) (within : story.floor ≤ length story.log) (booting : IsBooting bound old levels story next_file state) where
  abbrev all_in : Story
  all_in = cleared_story story

  -- the tables of a roll have all that is published
  pub holds : HoldStory (length story.log) [] all_in state
  holds = record {
    in_turn = tt;
    batches_are = ap (drop (length story.log)) (append-nil story.log) ∙ all_dropped story.log;
    limits = tt;
    place_within = omega arith;
    floor_within = omega arith;
    chained = tt;
  }

  pub roots : (count : ℕ) (roll : IsRoll count all_in next_file state) → AreRoots roll.way [] all_in next_file state
  roots count roll number least most =
      subst (λ edits. IsRoot edits [] all_in next_file state) (sym (one_taken number roll.way.edits roll.one (omega (arith, roll.is_way.some, least)))) roll.root

  rolls_read : (count : ℕ) (image : Named (List ℕ)) → AreImages state.files (operated_all (take count state.waiting) state.firm) image → ArePlain state.files (operated_all (take count state.waiting) state.firm) image
      → IsRoll count all_in next_file state → ReadsIn story story.floor image
  rolls_read count image are plain roll =
      let files = sym (same_files bound old levels story next_file state one booting count) in
      reads_story story story.floor within image
      (way_reads roll.way (length story.log) next_file count [] all_in state image one roll.is_way roll.goes (roots count roll) holds (
        subst (λ fs. AreImages fs (operated_all (take count state.waiting) state.firm) image) files are,
        subst (λ fs. ArePlain fs (operated_all (take count state.waiting) state.firm) image) files plain,
      ))

  rolls_now : IsRoll (length state.waiting) all_in next_file state → ReadsIn story (length story.log) (image_read state)
  rolls_now roll =
      reads_story story (length story.log) (omega arith) (image_read state)
      (way_is_read roll.way (length story.log) next_file [] all_in state one booting.read roll.is_way roll.goes (roots (length state.waiting) roll) holds)

pub booting_stands : BootingStands
booting_stands bound old levels story next_file state one within booting =
    stands bound old levels story next_file state one booting
    (rolls_now bound old levels story next_file state one within booting)
    (rolls_read bound old levels story next_file state one within booting)
