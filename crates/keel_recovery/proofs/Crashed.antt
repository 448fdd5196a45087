-- A crash leaves a device at rest, which stands for a prefix of the story.
use Rattle.std.proofs.Common.{◌≡◌, ℕ, ◌+◌, ◌≤◌, List, [], ◌∷◌, ◌++◌, length, take, refl, sym, ap, subst, ◌∙◌, arith, take_all}
use Rattle.std.proofs.lemmas.List.{append_assoc, append-nil, length-append, length-take}
use Rattle.std.proofs.Math.Seq.{get_or-append_seam}
use Rattle.keel_base.specs.Points.{fold_batches}
use Rattle.keel_disk.specs.declared.state.File.{File}
use Rattle.keel_disk.specs.Directory.{Named}
use Rattle.keel_disk.specs.State.{State, file_at, new_file}
use Rattle.keel_disk.specs.Image.{firm_file, image_files, image_names, restarted}
use Rattle.keel_disk.specs.Plain.{PlainImage, bytes_read, image_read}
use Rattle.keel_disk.specs.Sound.{IsSound, IsAtRest}
use Rattle.keel_disk.proofs.Resting.{crash_rests}
use Rattle.keel_machine.specs.States.{Story, cut_story}
use Rattle.keel_recovery.specs.Crashing.{LeavesPrefix}
use Rattle.keel_recovery.specs.Standing.{ReadsIn, Stands}
use Rattle.keel_recovery.proofs.Resting.{rest_stands}

read_behind : (front : List File) (image : Named (List ℕ)) (files : List File) → files ≡ front ++ image_files image → bytes_read files (image_names (length front) image) ≡ image
read_behind front [] files e = refl
read_behind front (entry ∷ rest) files e =
    let file = firm_file entry.1 in
    let here : file_at (length front) files ≡ file = ap (λ (l : List File). file_at (length front) l) e ∙ get_or-append_seam front file (image_files rest) new_file in
    let read : (file_at (length front) files).read ≡ entry.1 = ap (λ (f : File). f.read) here in
    let number : length (front ++ file ∷ []) ≡ length front + 1 = omega (arith, length-append front (file ∷ [])) in
    let later = read_behind (front ++ file ∷ []) rest files (e ∙ sym (append_assoc front (file ∷ []) (image_files rest))) in
    let behind : bytes_read files (image_names (length front + 1) rest) ≡ rest = subst (λ (n : ℕ). bytes_read files (image_names n rest) ≡ rest) number later in
    λ i. (entry.0, read i) ∷ behind i

-- reads of the device that a crash left give the image
pub read_restarted : (image : Named (List ℕ)) → image_read (restarted image) ≡ image
read_restarted image = read_behind [] image (image_files image) refl

reads_cut : (story : Story) (least : ℕ) (image : Named (List ℕ)) (read : ReadsIn story least image) (bound : ℕ) → bound ≤ read.2.count → ReadsIn (cut_story read.2.count story) bound image
reads_cut story least image read bound within =
    let count = read.2.count in
    let all = story.log ++ story.limbo in
    let size : length (take count all) ≡ count = omega (arith, length-take count all, read.2.within, length-append story.log story.limbo) in
    let same : take count (take count all ++ []) ≡ take count all = ap (take count) (append-nil (take count all)) ∙ take_all count (take count all) (omega (arith, size)) in (
      read.0,
      read.1,
      record { count = count; enough = within; within = omega (arith, size); point_is = read.2.point_is ∙ ap (fold_batches story.start) (sym same) },
    )

pub reading_leaves : (story : Story) (image : Named (List ℕ)) → IsAtRest (restarted image) → ReadsIn story story.floor image → LeavesPrefix image story
reading_leaves story image rest read =
    let count = read.2.count in
    let size : length (take count (story.log ++ story.limbo)) ≡ count = omega (arith, length-take count (story.log ++ story.limbo), read.2.within, length-append story.log story.limbo) in
    let cut : (bound : ℕ) → bound ≤ count → ReadsIn (cut_story count story) bound (image_read (restarted image)) =
    λ bound within. subst (ReadsIn (cut_story count story) bound) (sym (read_restarted image)) (reads_cut story story.floor image read bound within) in
    record {
      count = count;
      not_lost = read.2.enough;
      within = read.2.within;
      at_rest = rest;
      after_crash = record { none_in_limbo = refl; all_stay = sym size };
      stands = rest_stands (restarted image) (cut_story count story) rest (cut count (omega arith)) (cut (length (take count (story.log ++ story.limbo))) (omega (arith, size)));
    }

pub crash_leaves : (state : State) (story : Story) (image : Named (List ℕ)) → IsSound state → Stands state story → PlainImage state image → LeavesPrefix image story
crash_leaves state story image sound stands plain = reading_leaves story image (crash_rests state image sound (plain.0, plain.1.0)) (stands.images image plain)
