-- Images and plain images don't depend on what reads give.
use Rattle.std.proofs.Common.{◌≡◌, ◌⊎◌, ℕ, List, [], ◌∷◌, length, map, ap, subst, arith, IsSomeAnd}
use Rattle.keel_disk.specs.declared.state.File.{File}
use Rattle.keel_disk.specs.declared.change.Change.{Change}
use Rattle.keel_disk.specs.Directory.{Named}
use Rattle.keel_disk.specs.State.{State, file_at}
use Rattle.keel_disk.specs.Step.{done}
use Rattle.keel_disk.specs.Image.{IsFileImage, AreImages, Image, Mid}
use Rattle.keel_disk.specs.Plain.{has_fragments, PlainWhere, ArePlain, PlainImage, PlainMid}
use Rattle.keel_disk.proofs.Crashes.{crash_view, same_at, mid_shows}

same_image : (file other : File) (bytes : List ℕ) → crash_view file ≡ crash_view other → IsFileImage file bytes → IsFileImage other bytes
same_image file other bytes same image =
    let meant : file.meant ≡ other.meant = ap (λ (v : List ℕ × ℕ). v.0) same in
    let firm : file.firm ≡ other.firm = ap (λ (v : List ℕ × ℕ). v.1) same in
    record {
      no_shorter = omega (arith, image.no_shorter, firm);
      no_longer = omega (arith, image.no_longer, ap length meant);
      agrees = rw (← firm, ← meant) image.agrees;
      in_range = image.in_range;
    }

same_images : (files others : List File) (directory : Named ℕ) (image : Named (List ℕ)) → map crash_view files ≡ map crash_view others
    → AreImages files directory image → AreImages others directory image
same_images files others [] [] same images = images
same_images files others [] (_ ∷ _) same images = absurd images
same_images files others (_ ∷ _) [] same images = absurd images
same_images files others (entry ∷ rest) (found ∷ image) same images =
    (images.0, same_image (file_at entry.1 files) (file_at entry.1 others) found.1 (same_at entry.1 files others same) images.1, same_images files others rest image same images.2)

same_plain : (files others : List File) (directory : Named ℕ) (image : Named (List ℕ)) → map crash_view files ≡ map crash_view others
    → ArePlain files directory image → ArePlain others directory image
same_plain files others [] [] same plain = plain
same_plain files others [] (_ ∷ _) same plain = absurd plain
same_plain files others (_ ∷ _) [] same plain = absurd plain
same_plain files others (entry ∷ rest) (found ∷ image) same plain =
    let meant : (file_at entry.1 files).meant ≡ (file_at entry.1 others).meant = ap (λ (v : List ℕ × ℕ). v.0) (same_at entry.1 files others same) in
    (subst (λ (m : List ℕ). PlainWhere (has_fragments entry.0) m found.1) meant plain.0, same_plain files others rest image same plain.1)

pub mid_image : (state : State) (change : Change) (image : Named (List ℕ)) → Mid state change image → Image state image ⊎ IsSomeAnd (done change state) (λ after. Image after image)
mid_image state change image mid = mid_shows AreImages same_images state change image mid

pub mid_plain : (state : State) (change : Change) (image : Named (List ℕ)) → PlainMid state change image → PlainImage state image ⊎ IsSomeAnd (done change state) (λ after. PlainImage after image)
mid_plain state change image mid =
    mid_shows (λ files directory found. AreImages files directory found × ArePlain files directory found)
    (λ files others directory found same both. (same_images files others directory found same both.0, same_plain files others directory found same both.1))
    state change image mid
