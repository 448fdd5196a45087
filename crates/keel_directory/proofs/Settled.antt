-- A settled device has one image, which is what reads give.
use Rattle.std.proofs.Common.{◌≡◌, ℕ, zero, suc, ◌≤◌, List, [], ◌∷◌, length, take, refl, sym, ap, subst, ◌∙◌, arith}
use Rattle.keel_base.specs.declared.file_name.FileName.{FileName}
use Rattle.keel_base.specs.Points.{Point}
use Rattle.keel_disk.specs.declared.state.File.{File}
use Rattle.keel_disk.specs.declared.state.Operation.{Operation}
use Rattle.keel_disk.specs.Directory.{Named, operated_all}
use Rattle.keel_disk.specs.State.{State, file_at, files_operated_all}
use Rattle.keel_disk.specs.Image.{IsFileImage, AreImages, IsFirm, AllFirm, IsSettled}
use Rattle.keel_disk.specs.Plain.{PlainImage, bytes_read, image_read}
use Rattle.keel_directory.specs.Reading.{Reading, IsReading, HasPoint}
use Rattle.keel_directory.specs.Sound.{IsSoundReading}
use Rattle.keel_disk.specs.Standing.{ReadsIn}
use Rattle.keel_directory.specs.Standing.{ReadsAs, StandsRead}

take_whole : (n : ℕ) (xs : List ℕ) → length xs ≤ n → take n xs ≡ xs
take_whole zero [] h = refl
take_whole zero (x ∷ xs) h = absurd (omega arith)
take_whole (suc n) [] h = refl
take_whole (suc n) (x ∷ xs) h = ap (λ (t : List ℕ). x ∷ t) (take_whole n xs (omega arith))

none_taken : (count : ℕ) (waiting : List Operation) → waiting ≡ [] → take count waiting ≡ []
none_taken zero waiting e = refl
none_taken (suc count) waiting e = ap (take (suc count)) e

file_one : (file : File) (bytes : List ℕ) → IsFirm file → IsFileImage file bytes → bytes ≡ file.read
file_one file bytes firm image =
    sym (take_whole file.firm bytes (omega (arith, firm.whole, image.no_longer)))
    ∙ image.agrees
    ∙ take_whole file.firm file.meant (omega (arith, firm.whole))
    ∙ sym firm.read

entry_is : (a b : FileName × List ℕ) (us bs : Named (List ℕ)) → a.0 ≡ b.0 → a.1 ≡ b.1 → us ≡ bs → a ∷ us ≡ b ∷ bs
entry_is a b us bs p q r = λ i. (p i, q i) ∷ r i

images_one : (files : List File) (firm : Named ℕ) (image : Named (List ℕ)) → AllFirm files firm → AreImages files firm image → image ≡ bytes_read files firm
images_one files [] [] h k = refl
images_one files [] (f ∷ image) h k = absurd k
images_one files (e ∷ firm) [] h k = absurd k
images_one files (e ∷ firm) (f ∷ image) h k =
    entry_is f (e.0, (file_at e.1 files).read) image (bytes_read files firm) k.0 (file_one (file_at e.1 files) f.1 h.0 k.1) (images_one files firm image h.1 k.2)

image_one : (device : State) (image : Named (List ℕ)) → IsSettled device → PlainImage device image → image ≡ image_read device
image_one device image settled plain =
    let none = none_taken plain.0 device.waiting settled.none_waits in
    let images : AreImages device.files device.firm image =
    subst (λ (ops : List Operation). AreImages (files_operated_all ops device.files) (operated_all ops device.firm) image) none plain.1.0 in
    images_one device.files device.firm image settled.firm images
    ∙ ap (λ (ops : List Operation). bytes_read device.files (operated_all ops device.firm)) (sym settled.none_waits)

reads_in : (image : Named (List ℕ)) (reading : Reading) (point : Point) → IsReading image reading → IsSoundReading reading → HasPoint reading point → ReadsIn ReadsAs point [] [] 0 image
reads_in image reading point is sound has = (
  point,
  record { reading = reading; is_read = is; sound = sound; has = has },
  record { count = 0; enough = omega arith; within = omega arith; point_is = refl },
)

pub settled_stands : (device : State) (reading : Reading) (point : Point) → IsSettled device → IsReading (image_read device) reading → IsSoundReading reading → HasPoint reading point → StandsRead device point [] [] 0
settled_stands device reading point settled is sound has =
    let now = reads_in (image_read device) reading point is sound has in
    record {
      images = λ image plain. subst (λ (i : Named (List ℕ)). ReadsIn ReadsAs point [] [] 0 i) (sym (image_one device image settled plain)) now;
      now = now;
    }
