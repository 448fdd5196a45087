-- A crash leaves a device at rest, and a device at rest has one image.
use Rattle.std.proofs.Common.{◌≡◌, ℕ, zero, suc, ◌+◌, ◌<◌, ◌||◌, true, false, List, [], ◌∷◌, All, length, take, Some, None, refl, sym, ◌∙◌, ap, subst, arith, if◌then◌else◌, eqb, eqb-true}
use Rattle.std.proofs.lemmas.List.Elements.{All-nil, All-cons}
use Rattle.keel_base.specs.declared.file_name.FileName.{FileName}
use Rattle.keel_base.specs.Name.{name_eq}
use Rattle.keel_disk.specs.declared.state.File.{File}
use Rattle.keel_disk.specs.declared.state.Operation.{Operation}
use Rattle.keel_disk.specs.Directory.{Named, find, operated_all}
use Rattle.keel_disk.specs.State.{State, file_at, files_operated_all, settled_through}
use Rattle.keel_disk.specs.Image.{IsFileImage, AreImages, Image, firm_file, image_files, image_names, restarted, IsFirm, AllFirm}
use Rattle.keel_disk.specs.Plain.{has_fragments, PlainWhere, ArePlain, PlainImage, bytes_read, image_read}
use Rattle.keel_disk.specs.Sound.{has_number, AreOwn, IsFile, IsSound, IsAtRest}
use Rattle.keel_disk.proofs.Images.{firm_image}
use Rattle.keel_disk.proofs.SoundFiles.{is_file_at}

-- ---- behind a crash

firm_at : (number : ℕ) (image : Named (List ℕ)) → IsFirm (file_at number (image_files image))
firm_at number [] = record { whole = refl; read = refl; not_spoilt = refl }
firm_at zero (entry ∷ image) = record { whole = refl; read = refl; not_spoilt = refl }
firm_at (suc number) (entry ∷ image) = firm_at number image

all_firm : (image : Named (List ℕ)) (directory : Named ℕ) → AllFirm (image_files image) directory
all_firm image [] = tt
all_firm image (entry ∷ rest) = (firm_at entry.1 image, all_firm image rest)

-- numbers from one on haven't a smaller one
later : (number first : ℕ) (image : Named (List ℕ)) → number < first → has_number number (image_names first image) ≡ false
later number first [] lt = refl
later number first (entry ∷ image) lt =
    elim (eqb first number) as (λ b. eqb first number ≡ b → (b || has_number number (image_names (first + 1) image)) ≡ false) [
      | true ↦ λ same. absurd (omega (arith, eqb-true first number same))
      | false ↦ λ _. later number (first + 1) image (omega arith)
    ] refl

-- an image has the names of its directory
absent : (name : FileName) (first : ℕ) (files : List File) (directory : Named ℕ) (image : Named (List ℕ)) → AreImages files directory image
    → find name directory ≡ None → find name (image_names first image) ≡ None
absent name first files [] [] images none = refl
absent name first files [] (_ ∷ _) images none = absurd images
absent name first files (_ ∷ _) [] images none = absurd images
absent name first files (entry ∷ rest) (found ∷ image) images none =
    let here : name_eq found.0 name ≡ name_eq entry.0 name = ap (λ n. name_eq n name) images.0 in
    elim (name_eq entry.0 name) as (λ b. name_eq found.0 name ≡ b → (if b then Some entry.1 else find name rest) ≡ None → find name (image_names first (found ∷ image)) ≡ None) [
      | true ↦ λ same some. cc
      | false ↦ λ differs behind. rw differs (absent name (first + 1) files rest image images.2 behind)
    ] here none

own_names : (bound first : ℕ) (files : List File) (directory : Named ℕ) (image : Named (List ℕ)) → AreOwn bound directory → AreImages files directory image
    → AreOwn (first + length image) (image_names first image)
own_names bound first files [] [] own images = tt
own_names bound first files [] (_ ∷ _) own images = absurd images
own_names bound first files (_ ∷ _) [] own images = absurd images
own_names bound first files (entry ∷ rest) (found ∷ image) own images =
    let count : (first + 1) + length image ≡ first + length (found ∷ image) = omega arith in (
      record {
        is_name = rw images.0 own.0.is_name;
        exists = omega arith;
        own_file = later first (first + 1) image (omega arith);
        once = rw images.0 (absent entry.0 (first + 1) files rest image images.2 own.0.once);
      },
      subst (λ b. AreOwn b (image_names (first + 1) image)) count (own_names bound (first + 1) files rest image own.1 images.2),
    )

length-image_files : (image : Named (List ℕ)) → length (image_files image) ≡ length image
length-image_files [] = refl
length-image_files (_ ∷ image) = omega (arith, length-image_files image)

sound_files : (files : List File) (directory : Named ℕ) (image : Named (List ℕ)) → AreImages files directory image → All IsFile (image_files image)
sound_files files [] [] images = All-nil IsFile
sound_files files [] (_ ∷ _) images = absurd images
sound_files files (_ ∷ _) [] images = absurd images
sound_files files (entry ∷ rest) (found ∷ image) images =
    All-cons IsFile (firm_file found.1) (image_files image)
    (record { firm_is_meant = omega arith; meant_are = images.1.in_range; read_are = images.1.in_range })
    (sound_files files rest image images.2)

none_done : (count : ℕ) → take count (let none : List Operation = [] in none) ≡ []
none_done zero = refl
none_done (suc count) = refl

pub crash_rests : (state : State) (image : Named (List ℕ)) → IsSound state → Image state image → IsAtRest (restarted image)
crash_rests state image sound (count, images) =
    let settled = settled_through count state in
    let own = own_names (length state.files) 0 settled.files settled.firm image (sound.one_to_one count) images in
    let own_all : AreOwn (length (image_files image)) (image_names 0 image) = subst (λ b. AreOwn b (image_names 0 image)) (omega (arith, length-image_files image)) own in
    record {
      settled = record { none_waits = refl; firm = all_firm image (image_names 0 image) };
      sound = record {
        one_to_one = λ k. subst (λ operations. AreOwn (length (image_files image)) (operated_all operations (image_names 0 image))) (sym (none_done k)) own_all;
        files = sound_files settled.files settled.firm image images;
      };
    }

-- ---- at rest

read_is_image : (file : File) → IsFile file → IsFirm file → IsFileImage file file.read
read_is_image file is firm = record {
  no_shorter = omega (arith, firm.whole, ap length firm.read);
  no_longer = omega (arith, ap length firm.read);
  agrees = ap (λ (bytes : List ℕ). take file.firm bytes) firm.read;
  in_range = is.read_are;
}

reads_are_images : (files : List File) (directory : Named ℕ) → All IsFile files → AllFirm files directory → AreImages files directory (bytes_read files directory)
reads_are_images files [] all firm = tt
reads_are_images files (entry ∷ rest) all firm = (refl, read_is_image (file_at entry.1 files) (is_file_at entry.1 files all) firm.0, reads_are_images files rest all firm.1)

-- what was meant is plain
reads_are_plain : (files : List File) (directory : Named ℕ) → AllFirm files directory → ArePlain files directory (bytes_read files directory)
reads_are_plain files [] firm = tt
reads_are_plain files (entry ∷ rest) firm =
    let file = file_at entry.1 files in
    let here : PlainWhere (has_fragments entry.0) file.meant file.read = elim (has_fragments entry.0) as (λ b. PlainWhere b file.meant file.read) [
      | true ↦ subst (λ (bytes : List ℕ). PlainWhere true file.meant bytes) (sym firm.0.read) (λ pieces first last payload on_meant on_image. on_image)
      | false ↦ tt
    ] in
    (here, reads_are_plain files rest firm.1)

images_are_reads : (files : List File) (directory : Named ℕ) (image : Named (List ℕ)) → AllFirm files directory → AreImages files directory image → image ≡ bytes_read files directory
images_are_reads files [] [] firm images = refl
images_are_reads files [] (_ ∷ _) firm images = absurd images
images_are_reads files (_ ∷ _) [] firm images = absurd images
images_are_reads files (entry ∷ rest) (found ∷ image) firm images =
    let bytes : found.1 ≡ (file_at entry.1 files).read = firm_image (file_at entry.1 files) found.1 firm.0.whole images.1 ∙ sym firm.0.read in
    let behind = images_are_reads files rest image firm.1 images.2 in
    same_front found (entry.0, (file_at entry.1 files).read) image (bytes_read files rest) images.0 bytes behind
  where
    same_front : (a b : FileName × List ℕ) (us vs : Named (List ℕ)) → a.0 ≡ b.0 → a.1 ≡ b.1 → us ≡ vs → a ∷ us ≡ b ∷ vs
    same_front a b us vs name bytes rest = λ i. (name i, bytes i) ∷ rest i

pub rest_has_image : (state : State) → IsAtRest state → PlainImage state (image_read state)
rest_has_image state rest =
    let shows = λ (operations : List Operation). AreImages state.files state.firm (bytes_read state.files (operated_all operations state.firm)) × ArePlain state.files state.firm (bytes_read state.files (operated_all operations state.firm)) in
    let here : shows [] = (reads_are_images state.files state.firm rest.sound.files rest.settled.firm, reads_are_plain state.files state.firm rest.settled.firm) in
    (0, subst shows (sym rest.settled.none_waits) here)

pub rest_has_one : (state : State) → IsAtRest state → (image : Named (List ℕ)) → Image state image → image ≡ image_read state
rest_has_one state rest image (count, images) =
    let none : take count state.waiting ≡ [] = ap (λ (operations : List Operation). take count operations) rest.settled.none_waits ∙ none_done count in
    let firm : AreImages state.files state.firm image = subst (λ (operations : List Operation). AreImages (files_operated_all operations state.files) (operated_all operations state.firm) image) none images in
    images_are_reads state.files state.firm image rest.settled.firm firm
    ∙ ap (λ (operations : List Operation). bytes_read state.files (operated_all operations state.firm)) (sym rest.settled.none_waits)
