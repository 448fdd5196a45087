-- What an image, and what reads, have of one name.
use Rattle.std.specs.Prelude.{option_map}
use Rattle.std.proofs.Common.{◌≡◌, ℕ, true, false, List, [], ◌∷◌, Option, Some, None, refl, ap, subst, if◌then◌else◌}
use Rattle.keel_base.specs.declared.file_name.FileName.{FileName}
use Rattle.keel_base.specs.Name.{name_eq}
use Rattle.keel_base.proofs.Names.{name_eq-true}
use Rattle.keel_disk.specs.declared.state.File.{File}
use Rattle.keel_disk.specs.Directory.{Named, find}
use Rattle.keel_disk.specs.State.{file_at}
use Rattle.keel_disk.specs.Image.{IsFileImage, AreImages}
use Rattle.keel_disk.specs.Plain.{has_fragments, PlainWhere, ArePlain, bytes_read}

-- these bytes are a plain image of the file
pub record IsFileFound (name : FileName) (file : File) (bytes : List ℕ) : Type 0 where
  pub is_image : IsFileImage file bytes
  pub plain : PlainWhere (has_fragments name) file.meant bytes

-- what an image has of a name, by the file that the directory has
abbrev pub IsFound : List File → FileName → Option ℕ → Option (List ℕ) → Type 0
IsFound files name None None = Unit {0}
IsFound files name (Some file) (Some bytes) = IsFileFound name (file_at file files) bytes
IsFound files name _ _ = ⊥

pub image_found : (files : List File) (directory : Named ℕ) (image : Named (List ℕ)) (name : FileName) → AreImages files directory image → ArePlain files directory image
    → IsFound files name (find name directory) (find name image)
image_found files [] [] name images plain = tt
image_found files [] (_ ∷ _) name images plain = absurd images
image_found files (_ ∷ _) [] name images plain = absurd images
image_found files (entry ∷ rest) (found ∷ image) name images plain =
    let later = image_found files rest image name images.2 plain.1 in
    let here : name_eq found.0 name ≡ name_eq entry.0 name = ap (λ n. name_eq n name) images.0 in
    elim (name_eq entry.0 name) as (λ b. name_eq entry.0 name ≡ b → name_eq found.0 name ≡ b
    → IsFound files name (if b then Some entry.1 else find name rest) (if name_eq found.0 name then Some found.1 else find name image)) [
      | true ↦ λ same too. rw too (subst (λ (n : FileName). IsFileFound n (file_at entry.1 files) found.1) (name_eq-true entry.0 name same) (record { is_image = images.1; plain = plain.0 }))
      | false ↦ λ differs too. rw too later
    ] refl here

pub read_found : (files : List File) (name : FileName) (directory : Named ℕ) → find name (bytes_read files directory) ≡ option_map (λ number. (file_at number files).read) (find name directory)
read_found files name [] = refl
read_found files name (entry ∷ rest) =
    let later = read_found files name rest in
    elim (name_eq entry.0 name) as (λ b. (if b then Some (file_at entry.1 files).read else find name (bytes_read files rest)) ≡ option_map (λ number. (file_at number files).read) (if b then Some entry.1 else find name rest)) [
      | true ↦ refl
      | false ↦ later
    ]
