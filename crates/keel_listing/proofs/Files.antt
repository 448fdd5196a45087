-- The files of a device's image.
use Rattle.std.proofs.Common.{◌≡◌, ℕ, true, false, List, [], ◌∷◌, Option, Some, unwrap_or, option_map, refl, ap, if◌then◌else◌}
use Rattle.keel_base.specs.declared.file_name.FileName.{FileName}
use Rattle.keel_base.specs.declared.file_name.FileName.TheVariants.{Log}
use Rattle.keel_base.specs.Name.{name_eq}
use Rattle.keel_disk.specs.declared.state.File.{File}
use Rattle.keel_disk.specs.Directory.{Named, find}
use Rattle.keel_disk.specs.Files.{content}
use Rattle.keel_disk.specs.Plain.{bytes_read, image_read}
use Rattle.keel_disk.specs.State.{file_at, directory_read}
use Rattle.keel_disk.specs.Told.{Told, bytes_of}

pub found_read : (files : List File) (name : FileName) (directory : Named ℕ) → find name (bytes_read files directory) ≡ option_map (λ number. (file_at number files).read) (find name directory)
found_read files name [] = refl
found_read files name (entry ∷ rest) =
    elim (name_eq entry.0 name) as (λ b. (if b then Some (file_at entry.1 files).read else find name (bytes_read files rest)) ≡ option_map (λ number. (file_at number files).read) (if b then Some entry.1 else find name rest)) [
      | true ↦ refl
      | false ↦ found_read files name rest
    ]

-- the image has the bytes that the device tells
pub image_has : (told : Told) (name : FileName) → find name (image_read told.state) ≡ bytes_of name told
image_has told name = found_read told.state.files name (directory_read told.state)

-- so it has those of a log; one that isn't there counts as empty
pub log_content : (told : Told) (number : ℕ) → unwrap_or (find (Log number) (image_read told.state)) [] ≡ content (Log number) told
log_content told number = ap (λ (o : Option (List ℕ)). unwrap_or o []) (image_has told (Log number))
