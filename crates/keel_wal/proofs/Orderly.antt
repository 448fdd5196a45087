-- On a device as calls and crashes leave it no name stands twice.
use Rattle.std.proofs.Common.{◌≡◌, ℕ, List, [], ◌∷◌, length, take, Option, option_map, ap, subst, ◌∙◌, arith}
use Rattle.std.proofs.lemmas.List.{take_all}
use Rattle.keel_disk.specs.declared.state.File.{File}
use Rattle.keel_disk.specs.declared.state.Operation.{Operation}
use Rattle.keel_disk.specs.Directory.{Named, operated_all}
use Rattle.keel_disk.specs.Plain.{bytes_read}
use Rattle.keel_disk.specs.Sound.{AreOwn}
use Rattle.keel_disk.specs.State.{file_at, directory_read}
use Rattle.keel_directory.specs.Laws.{AreNamedOnce}
use Rattle.keel_listing.proofs.Names.{sound_names}
use Rattle.keel_listing.proofs.Files.{found_read}
use Rattle.keel_wal.specs.Laws.{SoundIsOrderly}

once_read : (bound : ℕ) (files : List File) (directory : Named ℕ) → AreOwn bound directory → AreNamedOnce (bytes_read files directory)
once_read bound files [] own = tt
once_read bound files (entry ∷ rest) own =
    (found_read files entry.0 rest ∙ ap (λ (o : Option ℕ). option_map (λ number. (file_at number files).read) o) own.0.once, once_read bound files rest own.1)

pub sound_orderly : SoundIsOrderly
sound_orderly told sound =
    let state = told.state in
    let all : take (length state.waiting) state.waiting ≡ state.waiting = take_all (length state.waiting) state.waiting (omega arith) in
    record {
      names = sound_names state sound;
      once = once_read (length state.files) state.files (directory_read state)
          (subst (λ (operations : List Operation). AreOwn (length state.files) (operated_all operations state.firm)) all (sound.one_to_one (length state.waiting)));
    }
