-- The reading of a directory, made up of its parts.
use Rattle.std.proofs.Common.{◌≡◌, ℕ, List, [], ◌∷◌, length, Option, Some, None, Ok, Err, option_map, refl, sym, ap, subst, ◌∙◌, arith}
use Rattle.std.proofs.lemmas.List.{take_all}
use Rattle.keel_base.specs.declared.file_name.FileName.TheVariants.{Current, Manifest}
use Rattle.keel_base.specs.Points.{Point}
use Rattle.keel_base.specs.Rows.{IsMapOf}
use Rattle.keel_disk.specs.declared.state.File.{File}
use Rattle.keel_disk.specs.declared.state.Operation.{Operation}
use Rattle.keel_disk.specs.Directory.{Named, find, operated_all}
use Rattle.keel_disk.specs.Plain.{bytes_read}
use Rattle.keel_disk.specs.Sound.{AreOwn, IsOneToOne}
use Rattle.keel_disk.specs.State.{State, file_at, directory_read}
use Rattle.keel_listing.specs.Names.{AreNames}
use Rattle.keel_listing.proofs.Files.{found_read}
use Rattle.keel_directory.specs.Laws.{AreNamedOnce}
use Rattle.keel_directory.specs.Manifests.{ManifestIs}
use Rattle.keel_directory.specs.Refusals.{Refusal}
use Rattle.keel_directory.specs.Reading.{StoreRead, WithCurrent, FoundBy, IsReading, all_rows, new, held, without_current}
use Rattle.keel_directory.specs.TableFiles.{TableFile, TablesAre, TablesGive, AllOpen, refusal_of}
use Rattle.keel_directory.proofs.Opening.{all_open}
use Rattle.keel_version.specs.Tables.{Contents}
use Rattle.keel_open.specs.declared.base.BaseFound.{BaseFound}
use Rattle.keel_open.specs.Bases.{HoldsBase}
use Rattle.keel_open.specs.Laws.{LogsComplete, NewIsNew, SoundIsDirectory}
use Rattle.keel_open.proofs.Basing.{refused_by}

-- ---- a manifest, its tables and the logs

gives : (image : Named (List ℕ)) (number : ℕ) (found : BaseFound) → HoldsBase image number found → ManifestIs (find (Manifest number) image) (Ok found.version)
gives image number found h = subst (λ (o : Option (List ℕ)). ManifestIs o (Ok found.version)) (sym h.there) (h.edits.all, h.edits.end, h.edits.records, sym h.edits.version)

tables_are : (image : Named (List ℕ)) (version : Contents) (files : List TableFile) → refusal_of image version.tables ≡ None → AllOpen image version.tables files → TablesAre image version.tables (Ok files)
tables_are image version files e open_all = subst (λ (o : Option Refusal). TablesGive o image version.tables (Ok files)) (sym e) open_all

held_by : (image : Named (List ℕ)) (current : List ℕ) (store : StoreRead) (point : Point) → find Current image ≡ Some current → FoundBy image current (Ok store) → IsMapOf (all_rows store) point.values
    → point.seq ≡ store.replay.last → IsReading image (held store point)
unfolding IsReading
held_by image current store point there found map seq =
    subst (λ (bytes : Option (List ℕ)). WithCurrent image bytes (held store point)) (sym there) (Ok store, found, (refl, map, seq))

pub logs_complete : LogsComplete
logs_complete image number found (Ok replay) h logs =
    let files = all_open image found.version.tables h.tables in
    let store : StoreRead = record { manifest = number; version = found.version; tables = files.0; replay = replay } in
    record {
      store = store;
      manifest = refl;
      version = refl;
      replay_is = refl;
      reads = λ point map seq.
          held_by image h.names.current store point h.names.there
          (Ok number, h.names.names, (Ok found.version, gives image number found h, (Ok files.0, tables_are image found.version files.0 h.tables files.1, (Ok replay, logs, refl)))) map seq;
    }
logs_complete image number found (Err refusal) h logs =
    let files = all_open image found.version.tables h.tables in
    refused_by image h.names.current refusal h.names.there
    (Ok number, h.names.names, (Ok found.version, gives image number found h, (Ok files.0, tables_are image found.version files.0 h.tables files.1, (Err refusal, logs, refl))))

pub new_is_new : NewIsNew
unfolding IsReading
new_is_new image found h = subst (λ (bytes : Option (List ℕ)). WithCurrent image bytes new) (sym h.no_current) (sym (ap without_current h.none_used))

-- ---- a sound device

names_of : (bound : ℕ) (directory : Named ℕ) → AreOwn bound directory → AreNames directory
names_of bound [] h = tt
names_of bound (entry ∷ rest) h = (h.0.is_name, names_of bound rest h.1)

once_of : (bound : ℕ) (files : List File) (directory : Named ℕ) → AreOwn bound directory → AreNamedOnce (bytes_read files directory)
once_of bound files [] h = tt
once_of bound files (entry ∷ rest) h =
    (found_read files entry.0 rest ∙ ap (λ (number : Option ℕ). option_map (λ n. (file_at n files).read) number) h.0.once, once_of bound files rest h.1)

own_as_read : (state : State) → IsOneToOne state → AreOwn (length state.files) (directory_read state)
own_as_read state own =
    subst (λ (waiting : List Operation). AreOwn (length state.files) (operated_all waiting state.firm)) (take_all (length state.waiting) state.waiting (omega arith)) (own (length state.waiting))

pub sound_is_directory : SoundIsDirectory
sound_is_directory state own =
    let as_read = own_as_read state own in
    record { names = names_of (length state.files) (directory_read state) as_read; once = once_of (length state.files) state.files (directory_read state) as_read }
