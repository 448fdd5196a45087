-- What a directory holds short of its logs.
use Rattle.std.specs.Prelude.{◌≡◌, ℕ, List, Option, Some, None, Result, Ok, Err}
use Rattle.keel_base.specs.declared.file_name.FileName.TheVariants.{Current, Manifest}
use Rattle.keel_disk.specs.Directory.{Named, find}
use Rattle.keel_disk.specs.Plain.{image_read}
use Rattle.keel_disk.specs.Told.{Told}
use Rattle.keel_version.specs.Tables.{nothing}
use Rattle.keel_directory.specs.Manifests.{CurrentIs}
use Rattle.keel_directory.specs.Reading.{IsReading, first_used, refused}
use Rattle.keel_directory.specs.TableFiles.{refusal_of}
use Rattle.keel_open.specs.declared.base.BaseFound.{BaseFound}
use Rattle.keel_open.specs.declared.refusal.OpenRefusal.{OpenRefusal}
use Rattle.keel_open.specs.Listed.{IsDirectory}
use Rattle.keel_open.specs.Manifests.{AreEditsOf}
use Rattle.keel_open.specs.Refusals.{Names}

-- CURRENT is there and names that manifest
pub record NamesManifestIn (image : Named (List ℕ)) (number : ℕ) : Type 0 where
  pub current : List ℕ
  pub there : find Current image ≡ Some current
  pub names : CurrentIs current (Ok number)

-- the directory is that of a new store, without tables
pub record IsNewStore (image : Named (List ℕ)) (found : BaseFound) : Type 0 where
  pub no_current : find Current image ≡ None
  pub none_used : first_used image ≡ None
  pub version : found.version ≡ nothing
  pub edits : found.edits ≡ 0

-- the manifest's edits give the version, and its tables are all there and open
pub record HoldsBase (image : Named (List ℕ)) (number : ℕ) (found : BaseFound) : Type 0 where
  pub names : NamesManifestIn image number
  pub bytes : List ℕ
  pub there : find (Manifest number) image ≡ Some bytes
  pub edits : AreEditsOf bytes (record { version = found.version; count = found.edits })
  pub tables : refusal_of image found.version.tables ≡ None

abbrev pub HoldsBy : Named (List ℕ) → Option ℕ → BaseFound → Type 0
HoldsBy image None found = IsNewStore image found
HoldsBy image (Some number) found = HoldsBase image number found

-- the answer is that of the directory: what it holds, or why it isn't read
abbrev pub BaseAnswers : Named (List ℕ) → Result BaseFound OpenRefusal → Type 0
BaseAnswers image (Ok found) = HoldsBy image found.manifest found
BaseAnswers image (Err e) = Names e (λ refusal. IsReading image (refused refusal))

-- the same, where the device tells its directory
abbrev pub BaseTells : Option Told → Result BaseFound OpenRefusal → Type 0
BaseTells None answer = Unit {0}
BaseTells (Some told) answer = IsDirectory told.state → BaseAnswers (image_read told.state) answer
