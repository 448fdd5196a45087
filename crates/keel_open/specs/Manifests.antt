-- What CURRENT and its manifest answer.
use Rattle.std.specs.Prelude.{◌≡◌, ℕ, List, length, Option, Some, None, Result, Ok, Err}
use Rattle.keel_base.specs.declared.file_name.FileName.TheVariants.{Current, Manifest}
use Rattle.keel_disk.specs.Told.{Told, bytes_of}
use Rattle.keel_frag.specs.declared.record.LogRecord.{LogRecord}
use Rattle.keel_frag.specs.Reading.{AreRecords}
use Rattle.keel_directory.specs.Manifests.{CurrentIs, ManifestIs, version_of}
use Rattle.keel_open.specs.declared.refusal.OpenRefusal.{OpenRefusal}
use Rattle.keel_open.specs.declared.manifest.EditsFound.{EditsFound}
use Rattle.keel_open.specs.Refusals.{Names}

-- CURRENT isn't there, or its bytes name that manifest or are refused
abbrev pub CurrentAnswers : Option (List ℕ) → Result (Option ℕ) OpenRefusal → Type 0
CurrentAnswers None (Ok None) = Unit {0}
CurrentAnswers None (Ok (Some number)) = ⊥
CurrentAnswers None (Err e) = Names e (λ refusal. ⊥)
CurrentAnswers (Some bytes) (Ok None) = ⊥
CurrentAnswers (Some bytes) (Ok (Some number)) = CurrentIs bytes (Ok number)
CurrentAnswers (Some bytes) (Err e) = Names e (λ refusal. CurrentIs bytes (Err refusal))

-- the same, where the device tells it
abbrev pub CurrentTells : Option Told → Result (Option ℕ) OpenRefusal → Type 0
CurrentTells None answer = Unit {0}
CurrentTells (Some told) answer = CurrentAnswers (bytes_of Current told) answer

-- the edits of the bytes of a manifest, with the version behind them
pub record AreEditsOf (bytes : List ℕ) (found : EditsFound) : Type 0 where
  pub all : List LogRecord
  pub end : ℕ
  pub records : AreRecords bytes all end
  pub version : version_of all ≡ Ok found.version
  pub count : found.count ≡ length all

-- a manifest's bytes answer so; one that isn't there is refused
abbrev pub EditsAnswer : Option (List ℕ) → Result EditsFound OpenRefusal → Type 0
EditsAnswer None (Ok found) = ⊥
EditsAnswer (Some bytes) (Ok found) = AreEditsOf bytes found
EditsAnswer manifest (Err e) = Names e (λ refusal. ManifestIs manifest (Err refusal))

-- the same of the manifest of that number, where the device tells it
abbrev pub EditsTell : Option Told → ℕ → Result EditsFound OpenRefusal → Type 0
EditsTell None number answer = Unit {0}
EditsTell (Some told) number answer = EditsAnswer (bytes_of (Manifest number) told) answer
