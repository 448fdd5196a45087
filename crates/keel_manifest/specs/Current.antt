-- What CURRENT says.
use Rattle.std.specs.Prelude.{◌≡◌, ℕ, List, take, Option, Some, None, Result, Ok, Err}
use Rattle.keel_base.specs.declared.failure.Fault.{Fault}
use Rattle.keel_base.specs.declared.file_name.FileName.TheVariants.{Current}
use Rattle.keel_disk.specs.Told.{Told, bytes_of}
use Rattle.keel_name.specs.Current.{NamesManifest}
use Rattle.keel_manifest.specs.declared.current.CurrentError.{CurrentError}
use Rattle.keel_manifest.specs.declared.current.CurrentError.TheVariants as error

-- the fault of an answer, where it has one
abbrev pub fault_in : Result (Option ℕ) CurrentError → Option Fault
fault_in (Err (error.Device fault)) = Some fault
fault_in _ = None

-- these bytes name no manifest, and the first 64 of them are named
abbrev pub IsBad : List ℕ → CurrentError → Type 0
IsBad all (error.BadCurrent bytes) = bytes ≡ take 64 all
IsBad all error.OutOfMemory = Unit {0}
IsBad all _ = ⊥

-- what the bytes of CURRENT name, where it is there
abbrev pub NamesBy : Option (List ℕ) → Result (Option ℕ) CurrentError → Type 0
NamesBy None (Ok None) = Unit {0}
NamesBy (Some bytes) (Ok (Some number)) = NamesManifest bytes number
NamesBy (Some all) (Err (error.BadCurrent bytes)) = ((number : ℕ) → NamesManifest all number → ⊥) × (bytes ≡ take 64 all)
NamesBy bytes (Err (error.Device fault)) = Unit {0}
NamesBy bytes (Err error.OutOfMemory) = Unit {0}
NamesBy bytes _ = ⊥

-- where the device tells it
abbrev pub NamesIn : Option Told → Result (Option ℕ) CurrentError → Type 0
NamesIn None answer = Unit {0}
NamesIn (Some told) answer = NamesBy (bytes_of Current told) answer
