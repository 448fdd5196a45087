-- What reading a store answers.
use Rattle.std.specs.Prelude.{◌≡◌, ℕ, List, [], Option, Some, None, Result, Ok, Err}
use Rattle.keel_disk.specs.Directory.{Named}
use Rattle.keel_disk.specs.Plain.{image_read}
use Rattle.keel_disk.specs.Told.{Told}
use Rattle.keel_directory.specs.Reading.{IsReading, new, refused}
use Rattle.keel_directory.specs.Replays.{Replay}
use Rattle.keel_wal.specs.declared.reading.ReplayError.{ReplayError}
use Rattle.keel_wal.specs.declared.reading.ReplayError.TheVariants as logs
use Rattle.keel_open.specs.declared.base.BaseFound.{BaseFound}
use Rattle.keel_open.specs.declared.refusal.OpenRefusal.{OpenRefusal}
use Rattle.keel_open.specs.declared.refusal.OpenRefusal.TheVariants as refusal
use Rattle.keel_open.specs.declared.store.StoreFound.{StoreFound}
use Rattle.keel_open.specs.Bases.{IsNewStore, HoldsBase}
use Rattle.keel_open.specs.Laws.{IsStore}
use Rattle.keel_open.specs.Listed.{IsDirectory}
use Rattle.keel_open.specs.Refusals.{Names}

-- a refusal of logs is handed on
abbrev pub refusal_of_logs : ReplayError → OpenRefusal
refusal_of_logs (logs.Device fault) = refusal.Device fault
refusal_of_logs (logs.BadLog log at) = refusal.BadLog log at
refusal_of_logs (logs.LogGap log expected found) = refusal.LogGap log expected found
refusal_of_logs logs.OutOfMemory = refusal.OutOfMemory

-- what stands short of the logs
abbrev pub base_of : StoreFound → BaseFound
base_of found = record { version = found.version; manifest = found.manifest; edits = found.edits; next_file = found.next_file; listing = found.listing }

-- what the logs gave
abbrev pub replay_in : StoreFound → Replay
replay_in found = record { batches = found.batches.items; last = found.last_seq }

-- the directory is read as a new store, and no batch was found
pub record IsNewRead (image : Named (List ℕ)) (found : StoreFound) : Type 0 where
  pub base : IsNewStore image (base_of found)
  pub reads : IsReading image new
  pub batches : found.batches.items ≡ []
  pub last : found.last_seq ≡ 0

-- the directory is read as a store with what was found
pub record IsStoreRead (image : Named (List ℕ)) (number : ℕ) (found : StoreFound) : Type 0 where
  pub base : HoldsBase image number (base_of found)
  pub store : IsStore image number (base_of found) (replay_in found)

abbrev pub IsReadBy : Named (List ℕ) → Option ℕ → StoreFound → Type 0
IsReadBy image None found = IsNewRead image found
IsReadBy image (Some number) found = IsStoreRead image number found

-- the answer is the reading of the directory
abbrev pub StoreAnswers : Named (List ℕ) → Result StoreFound OpenRefusal → Type 0
StoreAnswers image (Ok found) = IsReadBy image found.manifest found
StoreAnswers image (Err e) = Names e (λ refusal. IsReading image (refused refusal))

-- the same, where the device tells its directory
abbrev pub StoreTells : Option Told → Result StoreFound OpenRefusal → Type 0
StoreTells None answer = Unit {0}
StoreTells (Some told) answer = IsDirectory told.state → StoreAnswers (image_read told.state) answer
