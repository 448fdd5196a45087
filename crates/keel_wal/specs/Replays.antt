-- The logs that a device has, and what they give.
use Rattle.std.specs.Prelude.{◌≡◌, ℕ, ◌<◌, Bool, false, not, nat_lt, ◌&&◌, ◌||◌, ◌==◌, is_some, List, [], ◌∷◌, Option, Some, None, Result, Ok, Err}
use Rattle.std.specs.List.{AllByRecursion}
use Rattle.keel_base.specs.declared.failure.Fault.{Fault}
use Rattle.keel_base.specs.declared.file_name.FileName.TheVariants as name
use Rattle.keel_disk.specs.Directory.{Named, find}
use Rattle.keel_disk.specs.State.{directory_read}
use Rattle.keel_disk.specs.Plain.{image_read}
use Rattle.keel_disk.specs.Told.{Told}
use Rattle.keel_directory.specs.declared.logs.LogFile.{LogFile}
use Rattle.keel_directory.specs.Laws.{AreNamedOnce}
use Rattle.keel_directory.specs.Refusals.{bad_log, log_gap}
use Rattle.keel_directory.specs.Replays.{Replay, LogsAre, logs_from, run_on}
use Rattle.keel_listing.specs.Names.{AreNames}
use Rattle.keel_wal.specs.declared.reading.Replayed.{Replayed}
use Rattle.keel_wal.specs.declared.reading.ReplayError.{ReplayError}
use Rattle.keel_wal.specs.declared.reading.ReplayError.TheVariants as error

-- each file has a name of the store that stands there once, as on every device that calls and crashes leave
pub record IsOrderly (told : Told) : Type 0 where
  pub names : AreNames (directory_read told.state)
  pub once : AreNamedOnce (image_read told.state)

-- the file of a log, where it has a byte
abbrev pub file_of : ℕ → List ℕ → List LogFile
file_of number [] = []
file_of number (b ∷ bytes) = record { number = number; bytes = b ∷ bytes } ∷ []

-- ---- the logs that were read

-- the numbers rise
abbrev pub RiseNumbers : List ℕ → Type 0
RiseNumbers [] = Unit {0}
RiseNumbers (n ∷ numbers) = AllByRecursion (λ other. n < other) numbers × RiseNumbers numbers

abbrev pub has : ℕ → List ℕ → Bool
has n [] = false
has n (m ∷ numbers) = m == n || has n numbers

-- These are the logs of the directory from a number on: the files of those that have a byte, and the numbers of all.
pub record AreLogsFrom (least : ℕ) (image : Named (List ℕ)) (files : List LogFile) (numbers : List ℕ) : Type 0 where
  pub files_are : files ≡ logs_from least image
  pub rise : RiseNumbers numbers
  pub numbers_are : (n : ℕ) → has n numbers ≡ (not (nat_lt n least) && is_some (find (name.Log n) image))

-- the same, where the device tells its directory
abbrev pub LogsTold : Option Told → ℕ → List LogFile → List ℕ → Type 0
LogsTold None least files numbers = Unit {0}
LogsTold (Some told) least files numbers = IsOrderly told → AreLogsFrom least (image_read told.state) files numbers

-- ---- the answer

-- the fault of an answer, where it has one
abbrev pub fault_in : {T : Type 0} → Result T ReplayError → Option Fault
fault_in (Err (error.Device fault)) = Some fault
fault_in _ = None

abbrev pub replay_of : Replayed → Replay
replay_of found = record { batches = found.batches.items; last = found.last_seq }

-- The batches and the refusals are those of the directory, and the numbers are those of all its logs from the least on.
abbrev pub AnswersFor : Named (List ℕ) → ℕ → ℕ → Result Replayed ReplayError → Type 0
AnswersFor image least last (Ok found) =
    LogsAre image least last (Ok (replay_of found)) × RiseNumbers found.logs.items
    × ((n : ℕ) → has n found.logs.items ≡ (not (nat_lt n least) && is_some (find (name.Log n) image)))
AnswersFor image least last (Err (error.BadLog log at)) = LogsAre image least last (Err (bad_log log at))
AnswersFor image least last (Err (error.LogGap log expected found)) = LogsAre image least last (Err (log_gap log expected found))
AnswersFor image least last _ = Unit {0}

abbrev pub ReplayAnswers : Option Told → ℕ → ℕ → Result Replayed ReplayError → Type 0
ReplayAnswers None least last answer = Unit {0}
ReplayAnswers (Some told) least last answer = IsOrderly told → AnswersFor (image_read told.state) least last answer

-- each batch begins with the number behind the one before, from the number given to the last one
abbrev pub RunsOn : ℕ → Replayed → Type 0
RunsOn last found = run_on last found.batches.items ≡ Ok found.last_seq
