-- What each kind of call of a group leaves of what is kept, by its answer.
use Rattle.std.specs.Prelude.{◌≡◌, ℕ, ◌+◌, ◌<◌, ◌≤◌, Bool, true, List, [], ◌∷◌, ◌++◌, length, take, Some, Result, Ok, Err}
use Rattle.std.specs.List.{AllByRecursion}
use Rattle.keel_base.specs.Points.{Point, fold_batches}
use Rattle.keel_base.specs.declared.file_name.FileName.TheVariants.{Log}
use Rattle.keel_base.specs.declared.op.Op.{Op}
use Rattle.keel_batch.specs.Batches.{payloads_behind, AreBatches}
use Rattle.keel_directory.specs.TableFiles.{TableFile}
use Rattle.keel_disk.specs.declared.change.Change.TheVariants.{Create, Append, Sync, SyncDir}
use Rattle.keel_disk.specs.declared.error.DiskError.{DiskError}
use Rattle.keel_disk.specs.declared.error.DiskError.TheVariants as error
use Rattle.keel_disk.specs.Sound.{IsOneToOne}
use Rattle.keel_disk.specs.State.{State, new_file, file_at}
use Rattle.keel_disk.specs.Step.{DiskStep}
use Rattle.keel_disk.specs.Steady.{IsPresent, CutsExist}
use Rattle.keel_frag.specs.Writing.{records_bytes}
use Rattle.keel_machine.specs.States.{Story, handed, published}
use Rattle.keel_recovery.specs.Chains.{Chained, IsWholeLog, IsGoingLog}
use Rattle.keel_recovery.specs.Keeping.{Keeps}
use Rattle.keel_recovery.specs.Roots.{Way, IsOneWay, version_behind}
use Rattle.keel_version.specs.Tables.{Contents, nothing}

-- the answer of a changing call
abbrev pub Answer : Type 0
Answer = Result (Unit {0}) DiskError

-- what holds by the answer of a call: behind an Ok, where it failed, or where there was no memory for it
abbrev pub ByAnswer : Answer → Type 0 → Type 0 → Type 0 → Type 0
ByAnswer (Ok value) did failed same = did
ByAnswer (Err (error.Fault fault)) did failed same = failed
ByAnswer (Err error.OutOfMemory) did failed same = same

-- ---- the logs

abbrev pub AllWhole : List Chained → State → Type 0
AllWhole logs state = AllByRecursion (λ (log : Chained). IsWholeLog log state) logs

-- The last log can be appended to: no call on it failed, and all logs before it are firm in whole.
pub record CanGrow (front : List Chained) (log : Chained) (size : ℕ) (state : State) : Type 0 where
  pub whole : AllWhole front state
  pub going : IsGoingLog log size state

-- every version that a crash may leave reads the log of that number
abbrev pub AllReach : List Way → ℕ → Type 0
AllReach ways number =
    (way : Way) (count : ℕ) (version : Contents) → IsOneWay ways way → way.firm ≤ count → count ≤ length way.edits
    → version_behind nothing (take count way.edits) ≡ Some version → version.min_log ≤ number

-- the point behind all batches that were handed to a log
abbrev pub point_handed : Story → Point
point_handed story = fold_batches story.start (story.log ++ story.limbo)

-- ---- a new log

-- a log without a byte is there, though its name may not be firm, and no call on it failed
pub record IsNewLog (number : ℕ) (state : State) : Type 0 where
  pub file : ℕ
  pub present : IsPresent (Log number) file state
  pub is_new : file_at file state.files ≡ new_file

-- where it is made
abbrev pub CreateMakes : Type 0
CreateMakes =
    (number : ℕ) (state after : State) → CutsExist state → DiskStep {T = Unit {0}} state (Create (Log number)) (Ok tt) after → IsNewLog number after

-- Making the log of the next number keeps all, whatever is answered; the number is used up.
abbrev pub CreateKeeps : Type 0
CreateKeeps =
    (ways : List Way) (place next_file : ℕ) (logs : List Chained) (levels : List TableFile) (story : Story) (answer : Answer) (state after : State)
    → IsOneToOne state → Keeps ways place logs levels story next_file state
    → DiskStep state (Create (Log next_file)) answer after → Keeps ways place logs levels story (next_file + 1) after

-- a log that has no batch yet, behind all that were handed over
abbrev pub next_chained : ℕ → Story → Chained
next_chained number story = record { number = number; before = length (story.log ++ story.limbo); last = (point_handed story).seq; batches = [] }

-- Behind the sync of the directory it is a log that batches may be appended to.
abbrev pub SyncDirKeeps : Type 0
SyncDirKeeps =
    (ways : List Way) (place next_file number : ℕ) (front : List Chained) (log : Chained) (levels : List TableFile) (story : Story) (answer : Answer) (state after : State)
    → IsOneToOne state → Keeps ways place (front ++ log ∷ []) levels story next_file state → AllReach ways log.number
    → log.number < number → IsNewLog number state → AllWhole (front ++ log ∷ []) state → DiskStep state SyncDir answer after
    → ByAnswer answer
    (Keeps ways place ((front ++ log ∷ []) ++ next_chained number story ∷ []) levels story next_file after × CanGrow (front ++ log ∷ []) (next_chained number story) 0 after)
    (Keeps ways place (front ++ log ∷ []) levels story next_file after) (after ≡ state)

-- ---- the last log

-- it has further batches
abbrev pub grown : List (List Op) → Chained → Chained
grown batches log = record log { batches = log.batches ++ batches }

-- Appending the records of batches that are numbered on. They are in limbo then, also where the call failed.
abbrev pub LogAppendKeeps : Type 0
LogAppendKeeps =
    (ways : List Way) (place next_file size : ℕ) (front : List Chained) (log : Chained) (batches : List (List Op)) (bytes : List ℕ) (levels : List TableFile) (story : Story) (answer : Answer) (state after : State)
    → IsOneToOne state → Keeps ways place (front ++ log ∷ []) levels story next_file state → CanGrow front log size state
    → AreBatches (point_handed story).seq batches → bytes ≡ records_bytes size (payloads_behind (point_handed story).seq batches)
    → DiskStep state (Append (Log log.number) bytes) answer after
    → ByAnswer answer
    (Keeps ways place (front ++ grown batches log ∷ []) levels (handed batches story) next_file after × CanGrow front (grown batches log) (size + length bytes) after)
    (Keeps ways place (front ++ grown batches log ∷ []) levels (handed batches story) next_file after) (after ≡ state)

-- Behind its sync the log is firm in whole.
abbrev pub LogSyncKeeps : Type 0
LogSyncKeeps =
    (ways : List Way) (place next_file size : ℕ) (front : List Chained) (log : Chained) (levels : List TableFile) (story : Story) (answer : Answer) (state after : State)
    → IsOneToOne state → Keeps ways place (front ++ log ∷ []) levels story next_file state → CanGrow front log size state
    → DiskStep state (Sync (Log log.number)) answer after
    → ByAnswer answer
    (Keeps ways place (front ++ log ∷ []) levels story next_file after × CanGrow front log size after × IsWholeLog log after)
    (Keeps ways place (front ++ log ∷ []) levels story next_file after) (after ≡ state)

-- Publishing makes no call. What isn't to be lost from then on is firm.
abbrev pub PublishKeeps : Type 0
PublishKeeps =
    (ways : List Way) (place next_file size : ℕ) (sync : Bool) (front : List Chained) (log : Chained) (levels : List TableFile) (story : Story) (state : State)
    → Keeps ways place (front ++ log ∷ []) levels story next_file state → CanGrow front log size state → AllReach ways log.number
    → (sync ≡ true → IsWholeLog log state) → Keeps ways place (front ++ log ∷ []) levels (published sync story) next_file state
