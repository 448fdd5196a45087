-- The logs that hold a story's batches.
use Rattle.std.specs.Prelude.{◌≡◌, ◌⊎◌, ℕ, ◌+◌, ◌-◌, ◌<◌, ◌≤◌, ◌==◌, ◌||◌, Bool, false, List, [], ◌∷◌, ◌++◌, length, take, Some}
use Rattle.std.specs.List.{AllByRecursion}
use Rattle.keel_base.specs.declared.file_name.FileName.TheVariants.{Log}
use Rattle.keel_base.specs.declared.op.Op.{Op}
use Rattle.keel_disk.specs.declared.state.File.{File}
use Rattle.keel_disk.specs.State.{State, file_at}
use Rattle.keel_disk.specs.Steady.{file_behind, IsSteady, IsGoing, IsFirmWhole}
use Rattle.keel_frag.specs.Writing.{records_bytes}
use Rattle.keel_batch.specs.Batches.{payloads_behind}
use Rattle.keel_draft.specs.Drafts.{count_ops}

-- A log, its batches, how many batches of the story come before them, and the number of the last op before them.
pub record Chained : Type 0 where
  pub number : ℕ
  pub before : ℕ
  pub last : ℕ
  pub batches : List (List Op)

-- what its records hold
abbrev pub payloads : Chained → List (List ℕ)
payloads log = payloads_behind log.last log.batches

-- how many bytes the records of the first so many have
abbrev pub size_of_first : ℕ → List (List ℕ) → ℕ
size_of_first count payloads = length (records_bytes 0 (take count payloads))

-- the batches of all of them
abbrev pub batches_of : List Chained → List (List Op)
batches_of [] = []
batches_of (log ∷ logs) = log.batches ++ batches_of logs

-- the batches of each follow those of the one before it, the first ones so many batches, whose last op has that number
abbrev pub FollowOn : ℕ → ℕ → List Chained → Type 0
FollowOn before last [] = Unit {0}
FollowOn before last (log ∷ logs) = (log.before ≡ before) × (log.last ≡ last) × FollowOn (before + length log.batches) (last + count_ops log.batches) logs

abbrev pub is_chained : ℕ → List Chained → Bool
is_chained n [] = false
is_chained n (log ∷ logs) = log.number == n || is_chained n logs

-- ---- files

-- The bytes meant are these records. Those of the first so many are firm, and those of the first so many are read.
pub record HoldsRecords (lasting shown : ℕ) (payloads : List (List ℕ)) (file : File) : Type 0 where
  pub meant_is : file.meant ≡ records_bytes 0 payloads
  pub firm_to : size_of_first lasting payloads ≤ file.firm
  pub read_to : size_of_first shown payloads ≤ length file.read

-- The log's name is steady, and it holds its batches: those that must not be lost are firm, and those that are published
-- are read.
pub record HoldsBatches (floor published : ℕ) (log : Chained) (state : State) : Type 0 where
  pub file : ℕ
  pub steady : IsSteady (Log log.number) file state
  pub holds : HoldsRecords (floor - log.before) (published - log.before) (payloads log) (file_at file state.files)

-- the log is firm in whole
pub record IsWholeLog (log : Chained) (state : State) : Type 0 where
  pub file : ℕ
  pub steady : IsSteady (Log log.number) file state
  pub firm : IsFirmWhole (file_at file state.files)

-- no call on the log failed, and it has so many bytes
pub record IsGoingLog (log : Chained) (size : ℕ) (state : State) : Type 0 where
  pub file : ℕ
  pub steady : IsSteady (Log log.number) file state
  pub going : IsGoing (file_at file state.files)
  pub size_is : length (file_at file state.files).meant ≡ size

-- by rising number, each firm in whole where a later one holds a batch
abbrev pub AreChained : ℕ → ℕ → List Chained → State → Type 0
AreChained floor published [] state = Unit {0}
AreChained floor published (log ∷ logs) state =
    HoldsBatches floor published log state
    × AllByRecursion (λ (later : Chained). log.number < later.number) logs
    × (AllByRecursion (λ (later : Chained). later.batches ≡ []) logs ⊎ IsWholeLog log state)
    × AreChained floor published logs state

-- whatever operations are done, another log from that number on holds no byte
abbrev pub OthersEmpty : ℕ → List Chained → State → Type 0
OthersEmpty least logs state =
    (count n file : ℕ) → least ≤ n → is_chained n logs ≡ false → file_behind count (Log n) state ≡ Some file
    → (file_at file state.files).meant ≡ []
