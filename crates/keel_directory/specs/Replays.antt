-- The batches of the logs from a number on.
use Rattle.std.specs.Prelude.{◌≡◌, ℕ, ◌+◌, ◌<◌, ◌^◌, ◌==◌, List, [], ◌∷◌, ◌++◌, length, Result, Ok, Err, nat_lt, if◌then◌else◌}
use Rattle.std.specs.List.{flat_map}
use Rattle.keel_base.specs.declared.op.Op.{Op}
use Rattle.keel_base.specs.declared.row.Row.{Row}
use Rattle.keel_base.specs.Rows.{op_rows}
use Rattle.keel_base.specs.declared.file_name.FileName.{FileName}
use Rattle.keel_base.specs.declared.file_name.FileName.TheVariants.{Log}
use Rattle.keel_frag.specs.declared.record.LogRecord.{LogRecord}
use Rattle.keel_frag.specs.Reading.{AreRecords}
use Rattle.keel_disk.specs.Directory.{Named}
use Rattle.keel_batch.specs.Reading.{batch_of}
use Rattle.keel_directory.specs.declared.logs.LogFile.{LogFile}
use Rattle.keel_directory.specs.declared.logs.Replayed.{Replayed}
use Rattle.keel_directory.specs.Refusals.{Refusal, bad_log, log_gap}

-- ---- the logs and their records

-- a log at its place among logs in order of number
abbrev pub put_log : LogFile → List LogFile → List LogFile
put_log log [] = log ∷ []
put_log log (other ∷ logs) =
    if nat_lt log.number other.number then log ∷ other ∷ logs
    else (if log.number == other.number then log ∷ logs else other ∷ put_log log logs)

-- a file among the logs, where it is one of that number or more with a byte
abbrev pub with_log : ℕ → FileName × List ℕ → List LogFile → List LogFile
with_log least (Log n, []) logs = logs
with_log least (Log n, b ∷ bytes) logs = if nat_lt n least then logs else put_log (record { number = n; bytes = b ∷ bytes }) logs
with_log least _ logs = logs

-- the logs of a directory from a number on that have a byte, in order
abbrev pub logs_from : ℕ → Named (List ℕ) → List LogFile
logs_from least [] = []
logs_from least (file ∷ image) = with_log least file (logs_from least image)

pub record ReadLog : Type 0 where
  pub number : ℕ
  pub records : List LogRecord

-- the whole records of a log
abbrev pub IsReadLog : LogFile → ReadLog → Type 0
IsReadLog file log = (log.number ≡ file.number) × ((end : ℕ) × AreRecords file.bytes log.records end)

abbrev pub AreRead : List LogFile → List ReadLog → Type 0
AreRead [] [] = Unit {0}
AreRead (file ∷ files) (log ∷ logs) = IsReadLog file log × AreRead files logs
AreRead _ _ = ⊥

-- ---- their batches

infixl 10 ◌>>=◌
abbrev pub ◌>>=◌ : {A B : Type 0} → Result A Refusal → (A → Result B Refusal) → Result B Refusal
(Ok x) >>= f = f x
(Err refusal) >>= f = Err refusal

abbrev pub batch_found : ℕ → LogRecord → Result (ℕ × List Op) ℕ → Result Replayed Refusal
batch_found log r (Ok batch) = Ok (record { log = log; seq = batch.0; ops = batch.1 })
batch_found log r (Err left) = Err (bad_log log r.offset)

-- the records are batches, or the first that isn't one is named
abbrev pub batches_of : ℕ → List LogRecord → Result (List Replayed) Refusal
batches_of log [] = Ok []
batches_of log (r ∷ rs) = do
  first ← batch_found log r (batch_of r.payload)
  others ← batches_of log rs
  Ok (first ∷ others)

abbrev pub all_batches : List ReadLog → Result (List Replayed) Refusal
all_batches [] = Ok []
all_batches (log ∷ logs) = do
  first ← batches_of log.number log.records
  others ← all_batches logs
  Ok (first ++ others)

-- each batch begins with the number behind the one before; then the last number of all
abbrev pub run_on : ℕ → List Replayed → Result ℕ Refusal
run_on last [] = Ok last
run_on last (b ∷ bs) = if b.seq == last + 1 then run_on (last + length b.ops) bs else Err (log_gap b.log (last + 1) b.seq)

pub record Replay : Type 0 where
  pub batches : List Replayed
  pub last : ℕ

-- a bad log comes before every gap
abbrev pub replay : ℕ → List ReadLog → Result Replay Refusal
replay last logs = do
  batches ← all_batches logs
  end ← run_on last batches
  Ok (record { batches = batches; last = end })

-- what logs give, in this order, where the last op before them has that number
abbrev pub LogsGive : List LogFile → ℕ → Result Replay Refusal → Type 0
LogsGive files last answer = (logs : List ReadLog) × AreRead files logs × (answer ≡ replay last logs)

-- what the logs from a number on give
abbrev pub LogsAre : Named (List ℕ) → ℕ → ℕ → Result Replay Refusal → Type 0
LogsAre image least last answer = LogsGive (logs_from least image) last answer

abbrev pub replayed_rows : List Replayed → List Row
replayed_rows batches = flat_map (λ b. op_rows b.seq b.ops) batches

-- the numbers of a batch's ops are far below 2 ^ 64
abbrev pub IsNumbered : Replayed → Type 0
IsNumbered b = b.seq + length b.ops < 2 ^ 60
