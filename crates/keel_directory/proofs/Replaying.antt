-- Logs that are read one behind the other.
use Rattle.std.proofs.Common.{◌≡◌, ℕ, List, [], ◌∷◌, ◌++◌, Result, Ok, Err, refl, sym, ap, ◌∙◌, append_assoc}
use Rattle.std.specs.Prelude.{OnOk, IfErr}
use Rattle.std.proofs.lemmas.List.{append-nil}
use Rattle.keel_frag.specs.declared.record.LogRecord.{LogRecord}
use Rattle.keel_frag.specs.Reading.{AreRecords}
use Rattle.keel_frag.proofs.Existing.{has_records}
use Rattle.keel_directory.specs.declared.logs.LogFile.{LogFile}
use Rattle.keel_directory.specs.declared.logs.Replayed.{Replayed}
use Rattle.keel_directory.specs.declared.answer.DirectoryRefusal.{DirectoryRefusal}
use Rattle.keel_directory.specs.declared.answer.DirectoryRefusal.TheVariants as errors
use Rattle.keel_directory.specs.Refusals.{Refusal}
use Rattle.keel_directory.specs.Replays.{ReadLog, AreRead, batches_of, all_batches}
use Rattle.keel_directory.specs.Answers.{Names}

-- what follows of the refusal that an error names
pub named : {P Q : Refusal → Type 0} (e : DirectoryRefusal) → ((refusal : Refusal) → P refusal → Q refusal) → Names e P → Names e Q
named (errors.NoCurrent file) f h = f _ h
named (errors.BadCurrent bytes) f h = f _ h
named (errors.DamagedManifest at) f h = f _ h
named (errors.MissingTable number) f h = f _ h
named (errors.BadTable number damage) f h = f _ h
named (errors.BadLog log at) f h = f _ h
named (errors.LogGap log last found) f h = f _ h
named errors.OutOfMemory f h = tt

pub on_ok : {A E : Type 0} {P Q : Type 0} (r : Result A E) → (P → Q) → OnOk r P → OnOk r Q
on_ok (Ok x) f h = f h
on_ok (Err e) f h = tt

pub if_err : {A E : Type 0} {P Q : E → Type 0} (r : Result A E) → ((e : E) → P e → Q e) → IfErr r P → IfErr r Q
if_err (Ok x) f h = tt
if_err (Err e) f h = f e h

-- ---- the batches of logs

-- the batches of logs were added to others
abbrev pub Adds : List LogFile → List Replayed → List Replayed → Type 0
Adds logs before after = (read : List ReadLog) × AreRead logs read × (found : List Replayed) × (all_batches read ≡ Ok found) × (after ≡ before ++ found)

-- the batches of logs are refused
abbrev pub Refuses : List LogFile → Refusal → Type 0
Refuses logs refusal = (read : List ReadLog) × AreRead logs read × (all_batches read ≡ Err refusal)

pub adds_none : (batches : List Replayed) → Adds [] batches batches
adds_none batches = ([], tt, [], refl, sym (append-nil batches))

pub adds_more : (log : LogFile) (logs : List LogFile) (records : List LogRecord) (end : ℕ) (first before middle after : List Replayed) → AreRecords log.bytes records end → batches_of log.number records ≡ Ok first
    → middle ≡ before ++ first → Adds logs middle after → Adds (log ∷ logs) before after
adds_more log logs records end first before middle after are here added rest = (
  record { number = log.number; records = records } ∷ rest.0,
  ((refl, (end, are)), rest.1),
  first ++ rest.2,
  rw (here, rest.3) refl,
  rest.4 ∙ ap (λ (bs : List Replayed). bs ++ rest.2) added ∙ append_assoc before first rest.2,
)

-- every list of logs can be read
all_read : (logs : List LogFile) → (read : List ReadLog) × AreRead logs read
all_read [] = ([], tt)
all_read (log ∷ logs) =
    let here = has_records log.bytes in
    let rest = all_read logs in
    (record { number = log.number; records = here.0 } ∷ rest.0, ((refl, here.1), rest.1))

pub first_refused : (log : LogFile) (logs : List LogFile) (records : List LogRecord) (end : ℕ) (refusal : Refusal) → AreRecords log.bytes records end → batches_of log.number records ≡ Err refusal
    → Refuses (log ∷ logs) refusal
first_refused log logs records end refusal are here =
    let rest = all_read logs in
    (record { number = log.number; records = records } ∷ rest.0, ((refl, (end, are)), rest.1), rw here refl)

pub rest_refused : (log : LogFile) (logs : List LogFile) (records : List LogRecord) (end : ℕ) (first : List Replayed) (refusal : Refusal) → AreRecords log.bytes records end → batches_of log.number records ≡ Ok first
    → Refuses logs refusal → Refuses (log ∷ logs) refusal
rest_refused log logs records end first refusal are here rest =
    (record { number = log.number; records = records } ∷ rest.0, ((refl, (end, are)), rest.1), rw (here, rest.2) refl)

-- ---- the batches of a log's records

-- the batches of records were added to others
abbrev pub AddsRecords : ℕ → List LogRecord → List Replayed → List Replayed → Type 0
AddsRecords log records before after = (found : List Replayed) × (batches_of log records ≡ Ok found) × (after ≡ before ++ found)
