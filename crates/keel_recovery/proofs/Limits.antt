-- Batches that a directory's logs give are within their limits.
use Rattle.std.specs.List.{AllByRecursion}
use Rattle.std.proofs.Common.{◌≡◌, ℕ, ◌+◌, ◌==◌, Bool, true, false, cond, ltb, eqb, if◌then◌else◌, List, [], ◌∷◌, ◌++◌, length, Result, Ok, Err, refl, ap, subst, ◌∙◌, arith, eqb-true}
use Rattle.keel_base.specs.declared.file_name.FileName.{FileName}
use Rattle.keel_base.specs.declared.file_name.FileName.TheVariants.{Log, Table, Trash, Manifest, Current, Temp}
use Rattle.keel_base.specs.declared.op.Op.{Op}
use Rattle.keel_base.specs.Rows.{op_rows}
use Rattle.keel_batch.specs.declared.batch.Numbered.{Numbered}
use Rattle.keel_batch.specs.Batches.{AreBatches}
use Rattle.keel_batch.specs.Reading.{batch_of}
use Rattle.keel_batch.specs.Spelling.{IsBatch}
use Rattle.keel_batch.proofs.Laws.{decoded}
use Rattle.keel_directory.specs.declared.logs.LogFile.{LogFile}
use Rattle.keel_directory.specs.declared.logs.Replayed.{Replayed}
use Rattle.keel_directory.specs.Refusals.{Refusal, log_gap}
use Rattle.keel_directory.specs.Replays.{put_log, with_log, logs_from, ReadLog, AreRead, batch_found, batches_of, all_batches, ◌>>=◌, run_on, replayed_rows}
use Rattle.keel_disk.specs.Directory.{Named}
use Rattle.keel_frag.specs.declared.record.LogRecord.{LogRecord}
use Rattle.keel_recovery.proofs.Payloads.{AreSmall, HoldSmall, fits_of, records_small}
use Rattle.keel_recovery.proofs.Rows.{ops_found}
use Rattle.keel_draft.specs.Drafts.{batch_rows, count_ops}

-- ---- the bytes of logs

-- the files of an image, and of logs, hold bytes
abbrev pub ImageSmall : Named (List ℕ) → Type 0
ImageSmall image = AllByRecursion (λ (file : FileName × List ℕ). AreSmall file.1) image

abbrev FilesSmall : List LogFile → Type 0
FilesSmall files = AllByRecursion (λ (file : LogFile). AreSmall file.bytes) files

put_small : (log : LogFile) (logs : List LogFile) → AreSmall log.bytes → FilesSmall logs → FilesSmall (put_log log logs)
put_small log [] own h = (own, tt)
put_small log (other ∷ logs) own h = by (ltb log.number other.number) (eqb log.number other.number) (put_small log logs own h.1)
  where
    by : (a b : Bool) → FilesSmall (put_log log logs) → FilesSmall (cond a (log ∷ other ∷ logs) (cond b (log ∷ logs) (other ∷ put_log log logs)))
    by true b later = (own, h)
    by false true later = (own, h.1)
    by false false later = (h.0, later)

with_small : (least : ℕ) (file : FileName × List ℕ) (logs : List LogFile) → AreSmall file.1 → FilesSmall logs → FilesSmall (with_log least file logs)
with_small least (Log n, []) logs own h = h
with_small least (Log n, b ∷ bytes) logs own h = by (ltb n least)
  where
    by : (a : Bool) → FilesSmall (cond a logs (put_log (record { number = n; bytes = b ∷ bytes }) logs))
    by true = h
    by false = put_small (record { number = n; bytes = b ∷ bytes }) logs own h
with_small least (Table n, bytes) logs own h = h
with_small least (Trash n, bytes) logs own h = h
with_small least (Manifest n, bytes) logs own h = h
with_small least (Current, bytes) logs own h = h
with_small least (Temp n, bytes) logs own h = h

logs_small : (least : ℕ) (image : Named (List ℕ)) → ImageSmall image → FilesSmall (logs_from least image)
logs_small least [] h = tt
logs_small least (file ∷ image) h = with_small least file (logs_from least image) h.0 (logs_small least image h.1)

-- ---- batches

abbrev AreWithin : List Replayed → Type 0
AreWithin batches = AllByRecursion (λ (b : Replayed). IsBatch b.seq b.ops) batches

both_within : (xs ys : List Replayed) → AreWithin xs → AreWithin ys → AreWithin (xs ++ ys)
both_within [] ys h k = k
both_within (x ∷ xs) ys h k = (h.0, both_within xs ys h.1 k)

-- what two answers make of a whole
first_ok : {A : Type 0} (x : Result A Refusal) (then_is : A → Result (List Replayed) Refusal) (found : List Replayed) → (x >>= then_is) ≡ Ok found → (value : A) × (x ≡ Ok value) × (then_is value ≡ Ok found)
first_ok (Ok value) then_is found e = (value, refl, e)
first_ok (Err refusal) then_is found e = cc

abbrev given : List Replayed → Result (List Replayed) Refusal
given found = Ok found

ok_same : (xs ys : List Replayed) → given xs ≡ given ys → xs ≡ ys
ok_same xs ys e = cc

found_within : (log : ℕ) (r : LogRecord) (b : Replayed) → AreSmall r.payload → batch_found log r (batch_of r.payload) ≡ Ok b → IsBatch b.seq b.ops
found_within log r b small e = by (batch_of r.payload) refl e
  where
    by : (read : Result (ℕ × List Op) ℕ) → batch_of r.payload ≡ read → batch_found log r read ≡ Ok b → IsBatch b.seq b.ops
    by (Ok x) is e =
        let found : Numbered = record { seq = x.0; ops = x.1 } in
        let same : record { log = log; seq = x.0; ops = x.1 } ≡ b = cc in
        subst (λ (c : Replayed). IsBatch c.seq c.ops) same (decoded r.payload (Ok found) (fits_of r.payload small) is).0
    by (Err left) is e = cc

log_within : (log : ℕ) (records : List LogRecord) (found : List Replayed) → HoldSmall records → batches_of log records ≡ Ok found → AreWithin found
log_within log [] found small e = subst AreWithin (ok_same [] found e) tt
log_within log (r ∷ records) found small e =
    let first = first_ok (batch_found log r (batch_of r.payload)) _ found e in
    let rest = first_ok (batches_of log records) _ found first.2 in
    subst AreWithin (ok_same (first.0 ∷ rest.0) found rest.2) (found_within log r first.0 small.0 first.1, log_within log records rest.0 small.1 rest.1)

all_within : (files : List LogFile) (logs : List ReadLog) (found : List Replayed) → FilesSmall files → AreRead files logs → all_batches logs ≡ Ok found → AreWithin found
all_within [] [] found small read e = subst AreWithin (ok_same [] found e) tt
all_within [] (_ ∷ _) found small read e = absurd read
all_within (_ ∷ _) [] found small read e = absurd read
all_within (file ∷ files) (log ∷ logs) found small read e =
    let first = first_ok (batches_of log.number log.records) _ found e in
    let rest = first_ok (all_batches logs) _ found first.2 in
    let own = records_small file.bytes log.records read.0.1.0 read.0.1.1 small.0 in
    subst AreWithin (ok_same (first.0 ++ rest.0) found rest.2)
    (both_within first.0 rest.0 (log_within log.number log.records first.0 own first.1) (all_within files logs rest.0 small.1 read.1 rest.1))

-- ---- numbered on

-- batches that run on are numbered on
pub record RunOn (last end : ℕ) (found : List Replayed) : Type 0 where
  pub ends : end ≡ last + count_ops (ops_found found)
  pub rows : replayed_rows found ≡ batch_rows (last + 1) (ops_found found)

-- the first of them is numbered next, and the others run on behind it
record RunsFirst (last end : ℕ) (b : Replayed) (found : List Replayed) : Type 0 where
  next : b.seq ≡ last + 1
  later : run_on (last + length b.ops) found ≡ Ok end

runs_first : (last end : ℕ) (b : Replayed) (found : List Replayed) → run_on last (b ∷ found) ≡ Ok end → RunsFirst last end b found
runs_first last end b found e = by (b.seq == last + 1) refl e
  where
    by : (t : Bool) → (b.seq == last + 1) ≡ t → (if t then run_on (last + length b.ops) found else Err (log_gap b.log (last + 1) b.seq)) ≡ Ok end → RunsFirst last end b found
    by true is e = record { next = eqb-true b.seq (last + 1) is; later = e }
    by false is e = cc

pub runs_on : (last end : ℕ) (found : List Replayed) → run_on last found ≡ Ok end → RunOn last end found
runs_on last end [] e = record { ends = let same : last ≡ end = cc in omega (arith, same); rows = refl }
runs_on last end (b ∷ found) e =
    let first = runs_first last end b found e in
    let rest = runs_on (last + length b.ops) end found first.later in
    let next : last + length b.ops + 1 ≡ last + 1 + length b.ops = omega arith in
    record {
      ends = omega (arith, rest.ends);
      rows = (λ i. op_rows (first.next i) b.ops ++ rest.rows i) ∙ ap (λ (n : ℕ). op_rows (last + 1) b.ops ++ batch_rows n (ops_found found)) next;
    }

within_run : (last end : ℕ) (found : List Replayed) → AreWithin found → run_on last found ≡ Ok end → AreBatches last (ops_found found)
within_run last end [] h e = tt
within_run last end (b ∷ found) h e =
    let first = runs_first last end b found e in
    (subst (λ (n : ℕ). IsBatch n b.ops) first.next h.0, within_run (last + length b.ops) end found h.1 first.later)

-- what logs of an image give is within its limits, where its files hold bytes
pub logs_within : (least last end : ℕ) (image : Named (List ℕ)) (logs : List ReadLog) (found : List Replayed) → ImageSmall image → AreRead (logs_from least image) logs → all_batches logs ≡ Ok found → run_on last found ≡ Ok end
    → AreBatches last (ops_found found)
logs_within least last end image logs found small read all run =
    within_run last end found (all_within (logs_from least image) logs found (logs_small least image small) read all) run
