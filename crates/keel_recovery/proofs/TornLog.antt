-- What a torn log, or one as it is read, gives of its batches.
use Rattle.std.proofs.Common.{◌≡◌, ℕ, ◌+◌, ◌≤◌, List, [], ◌∷◌, ◌++◌, length, take, Ok, refl, sym, ap, subst, ◌∙◌, arith}
use Rattle.keel_base.specs.declared.op.Op.{Op}
use Rattle.keel_batch.specs.Batches.{payloads_behind, AreBatches}
use Rattle.keel_batch.specs.Spelling.{spelling}
use Rattle.keel_directory.specs.declared.logs.LogFile.{LogFile}
use Rattle.keel_directory.specs.declared.logs.Replayed.{Replayed}
use Rattle.keel_directory.specs.Replays.{ReadLog, AreRead, batches_of, all_batches}
use Rattle.keel_frag.specs.declared.record.LogRecord.{LogRecord}
use Rattle.keel_frag.specs.Images.{IsImage, IsPlain}
use Rattle.keel_frag.specs.Pieces.{Progress}
use Rattle.keel_frag.specs.Reading.{AreRecords}
use Rattle.keel_frag.specs.Writing.{first_offset, record_bytes, records_bytes, records_at}
use Rattle.keel_frag.proofs.Continuing.{making}
use Rattle.keel_frag.proofs.Existing.{has_records}
use Rattle.keel_frag.proofs.Fronts.{one_reading}
use Rattle.keel_frag.proofs.TornRecords.{torn_records}
use Rattle.keel_recovery.specs.Chains.{size_of_first}
use Rattle.keel_recovery.proofs.LogFiles.{with_some}
use Rattle.keel_recovery.proofs.Numbering.{batches_take, payloads_take, payloads_length, read_again}
use Rattle.keel_recovery.proofs.Rows.{RunsAs, replays_of, replays_run, runs_append}
use Rattle.keel_draft.specs.Drafts.{count_ops}

-- ---- records

-- bytes have the same records in each reading
pub records_once : (bytes : List ℕ) (xs ys : List LogRecord) (m n : ℕ) → AreRecords bytes xs m → AreRecords bytes ys n → xs ≡ ys
records_once bytes xs ys m n a b =
    let p : Progress = record { offset = m; done = xs; begun = a.0 } in
    let q : Progress = record { offset = n; done = ys; begun = b.0 } in
    ap (λ (r : Progress). r.done) (one_reading bytes p q a.1 b.1)

-- no bytes have no records
no_records : (all : List LogRecord) (end : ℕ) → AreRecords [] all end → all ≡ []
unfolding records_bytes records_at
no_records all end are = records_once [] all [] end 0 are (_, making [])

records_give : (number offset last : ℕ) (batches : List (List Op)) → AreBatches last batches
    → batches_of number (records_at offset (payloads_behind last batches)) ≡ Ok (replays_of number last batches)
unfolding records_at
records_give number offset last [] h = refl
records_give number offset last (ops ∷ batches) h =
    let first : LogRecord = record { offset = first_offset offset; payload = spelling (last + 1) ops } in
    let rest = records_give number (offset + length (record_bytes offset (spelling (last + 1) ops))) (last + length ops) batches h.1 in
    rw (read_again (last + 1) ops h.0, rest) refl

-- ---- one log

-- a log of that number with these bytes gives the first so many of these batches, and as many as are asked
pub record GivesFirst (number last : ℕ) (written : List (List Op)) (least : ℕ) (bytes : List ℕ) : Type 0 where
  pub count : ℕ
  pub enough : least ≤ count
  pub within : count ≤ length written
  pub records : List LogRecord
  pub end : ℕ
  pub are : AreRecords bytes records end
  pub gives : batches_of number records ≡ Ok (replays_of number last (take count written))

pub torn_gives : (number last : ℕ) (written : List (List Op)) (firm least : ℕ) (meant image : List ℕ)
    → AreBatches last written → meant ≡ records_bytes 0 (payloads_behind last written)
    → least ≤ length written → size_of_first least (payloads_behind last written) ≤ firm
    → IsImage firm meant image → IsPlain meant image → GivesFirst number last written least image
torn_gives number last written firm least meant image batches meant_is within firm_to is_image plain =
    let payloads = payloads_behind last written in
    let many : length payloads ≡ length written = payloads_length last written in
    let found = has_records image in
    let holds = torn_records firm payloads meant image found.0 found.1.0 meant_is is_image plain found.1.1 in
    record {
      count = holds.count;
      enough = holds.firm_found least (omega (arith, many, within)) firm_to;
      within = omega (arith, holds.within, many);
      records = found.0;
      end = found.1.0;
      are = found.1.1;
      gives =
          ap (λ (l : List LogRecord). batches_of number l) holds.found_are
          ∙ ap (λ (l : List (List ℕ)). batches_of number (records_at 0 l)) (payloads_take holds.count last written)
          ∙ records_give number 0 last (take holds.count written) (batches_take holds.count last written batches);
    }

-- ---- logs one behind the other

-- what these logs give is these batches, numbered on
pub record ReadsSo (last : ℕ) (written : List (List Op)) (files : List LogFile) : Type 0 where
  pub reads : List ReadLog
  pub are : AreRead files reads
  pub batches : List Replayed
  pub all : all_batches reads ≡ Ok batches
  pub runs : RunsAs last written batches

none_are : (number last : ℕ) (first : List (List Op)) (records : List LogRecord) → records ≡ [] → batches_of number records ≡ Ok (replays_of number last first) → replays_of number last first ≡ []
none_are number last first records none gives = by (replays_of number last first) (sym gives ∙ ap (batches_of number) none)
  where
    by : (found : List Replayed) → Ok found ≡ batches_of number [] → found ≡ []
    by [] e = refl
    by (b ∷ found) e = cc

-- a log before others
pub one_before : (number last : ℕ) (written : List (List Op)) (least : ℕ) (rest : List (List Op)) (bytes : List ℕ) (files : List LogFile) (one : GivesFirst number last written least bytes)
    → ReadsSo (last + count_ops (take one.count written)) rest files → ReadsSo last (take one.count written ++ rest) (with_some number bytes files)
one_before number last written least rest [] files one later =
    let none = none_are number last (take one.count written) one.records (no_records one.records one.end one.are) one.gives in
    let run = runs_append last (take one.count written) rest (replays_of number last (take one.count written)) later.batches (replays_run number last (take one.count written)) later.runs in
    record {
      reads = later.reads;
      are = later.are;
      batches = later.batches;
      all = later.all;
      runs = subst (λ (l : List Replayed). RunsAs last (take one.count written ++ rest) (l ++ later.batches)) none run;
    }
one_before number last written least rest (b ∷ bytes) files one later =
    let first = take one.count written in
    record {
      reads = record { number = number; records = one.records } ∷ later.reads;
      are = ((refl, (one.end, one.are)), later.are);
      batches = replays_of number last first ++ later.batches;
      all = rw (one.gives, later.all) refl;
      runs = runs_append last first rest (replays_of number last first) later.batches (replays_run number last first) later.runs;
    }
