-- A directory whose logs are as they may be found gives the first of their batches.
use Rattle.std.specs.List.{AllByRecursion}
use Rattle.std.proofs.Common.{◌≡◌, ◌⊎◌, inl, inr, ℕ, ◌+◌, ◌-◌, ◌≤◌, List, [], ◌∷◌, ◌++◌, length, map, take, refl, sym, ap, subst, ◌∙◌, arith, take_all}
use Rattle.std.proofs.lemmas.List.{append-nil, length-append, take-append-le}
use Rattle.std.proofs.Math.Seq.{take-append-add}
use Rattle.keel_base.specs.declared.op.Op.{Op}
use Rattle.keel_disk.specs.Directory.{Named}
use Rattle.keel_directory.specs.declared.logs.LogFile.{LogFile}
use Rattle.keel_frag.specs.Images.{IsImage, IsPlain}
use Rattle.keel_frag.specs.Writing.{records_bytes}
use Rattle.keel_frag.proofs.Plainness.{fronts_are_plain}
use Rattle.keel_batch.specs.Batches.{payloads_behind, AreBatches}
use Rattle.keel_recovery.specs.Chains.{Chained, payloads, size_of_first, batches_of, FollowOn}
use Rattle.keel_recovery.proofs.LogFiles.{log_bytes, with_some, files_of}
use Rattle.keel_recovery.proofs.Numbering.{front_batches, rest_batches, payloads_length}
use Rattle.keel_recovery.proofs.Rows.{replays_run, none_run}
use Rattle.keel_recovery.proofs.TornLog.{GivesFirst, ReadsSo, torn_gives, one_before}
use Rattle.keel_draft.specs.Drafts.{count_ops}

-- The bytes of a log are those that a crash, or a read, may leave of its records: the first so many firm.
pub record SeenLog (mark : ℕ) (log : Chained) (bytes : List ℕ) : Type 0 where
  pub firm : ℕ
  pub is_image : IsImage firm (records_bytes 0 (payloads log)) bytes
  pub plain : IsPlain (records_bytes 0 (payloads log)) bytes
  pub enough : size_of_first (mark - log.before) (payloads log) ≤ firm

abbrev pub AreSeen : ℕ → List Chained → Named (List ℕ) → Type 0
AreSeen mark [] image = Unit {0}
AreSeen mark (log ∷ logs) image =
    SeenLog mark log (log_bytes log.number image)
    × (AllByRecursion (λ (later : Chained). later.batches ≡ []) logs ⊎ (log_bytes log.number image ≡ records_bytes 0 (payloads log)))
    × AreSeen mark logs image

abbrev pub numbers_of : List Chained → List ℕ
numbers_of logs = map (λ (log : Chained). log.number) logs

-- the files give the first so many of these batches, and as many as the mark asks
pub record GivesFrom (mark before last : ℕ) (written : List (List Op)) (files : List LogFile) : Type 0 where
  pub count : ℕ
  pub enough : mark ≤ before + count
  pub within : count ≤ length written
  pub reads : ReadsSo last (take count written) files

none_batches : (logs : List Chained) → AllByRecursion (λ (later : Chained). later.batches ≡ []) logs → batches_of logs ≡ []
none_batches [] none = refl
none_batches (log ∷ logs) none = (λ i. none.0 i ++ none_batches logs none.1 i)

-- a log gives the first of its batches
one_gives : (mark last before : ℕ) (log : Chained) (bytes : List ℕ) → log.before ≡ before → log.last ≡ last → AreBatches last log.batches → mark ≤ before + length log.batches → SeenLog mark log bytes
    → GivesFirst log.number last log.batches (mark - before) bytes
one_gives mark last before log bytes before_is last_is limits enough seen =
    let at : GivesFirst log.number log.last log.batches (mark - log.before) bytes =
    torn_gives log.number log.last log.batches seen.firm (mark - log.before) (records_bytes 0 (payloads log)) bytes (subst (λ (n : ℕ). AreBatches n log.batches) (sym last_is) limits) refl
    (omega (arith, before_is, enough)) seen.enough seen.is_image seen.plain in
    subst (λ (n : ℕ). GivesFirst log.number last log.batches (mark - n) bytes) before_is (subst (λ (n : ℕ). GivesFirst log.number n log.batches (mark - log.before) bytes) last_is at)

-- and all of them where it is whole
whole_gives : (last : ℕ) (log : Chained) (bytes : List ℕ) → log.last ≡ last → AreBatches last log.batches → bytes ≡ records_bytes 0 (payloads log) → GivesFirst log.number last log.batches (length log.batches) bytes
whole_gives last log bytes last_is limits whole =
    let meant = records_bytes 0 (payloads_behind last log.batches) in
    let same : bytes ≡ meant = whole ∙ ap (λ (n : ℕ). records_bytes 0 (payloads_behind n log.batches)) last_is in
    let image : IsImage (length meant) meant meant = record { least = omega arith; most = omega arith; agrees = refl } in
    let all : take (length log.batches) (payloads_behind last log.batches) ≡ payloads_behind last log.batches =
    take_all (length log.batches) (payloads_behind last log.batches) (omega (arith, payloads_length last log.batches)) in
    let size : size_of_first (length log.batches) (payloads_behind last log.batches) ≤ length meant = omega (arith, ap (λ (l : List (List ℕ)). length (records_bytes 0 l)) all) in
    subst (GivesFirst log.number last log.batches (length log.batches)) (sym same)
    (torn_gives log.number last log.batches (length meant) (length log.batches) meant meant limits refl (omega arith) size image (fronts_are_plain meant meant [] (sym (append-nil meant))))

nothing_reads : (last next : ℕ) (files : List LogFile) → ReadsSo last [] files → ReadsSo next [] files
nothing_reads last next files h = record { reads = h.reads; are = h.are; batches = h.batches; all = h.all; runs = none_run last next h.batches h.runs }

pub all_give : (mark before last : ℕ) (logs : List Chained) (image : Named (List ℕ)) → FollowOn before last logs → AreBatches last (batches_of logs) → AreSeen mark logs image
    → mark ≤ before + length (batches_of logs) → GivesFrom mark before last (batches_of logs) (files_of (numbers_of logs) image)
all_give mark before last [] image follow limits seen enough = record {
  count = 0;
  enough = omega (arith, enough);
  within = omega arith;
  reads = record { reads = []; are = tt; batches = []; all = refl; runs = replays_run 0 last [] };
}
all_give mark before last (log ∷ logs) image follow limits seen enough =
    by seen.1 (λ more. all_give mark (before + length log.batches) (last + count_ops log.batches) logs image follow.2 (rest_batches last log.batches (batches_of logs) limits) seen.2 more)
  where
    by : (AllByRecursion (λ (later : Chained). later.batches ≡ []) logs ⊎ (log_bytes log.number image ≡ records_bytes 0 (payloads log)))
        → (mark ≤ before + length log.batches + length (batches_of logs) → GivesFrom mark (before + length log.batches) (last + count_ops log.batches) (batches_of logs) (files_of (numbers_of logs) image))
        → GivesFrom mark before last (log.batches ++ batches_of logs) (with_some log.number (log_bytes log.number image) (files_of (numbers_of logs) image))
    by (inl none) later =
        let empty = none_batches logs none in
        let total : length (log.batches ++ batches_of logs) ≡ length log.batches = omega (arith, length-append log.batches (batches_of logs), ap length empty) in
        let one = one_gives mark last before log (log_bytes log.number image) follow.0 follow.1 (front_batches last log.batches (batches_of logs) limits) (omega (arith, enough, total)) seen.0 in
        let rest = later (omega (arith, enough, length-append log.batches (batches_of logs))) in
        let front = take one.count log.batches in
        let first : take one.count (log.batches ++ batches_of logs) ≡ front = take-append-le one.count log.batches (batches_of logs) one.within in
        let nothing : take rest.count (batches_of logs) ≡ [] = ap (take rest.count) empty ∙ take_all rest.count [] (omega arith) in
        let then : ReadsSo (last + count_ops front) [] (files_of (numbers_of logs) image) =
        nothing_reads (last + count_ops log.batches) (last + count_ops front) (files_of (numbers_of logs) image) (subst (λ (l : List (List Op)). ReadsSo (last + count_ops log.batches) l (files_of (numbers_of logs) image)) nothing rest.reads) in
        let both = one_before log.number last log.batches (mark - before) [] (log_bytes log.number image) (files_of (numbers_of logs) image) one then in
        record {
          count = one.count;
          enough = omega (arith, one.enough);
          within = omega (arith, one.within, total);
          reads = subst (λ (l : List (List Op)). ReadsSo last l (with_some log.number (log_bytes log.number image) (files_of (numbers_of logs) image))) (append-nil front ∙ sym first) both;
        }
    by (inr whole) later =
        let one = whole_gives last log (log_bytes log.number image) follow.1 (front_batches last log.batches (batches_of logs) limits) whole in
        let rest = later (omega (arith, enough, length-append log.batches (batches_of logs))) in
        let all : take one.count log.batches ≡ log.batches = take_all one.count log.batches one.enough in
        let first : take (length log.batches + rest.count) (log.batches ++ batches_of logs) ≡ log.batches ++ take rest.count (batches_of logs) = take-append-add log.batches (batches_of logs) rest.count in
        let then : ReadsSo (last + count_ops (take one.count log.batches)) (take rest.count (batches_of logs)) (files_of (numbers_of logs) image) =
        subst (λ (l : List (List Op)). ReadsSo (last + count_ops l) (take rest.count (batches_of logs)) (files_of (numbers_of logs) image)) (sym all) rest.reads in
        let both = one_before log.number last log.batches (length log.batches) (take rest.count (batches_of logs)) (log_bytes log.number image) (files_of (numbers_of logs) image) one then in
        record {
          count = length log.batches + rest.count;
          enough = omega (arith, rest.enough);
          within = omega (arith, rest.within, length-append log.batches (batches_of logs));
          reads = subst (λ (l : List (List Op)). ReadsSo last l (with_some log.number (log_bytes log.number image) (files_of (numbers_of logs) image)))
              (ap (λ (l : List (List Op)). l ++ take rest.count (batches_of logs)) all ∙ sym first) both;
        }
