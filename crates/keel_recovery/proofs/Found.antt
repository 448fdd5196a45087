-- What the reading of a directory gives of its parts.
use Rattle.std.specs.List.{AllByRecursion}
use Rattle.std.proofs.Common.{◌≡◌, ℕ, Bool, true, false, List, [], ◌∷◌, ◌++◌, Option, Some, None, Result, Ok, Err, refl, sym, subst}
use Rattle.keel_base.specs.declared.file_name.FileName.{FileName}
use Rattle.keel_base.specs.declared.file_name.FileName.TheVariants.{Current}
use Rattle.keel_base.specs.declared.row.Row.{Row}
use Rattle.keel_base.specs.declared.row.Kind.{Kind}
use Rattle.keel_base.specs.declared.row.Kind.TheVariants as kinds
use Rattle.keel_base.specs.Keys.{key_cmp}
use Rattle.keel_base.specs.Points.{Point, Values}
use Rattle.keel_base.specs.Rows.{IsMapOf, newest}
use Rattle.keel_disk.specs.Directory.{Named, find}
use Rattle.keel_directory.specs.declared.logs.Replayed.{Replayed}
use Rattle.keel_directory.specs.Answers.{PairList, ArePairsOf, is_over}
use Rattle.keel_directory.specs.Reading.{StoreRead, held, IsReading, FoundBy, ManifestOf, VersionOf, TablesOf, LogsOf, PointOf, WithCurrent, first_used, without_current, all_rows}
use Rattle.keel_directory.specs.Refusals.{Refusal}
use Rattle.keel_directory.specs.Replays.{Replay, ReadLog, LogsAre, AreRead, logs_from, all_batches, run_on, ◌>>=◌}
use Rattle.keel_directory.specs.Sound.{Agree, AllAgree}
use Rattle.keel_directory.specs.TableFiles.{TableFile}
use Rattle.keel_directory.proofs.Mapping.{left, sets_put, sets_delete, not_over, is_newest_row, no_pairs}
use Rattle.keel_directory.proofs.OneReading.{reading_one}
use Rattle.keel_version.specs.Tables.{Contents}
use Rattle.std.specs.FinMap.Entries.{put}

-- ---- every list of rows has a map

more_pairs : (row : Row) (rows : List Row) (pairs : PairList) → ArePairsOf rows pairs → (set : PairList) × ArePairsOf (row ∷ rows) set
more_pairs row rows pairs are = by (is_over row (newest row.key rows)) refl
  where
    by_kind : (kind : Kind) → row.kind ≡ kind → is_over row (newest row.key rows) ≡ true → (set : PairList) × ArePairsOf (row ∷ rows) set
    by_kind kinds.Put is over =
        let set = put key_cmp row.key row.value (left row.key pairs) in
        (set, is_newest_row row rows pairs set over (sets_put row pairs set is refl) are)
    by_kind kinds.Del is over = (left row.key pairs, is_newest_row row rows pairs (left row.key pairs) over (sets_delete row pairs (left row.key pairs) is refl) are)

    by : (b : Bool) → is_over row (newest row.key rows) ≡ b → (set : PairList) × ArePairsOf (row ∷ rows) set
    by true over = by_kind row.kind refl over
    by false below = (pairs, not_over row rows pairs below are)

all_pairs : (rows : List Row) → (pairs : PairList) × ArePairsOf rows pairs
all_pairs [] = ([], no_pairs)
all_pairs (row ∷ rows) = let rest = all_pairs rows in more_pairs row rows rest.0 rest.1

pub has_map : (rows : List Row) → (values : Values) × IsMapOf rows values
has_map rows = let found = all_pairs rows in (found.1.0, found.1.1)

-- ---- the parts of a reading

-- what is held is a map of all rows, the last number, and what the logs give
pub record HeldGives (image : Named (List ℕ)) (f : StoreRead) (point : Point) : Type 0 where
  pub map : IsMapOf (all_rows f) point.values
  pub seq : point.seq ≡ f.replay.last
  pub logs : LogsAre image f.version.min_log f.version.last_seq (Ok f.replay)

not_held : (o : Option FileName) (f : StoreRead) (p : Point) → held f p ≡ without_current o → ⊥
not_held None f p e = cc
not_held (Some n) f p e = cc

module _ (image : Named (List ℕ)) where
  by_logs : (m : ℕ) (version : Contents) (files : List TableFile) (logs : Result Replay Refusal) (f : StoreRead) → LogsAre image version.min_log version.last_seq logs → LogsOf image m version files logs (Ok f)
      → LogsAre image f.version.min_log f.version.last_seq (Ok f.replay)
  by_logs m version files (Ok logs) f are is =
      let same : record { manifest = m; version = version; tables = files; replay = logs } ≡ f = cc in
      subst (λ (g : StoreRead). LogsAre image g.version.min_log g.version.last_seq (Ok g.replay)) same are
  by_logs m version files (Err r) f are is = cc

  by_tables : (m : ℕ) (version : Contents) (tables : Result (List TableFile) Refusal) (f : StoreRead) → TablesOf image m version tables (Ok f) → LogsAre image f.version.min_log f.version.last_seq (Ok f.replay)
  by_tables m version (Ok files) f is = by_logs m version files is.0 f is.1 is.2
  by_tables m version (Err r) f is = cc

  by_version : (m : ℕ) (version : Result Contents Refusal) (f : StoreRead) → VersionOf image m version (Ok f) → LogsAre image f.version.min_log f.version.last_seq (Ok f.replay)
  by_version m (Ok version) f of = by_tables m version of.0 f of.2
  by_version m (Err r) f of = cc

  by_manifest : (manifest : Result ℕ Refusal) (f : StoreRead) → ManifestOf image manifest (Ok f) → LogsAre image f.version.min_log f.version.last_seq (Ok f.replay)
  by_manifest (Ok m) f of = by_version m of.0 f of.2
  by_manifest (Err r) f of = cc

  by_answer : (answer : Result StoreRead Refusal) (current : List ℕ) (f : StoreRead) (point : Point) → FoundBy image current answer → PointOf answer (held f point) → HeldGives image f point
  by_answer (Ok found) current f point found_by is =
      subst (λ (g : StoreRead). HeldGives image g point) (sym is.0) (record { map = is.1; seq = is.2; logs = by_manifest found_by.0 found found_by.2 })
  by_answer (Err r) current f point found_by is = absurd is

  by_current : (current : Option (List ℕ)) (f : StoreRead) (point : Point) → WithCurrent image current (held f point) → HeldGives image f point
  by_current None f point is = absurd (not_held (first_used image) f point is)
  by_current (Some current) f point is = by_answer is.0 current f point is.1 is.2

  pub held_gives : (f : StoreRead) (point : Point) → IsReading image (held f point) → HeldGives image f point
  unfolding IsReading
  held_gives f point is = by_current (find Current image) f point is

  -- without CURRENT a directory is read as a new store at most
  pub none_held : (f : StoreRead) (point : Point) → find Current image ≡ None → IsReading image (held f point) → ⊥
  unfolding IsReading
  none_held f point none is = not_held (first_used image) f point (subst (λ current. WithCurrent image current (held f point)) none is)

-- one reading holds one store
pub same_held : (image : Named (List ℕ)) (f g : StoreRead) (p q : Point) → IsReading image (held f p) → IsReading image (held g q) → f ≡ g
same_held image f g p q a b = let e = reading_one image (held f p) (held g q) a b in cc

-- ---- what was replayed

pub record Replays (image : Named (List ℕ)) (least last : ℕ) (found : Replay) : Type 0 where
  pub logs : List ReadLog
  pub are : AreRead (logs_from least image) logs
  pub all : all_batches logs ≡ Ok found.batches
  pub runs : run_on last found.batches ≡ Ok found.last

pub replays : (image : Named (List ℕ)) (least last : ℕ) (found : Replay) → LogsAre image least last (Ok found) → Replays image least last found
replays image least last found (logs, are, is) = by (all_batches logs) refl is
  where
    by_run : (batches : List Replayed) (end : Result ℕ Refusal) → all_batches logs ≡ Ok batches → run_on last batches ≡ end
        → Ok found ≡ (end >>= λ n. Ok (record { batches = batches; last = n })) → Replays image least last found
    by_run batches (Ok end) all runs e =
        let same : record { batches = batches; last = end } ≡ found = cc in
        subst (λ (r : Replay). Replays image least last r) same (record { logs = logs; are = are; all = all; runs = runs })
    by_run batches (Err r) all runs e = cc

    by : (batches : Result (List Replayed) Refusal) → all_batches logs ≡ batches
        → Ok found ≡ (batches >>= λ found. run_on last found >>= λ n. Ok (record { batches = found; last = n })) → Replays image least last found
    by (Ok batches) all e = by_run batches (run_on last batches) all refl e
    by (Err r) all e = cc

-- ---- rows that agree

agree_front : (a : Row) (xs ys : List Row) → AllByRecursion (Agree a) (xs ++ ys) → AllByRecursion (Agree a) xs
agree_front a [] ys h = tt
agree_front a (x ∷ xs) ys h = (h.0, agree_front a xs ys h.1)

each_front : (rows xs ys : List Row) → AllByRecursion (λ a. AllByRecursion (Agree a) (xs ++ ys)) rows → AllByRecursion (λ a. AllByRecursion (Agree a) xs) rows
each_front [] xs ys h = tt
each_front (a ∷ rows) xs ys h = (agree_front a xs ys h.0, each_front rows xs ys h.1)

some_front : (P : Row → Type 0) (xs ys : List Row) → AllByRecursion P (xs ++ ys) → AllByRecursion P xs
some_front P [] ys h = tt
some_front P (x ∷ xs) ys h = (h.0, some_front P xs ys h.1)

pub front_agrees : (xs ys : List Row) → AllAgree (xs ++ ys) → AllAgree xs
front_agrees xs ys h = each_front xs xs ys (some_front (λ a. AllByRecursion (Agree a) (xs ++ ys)) xs ys h)
