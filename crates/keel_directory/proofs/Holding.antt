-- What a directory with CURRENT holds, part by part.
use Rattle.std.proofs.Common.{◌≡◌, ℕ, List, ◌++◌, Option, Some, None, Result, Ok, Err, refl, sym, ap, subst}
use Rattle.std.specs.Prelude.{IsErr, IsErrAnd}
use Rattle.keel_base.specs.declared.row.Row.{Row}
use Rattle.keel_base.specs.declared.file_name.FileName.{FileName}
use Rattle.keel_base.specs.Points.{Point}
use Rattle.keel_base.specs.declared.file_name.FileName.TheVariants.{Manifest, Current}
use Rattle.keel_disk.specs.Directory.{Named, find}
use Rattle.keel_version.specs.Tables.{Contents}
use Rattle.keel_directory.specs.declared.answer.DirectoryRefusal.{DirectoryRefusal}
use Rattle.keel_directory.specs.declared.answer.Held.{Held}
use Rattle.keel_directory.specs.Manifests.{CurrentIs, ManifestIs}
use Rattle.keel_directory.specs.TableFiles.{TablesAre}
use Rattle.keel_directory.specs.Replays.{Replay, LogsAre, replayed_rows}
use Rattle.keel_directory.specs.Reading.{StoreRead, IsReading, WithCurrent, held, refused, without_current, first_used}
use Rattle.keel_directory.specs.Answers.{Names, HoldsAs, IsHeld, ArePairsOf, TableRowsAre}
use Rattle.keel_directory.proofs.Replaying.{named}

pub handed_on : {A : Type 0} (r : Result A DirectoryRefusal) (e : DirectoryRefusal) → IsErr r × IsErrAnd r (λ other. other ≡ e) → r ≡ Err e
handed_on (Ok x) e h = absurd h.1
handed_on {A} (Err other) e h = ap (λ (error : DirectoryRefusal). Err error) h.1

-- ---- each part is read where no part before it is refused

pub current_refused : (image : Named (List ℕ)) (current : List ℕ) (e : DirectoryRefusal) → Names e (λ refusal. CurrentIs current (Err refusal)) → HoldsAs image current (Err e)
current_refused image current e h = named e (λ refusal is. (Err refusal, is, refl)) h

pub manifest_refused : (image : Named (List ℕ)) (current : List ℕ) (number : ℕ) (e : DirectoryRefusal) → CurrentIs current (Ok number) → Names e (λ refusal. ManifestIs (find (Manifest number) image) (Err refusal))
    → HoldsAs image current (Err e)
manifest_refused image current number e names h = named e (λ refusal is. (Ok number, names, (Err refusal, is, refl))) h

-- CURRENT names a manifest that gives a version
pub record HasVersion (image : Named (List ℕ)) (current : List ℕ) (number : ℕ) (version : Contents) : Type 0 where
  pub names : CurrentIs current (Ok number)
  pub gives : ManifestIs (find (Manifest number) image) (Ok version)

pub tables_refused : (image : Named (List ℕ)) (current : List ℕ) (number : ℕ) (version : Contents) (e : DirectoryRefusal) → HasVersion image current number version
    → Names e (λ refusal. TablesAre image version.tables (Err refusal)) → HoldsAs image current (Err e)
tables_refused image current number version e v h = named e (λ refusal is. (Ok number, v.names, (Ok version, v.gives, (Err refusal, is, refl)))) h

pub logs_refused : (image : Named (List ℕ)) (current : List ℕ) (number : ℕ) (version : Contents) (rows : List Row) (e : DirectoryRefusal) → HasVersion image current number version
    → TableRowsAre image version.tables (Ok rows) → Names e (λ refusal. LogsAre image version.min_log version.last_seq (Err refusal)) → HoldsAs image current (Err e)
logs_refused image current number version rows e v tables h =
    named e (λ refusal is. (Ok number, v.names, (Ok version, v.gives, (Ok tables.0, tables.1, (Err refusal, is, refl))))) h

pub holds : (image : Named (List ℕ)) (current : List ℕ) (version : Contents) (rows : List Row) (replay : Replay) (h : Held) → HasVersion image current h.manifest version
    → TableRowsAre image version.tables (Ok rows) → LogsAre image version.min_log version.last_seq (Ok replay) → ArePairsOf (rows ++ replayed_rows replay.batches) h.pairs → version ≡ h.version → replay.last ≡ h.last
    → HoldsAs image current (Ok h)
holds image current version rows replay h v tables logs pairs same last =
    let map = subst (λ (rs : List Row). ArePairsOf (rs ++ replayed_rows replay.batches) h.pairs) tables.2 pairs in (
      record { manifest = h.manifest; version = version; tables = tables.0; replay = replay },
      record { values = map.0; seq = replay.last },
      (Ok h.manifest, v.names, (Ok version, v.gives, (Ok tables.0, tables.1, (Ok replay, logs, refl)))),
      (refl, map.1, refl),
      record { manifest = refl; version = same; pairs = map.2; last = last },
    )

-- ---- the whole directory

pub reads_held : (image : Named (List ℕ)) (current : List ℕ) (h : Held) → find Current image ≡ Some current → HoldsAs image current (Ok h)
    → (found : StoreRead) × (point : Point) × IsReading image (held found point) × IsHeld h found point
unfolding IsReading
reads_held image current h there is =
    (is.0, is.1, subst (λ (bytes : Option (List ℕ)). WithCurrent image bytes (held is.0 is.1)) (sym there) (Ok is.0, is.2, is.3), is.4)

pub reads_refused : (image : Named (List ℕ)) (current : List ℕ) (e : DirectoryRefusal) → find Current image ≡ Some current → HoldsAs image current (Err e) → Names e (λ refusal. IsReading image (refused refusal))
unfolding IsReading
reads_refused image current e there is =
    named e (λ refusal found. subst (λ (bytes : Option (List ℕ)). WithCurrent image bytes (refused refusal)) (sym there) (Err refusal, found, refl)) is

pub reads_without : (image : Named (List ℕ)) (used : Option FileName) → find Current image ≡ None → used ≡ first_used image → IsReading image (without_current used)
unfolding IsReading
reads_without image used none is =
    subst (λ (bytes : Option (List ℕ)). WithCurrent image bytes (without_current used)) (sym none) (ap without_current is)
