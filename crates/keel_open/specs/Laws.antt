-- How what stands short of the logs and the logs make up the reading of a directory.
use Rattle.std.specs.Prelude.{◌≡◌, ℕ, List, Result, Ok, Err}
use Rattle.keel_base.specs.Points.{Point}
use Rattle.keel_base.specs.Rows.{IsMapOf}
use Rattle.keel_disk.specs.Directory.{Named}
use Rattle.keel_disk.specs.Sound.{IsOneToOne}
use Rattle.keel_disk.specs.State.{State}
use Rattle.keel_directory.specs.Refusals.{Refusal}
use Rattle.keel_directory.specs.Replays.{Replay, LogsAre}
use Rattle.keel_directory.specs.Reading.{StoreRead, new, held, refused, IsReading, all_rows}
use Rattle.keel_open.specs.declared.base.BaseFound.{BaseFound}
use Rattle.keel_open.specs.Bases.{IsNewStore, HoldsBase}
use Rattle.keel_open.specs.Listed.{IsDirectory}

-- the directory is read as a store of this manifest, version and replay, whose point has the map of all rows
pub record IsStore (image : Named (List ℕ)) (number : ℕ) (found : BaseFound) (replay : Replay) : Type 0 where
  pub store : StoreRead
  pub manifest : store.manifest ≡ number
  pub version : store.version ≡ found.version
  pub replay_is : store.replay ≡ replay
  pub reads : (point : Point) → IsMapOf (all_rows store) point.values → point.seq ≡ replay.last → IsReading image (held store point)

abbrev pub ReadsWith : Named (List ℕ) → ℕ → BaseFound → Result Replay Refusal → Type 0
ReadsWith image number found (Ok replay) = IsStore image number found replay
ReadsWith image number found (Err refusal) = IsReading image (refused refusal)

-- Where a manifest and its tables are read, what the logs give is what the directory gives.
abbrev pub LogsComplete : Type 0
LogsComplete =
    (image : Named (List ℕ)) (number : ℕ) (found : BaseFound) (logs : Result Replay Refusal) → HoldsBase image number found → LogsAre image found.version.min_log found.version.last_seq logs
    → ReadsWith image number found logs

-- A new store is read as one.
abbrev pub NewIsNew : Type 0
NewIsNew = (image : Named (List ℕ)) (found : BaseFound) → IsNewStore image found → IsReading image new

-- On a device as calls and crashes leave it each name is one of the store, and stands once.
abbrev pub SoundIsDirectory : Type 0
SoundIsDirectory = (state : State) → IsOneToOne state → IsDirectory state
