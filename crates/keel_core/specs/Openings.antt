-- Opening a store: what is asked of the state, and what the store then shows.
use Rattle.std.specs.Prelude.{◌≡◌, ℕ, ◌+◌, ◌≤◌, Bool, true, false, List, [], ◌∷◌, length, Some, None, Ok}
use Rattle.keel_base.specs.declared.options.Options.{Options}
use Rattle.keel_directory.specs.declared.logs.Replayed.{Replayed}
use Rattle.keel_directory.specs.Reading.{Reading, IsReading, HasPoint}
use Rattle.keel_disk.specs.Plain.{image_read}
use Rattle.keel_disk.specs.Told.{Told}
use Rattle.keel_disk.specs.Seen.{Seen}
use Rattle.keel_handler.specs.Recovery.{fresh as fresh_handler}
use Rattle.keel_levels.specs.declared.live.LiveTable.{LiveTable}
use Rattle.keel_machine.specs.Opening.{Found, continues, ops_replayed}
use Rattle.keel_machine.specs.States.{State, joined_story, point_of}
use Rattle.keel_machine.specs.Turns.{Opening, Answers, after}
use Rattle.keel_manifest.specs.State.{named_at_opening}
use Rattle.keel_open.specs.declared.store.StoreFound.{StoreFound}
use Rattle.keel_open.specs.Listed.{IsDirectory}
use Rattle.keel_draft.specs.Drafts.{batch_rows}
use Rattle.keel_core.specs.Trails.{new_trail}
use Rattle.keel_core.specs.Views.{CoreView, FullSegment, StandsFor, ToStart, last_in}

-- The device tells its directory, whose files have names of the store, each once, and which reads as the point that the story
-- leads to with the first so many batches of its limbo.
pub record IsBorneOut (s : State) : Type 0 where
  pub joined : ℕ
  pub within : joined ≤ length s.story.limbo
  pub told : Told
  pub is_told : s.device.told ≡ Some told
  pub directory : IsDirectory told.state
  pub reading : Reading
  pub is_read : IsReading (image_read told.state) reading
  pub has : HasPoint reading (point_of (joined_story joined s.story))

-- so it is where the opening goes on with the story, and where it begins one nothing is asked
abbrev pub WhereGoesOn : Bool → State → Type 0
WhereGoesOn true s = IsBorneOut s
WhereGoesOn false s = Unit {0}

-- what an opening asks of the state
abbrev pub Expects : State → Type 0
Expects s = WhereGoesOn (continues s.mode s.footing) s

-- the replayed batches are one full segment, where there are any
abbrev pub replayed_full : ℕ → List Replayed → List ℕ → List FullSegment
replayed_full seq [] logs = []
replayed_full seq (batch ∷ batches) logs = record { rows = batch_rows (seq + 1) (ops_replayed (batch ∷ batches)); logs = logs } ∷ []

-- what a store shows that was just opened
abbrev pub fresh : Seen → Options → StoreFound → List LiveTable → CoreView
fresh device options found levels = record {
  device = device;
  options = options;
  boot = ToStart;
  boot_job = 0;
  trail = new_trail found.last_seq;
  immutable = replayed_full found.version.last_seq found.batches.items found.logs.items;
  rows = [];
  log = None;
  levels = levels;
  waiting = [];
  group = None;
  outcomes = [];
  last_ticket = 0;
  job = 0;
  flush = None;
  flush_job = 0;
  handler = fresh_handler options.paranoid options.auto options.attempts options.interval;
  next_file = found.next_file;
  manifest = named_at_opening found.manifest found.edits;
}

-- A store was opened: what it found has its cause, and it stands for the state behind.
pub record Opens (s : State) (options : Options) (core : CoreView) : Type 0 where
  pub found : Found
  pub answers : Answers s (Opening options (Ok found)) core.device
  pub stands : StandsFor core (after s (Opening options (Ok found)) core.device)
  pub last_is : found.store.last_seq ≡ last_in core
