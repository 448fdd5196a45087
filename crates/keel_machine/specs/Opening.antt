-- Opening a store, and handing its device back.
use Rattle.std.specs.Prelude.{◌≡◌, ℕ, ◌≤◌, Bool, true, false, List, [], ◌∷◌, length, map, Option, None, Some, Result, Ok, Err}
use Rattle.keel_base.specs.Points.{Point}
use Rattle.keel_base.specs.declared.op.Op.{Op}
use Rattle.keel_base.specs.declared.options.Options.{Options}
use Rattle.keel_directory.specs.Reading.{Reading, IsReading, held, HasPoint}
use Rattle.keel_directory.specs.Replays.{run_on}
use Rattle.keel_directory.specs.TableFiles.{TableFile}
use Rattle.keel_directory.specs.declared.logs.Replayed.{Replayed}
use Rattle.keel_disk.specs.Plain.{image_read}
use Rattle.keel_disk.specs.Told.{Told, TellsListing}
use Rattle.keel_disk.specs.Seen.{IsQuiet, Seen}
use Rattle.keel_manifest.specs.State.{named_at_opening}
use Rattle.keel_open.specs.declared.refusal.OpenRefusal.{OpenRefusal}
use Rattle.keel_open.specs.declared.store.StoreFound.{StoreFound}
use Rattle.keel_open.specs.Listed.{IsDirectory}
use Rattle.keel_open.specs.NextFiles.{IsNextFile}
use Rattle.keel_open.specs.Refusals.{fault_in}
use Rattle.keel_open.specs.Stores.{StoreTells}
use Rattle.keel_version.specs.Tables.{AreLevels, IsWithin}
use Rattle.keel_machine.specs.States.{State, Story, Footing, Known, Mode, Booting, Shut, Leaving, Crashed, Left, Segment, Slot, entries_in, joined_story, new_story, no_batches, point_of}

-- What an opening finds: what the directory holds as a store, the point that it is read as, the files of its tables, and how
-- many of the story's batches in limbo are there, where a story goes on.
pub record Found : Type 0 where
  pub store : StoreFound
  pub point : Point
  pub levels : List TableFile
  pub joined : ℕ

-- whether an opening goes on with a story, or begins one
abbrev pub goes_on_from : Leaving → Footing → Bool
goes_on_from Crashed Known = true
goes_on_from Left Known = true
goes_on_from _ footing = false

abbrev pub continues : Mode → Footing → Bool
continues mode footing = goes_on_from mode.left footing

-- the point is the one that the story leads to with the first so many batches of its limbo
pub record GoesOn (story : Story) (joined : ℕ) (point : Point) : Type 0 where
  pub within : joined ≤ length story.limbo
  pub point_is : point ≡ point_of (joined_story joined story)

-- a story goes on only so
abbrev pub GoesOnWith : Bool → Story → ℕ → Point → Type 0
GoesOnWith true story joined point = GoesOn story joined point
GoesOnWith false story joined point = Unit {0}

-- the tables of a reading
abbrev pub tables_in : Reading → List TableFile
tables_in (held found point) = found.tables
tables_in _ = []

-- the reading of a directory that is told has that point and those tables
pub record IsFoundIn (told : Told) (found : Found) : Type 0 where
  pub reading : Reading
  pub is_read : IsReading (image_read told.state) reading
  pub has : HasPoint reading found.point
  pub levels : found.levels ≡ tables_in reading

abbrev pub IsFoundBy : Option Told → Found → Type 0
IsFoundBy None found = Unit {0}
IsFoundBy (Some told) found = IsDirectory told.state → IsFoundIn told found

-- what is found is one whole, and is what the story says that goes on
pub record Finds (s : State) (found : Found) : Type 0 where
  pub seq : found.point.seq ≡ found.store.last_seq
  pub tables : entries_in found.levels ≡ found.store.version.tables
  pub order : AreLevels found.store.version.tables
  pub within : IsWithin found.store.version
  pub runs_on : run_on found.store.version.last_seq found.store.batches.items ≡ Ok found.store.last_seq
  pub next : IsNextFile found.store.listing found.store.version.next_file found.store.next_file
  pub listing : TellsListing s.device.told found.store.listing
  pub read : IsFoundBy s.device.told found
  pub goes_on : GoesOnWith (continues s.mode s.footing) s.story found.joined found.point

abbrev pub FindsIn : State → Result Found OpenRefusal → Type 0
FindsIn s (Ok found) = Finds s found
FindsIn s (Err refused) = Unit {0}

-- what the calls of the device gave of it
abbrev pub store_in : Result Found OpenRefusal → Result StoreFound OpenRefusal
store_in (Ok found) = Ok found.store
store_in (Err refused) = Err refused

-- What an opening finds, or why there is nothing to find, each with its cause. It makes no changing call.
pub record OpenAnswers (s : State) (answer : Result Found OpenRefusal) (device : Seen) : Type 0 where
  pub cause : StoreTells s.device.told (store_in answer)
  pub finds : FindsIn s answer
  pub quiet : IsQuiet s.device (fault_in (store_in answer)) device

-- the batches in limbo that were found are published; what must not be lost stays as it was
abbrev pub story_opened : Bool → ℕ → Point → Story → Story
story_opened true joined point story = joined_story joined story
story_opened false joined point story = new_story point

abbrev pub ops_replayed : List Replayed → List (List Op)
ops_replayed batches = map (λ (batch : Replayed). batch.ops) batches

-- the replayed batches are one segment, where there are any
abbrev pub replayed_segments : List (List Op) → List ℕ → List Segment
replayed_segments [] logs = []
replayed_segments (ops ∷ batches) logs = record { batches = ops ∷ batches; logs = logs } ∷ []

-- no job of a slot was started yet
abbrev pub idle_slot : {J : Type 0} → Slot J
idle_slot = record { number = 0; running = None }

-- a store is open whose boot hasn't begun
abbrev pub opened : Options → Found → State → State
opened options found s = record {
  device = s.device;
  footing = s.footing;
  options = options;
  mode = record s.mode { phase = Booting };
  story = story_opened (continues s.mode s.footing) found.joined found.point s.story;
  segments = record { immutable = replayed_segments (ops_replayed found.store.batches.items) found.store.logs.items; active = no_batches };
  levels = found.levels;
  writing = record { waiting = []; outcomes = []; last_ticket = 0 };
  failing = record { failures = [] };
  jobs = record { write = idle_slot; flush = idle_slot; resume = idle_slot; started = false };
  numbers = record {
    next_file = found.store.next_file;
    manifest = named_at_opening found.store.manifest found.store.edits;
    in_tables = found.store.version.last_seq;
  };
}

abbrev pub open_after : State → Options → Result Found OpenRefusal → State
open_after s options (Ok found) = opened options found s
open_after s options (Err refused) = s

-- the device is handed back
abbrev pub finished : State → State
finished s = record s { mode = record { phase = Shut; left = Left } }
