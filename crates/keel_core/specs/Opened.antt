-- The parts of a store that is opened.
use Rattle.std.specs.Prelude.{◌≡◌, ◌≤◌, ◌^◌, List, [], length, None}
use Rattle.keel_base.specs.declared.options.Options.{Options}
use Rattle.keel_directory.specs.TableFiles.{TableFile}
use Rattle.keel_disk.specs.Seen.{Seen}
use Rattle.keel_handler.specs.Recovery.{fresh as fresh_handler}
use Rattle.keel_levels.specs.Live.{AreOpened, entries_of, tables_of}
use Rattle.keel_manifest.specs.State.{named_at_opening}
use Rattle.keel_open.specs.declared.store.StoreFound.{StoreFound}
use Rattle.keel_version.specs.Tables.{AreLevels, IsWithin}
use Rattle.keel_core.specs.Boots.{levels_in}
use Rattle.keel_core.specs.declared.opening.Parts.{Parts}
use Rattle.keel_core.specs.Openings.{replayed_full}
use Rattle.keel_core.specs.Segments.{segments_shown}
use Rattle.keel_core.specs.Trails.{new_trail}
use Rattle.keel_core.specs.Views.{CoreView, ToStart}

-- the parts are made of what was found
pub record ArePartsOf (found : StoreFound) (parts : Parts) : Type 0 where
  pub tables : tables_of (levels_in parts.tables) ≡ found.version.tables
  pub opened : (files : List TableFile) → entries_of files ≡ found.version.tables → AreOpened (levels_in parts.tables) files
  pub segments : segments_shown parts.segments.items ≡ replayed_full found.version.last_seq found.batches.items found.logs.items
  pub few : length parts.segments.items ≤ 1
  pub manifest : parts.manifest ≡ named_at_opening found.manifest found.edits
  pub last_seq : parts.last_seq ≡ found.last_seq
  pub within : parts.last_seq ≤ 2 ^ 56
  pub next_file : parts.next_file ≡ found.next_file
  pub order : AreLevels found.version.tables
  pub bounds : IsWithin found.version

-- the store has these parts, and no batch was taken in
pub record IsCoreOf (device : Seen) (options : Options) (parts : Parts) (core : CoreView) : Type 0 where
  pub core_is : core ≡ record {
    device = device;
    options = options;
    boot = ToStart;
    boot_job = 0;
    trail = new_trail parts.last_seq;
    immutable = segments_shown parts.segments.items;
    rows = [];
    log = None;
    levels = levels_in parts.tables;
    waiting = [];
    group = None;
    outcomes = [];
    last_ticket = 0;
    job = 0;
    flush = None;
    flush_job = 0;
    handler = fresh_handler options.paranoid options.auto options.attempts options.interval;
    next_file = parts.next_file;
    manifest = parts.manifest;
  }
