-- What a store whose boot has cleared keeps of its device, so that each crash leaves a prefix of its story.
use Rattle.std.specs.Prelude.{◌≡◌, ℕ, ◌<◌, ◌≤◌, List, ◌++◌, length, drop, Some}
use Rattle.keel_base.specs.declared.file_name.FileName.{FileName}
use Rattle.keel_batch.specs.Batches.{AreBatches}
use Rattle.keel_directory.specs.TableFiles.{TableFile}
use Rattle.keel_disk.specs.State.{State}
use Rattle.keel_disk.specs.Steady.{AllRead, file_behind}
use Rattle.keel_machine.specs.States.{Story, entries_in}
use Rattle.keel_open.specs.NextFiles.{number_in}
use Rattle.keel_recovery.specs.Chains.{Chained, batches_of, FollowOn, AreChained}
use Rattle.keel_recovery.specs.Roots.{Way, AllGo, AllRoots, Say, AreFirmTables, point_at}

-- These logs hold the story's batches from a place on, each within its limits.
pub record HoldStory (place : ℕ) (logs : List Chained) (story : Story) (state : State) : Type 0 where
  pub in_turn : FollowOn place (point_at place story).seq logs
  pub batches_are : drop place (story.log ++ story.limbo) ≡ batches_of logs
  pub limits : AreBatches (point_at place story).seq (batches_of logs)
  pub place_within : place ≤ length story.log
  pub floor_within : story.floor ≤ length story.log
  pub chained : AreChained story.floor (length story.log) logs state

-- each name of each directory is numbered below the next file
abbrev pub AreDrawn : ℕ → State → Type 0
AreDrawn next_file state = (count file : ℕ) (name : FileName) → file_behind count name state ≡ Some file → number_in name < next_file

-- The tables in use are firm, and say what the story says at a place.
pub record AreLive (place : ℕ) (levels : List TableFile) (story : Story) (state : State) : Type 0 where
  pub firm : AreFirmTables state (entries_in levels) levels
  pub say : Say (point_at place story).seq levels (point_at place story)

-- CURRENT names one of these ways, each of which leads to a place of the story that the logs go on from; and reads give
-- what was meant.
pub record Keeps (ways : List Way) (place : ℕ) (logs : List Chained) (levels : List TableFile) (story : Story) (next_file : ℕ) (state : State) : Type 0 where
  pub go : AllGo ways state
  pub roots : AllRoots ways logs story next_file state
  pub live : AreLive place levels story state
  pub stored : HoldStory place logs story state
  pub drawn : AreDrawn next_file state
  pub read : AllRead state
