-- The laws of stories and devices.
use Rattle.std.specs.Prelude.{◌≡◌, ℕ, List, length, Some}
use Rattle.keel_disk.specs.declared.change.Change.{Change}
use Rattle.keel_disk.specs.Directory.{Named}
use Rattle.keel_disk.specs.Image.{AreImages, restarted}
use Rattle.keel_disk.specs.Plain.{ArePlain, PlainImage, image_read}
use Rattle.keel_disk.specs.Sound.{IsOneToOne, IsSound, IsAtRest}
use Rattle.keel_disk.specs.State.{State, settled_through}
use Rattle.keel_disk.specs.Steady.{AllRead}
use Rattle.keel_disk.specs.Step.{done}
use Rattle.keel_directory.specs.TableFiles.{TableFile}
use Rattle.keel_machine.specs.States.{Story}
use Rattle.keel_recovery.specs.Chains.{Chained}
use Rattle.keel_recovery.specs.Keeping.{HoldStory, Keeps}
use Rattle.keel_recovery.specs.Roots.{Way, IsWay, Goes, AreRoots}
use Rattle.keel_recovery.specs.Standing.{ReadsIn, Stands}
use Rattle.keel_recovery.specs.Crashing.{LeavesPrefix, InsideCall}

-- the image is a plain one with the first so many operations done
abbrev pub PlainBehind : ℕ → State → Named (List ℕ) → Type 0
PlainBehind count state image =
    AreImages (settled_through count state).files (settled_through count state).firm image
    × ArePlain (settled_through count state).files (settled_through count state).firm image

-- Where CURRENT names a way behind so many operations, each of whose versions the logs go on from, a plain image reads as a
-- prefix of the story with all that must not be lost.
abbrev pub WayReads : Type 0
WayReads =
    (way : Way) (place next_file count : ℕ) (logs : List Chained) (story : Story) (state : State) (image : Named (List ℕ))
    → IsOneToOne state → IsWay way state → Goes count way state → AreRoots way logs story next_file state → HoldStory place logs story state
    → PlainBehind count state image → ReadsIn story story.floor image

-- So does the directory as it is read, where CURRENT names the way as is read, with all that is published.
abbrev pub WayIsRead : Type 0
WayIsRead =
    (way : Way) (place next_file : ℕ) (logs : List Chained) (story : Story) (state : State)
    → IsOneToOne state → AllRead state → IsWay way state → Goes (length state.waiting) way state → AreRoots way logs story next_file state
    → HoldStory place logs story state → ReadsIn story (length story.log) (image_read state)

-- a device stands for the story that it keeps
abbrev pub KeepingStands : Type 0
KeepingStands =
    (ways : List Way) (place : ℕ) (logs : List Chained) (levels : List TableFile) (story : Story) (next_file : ℕ) (state : State)
    → IsOneToOne state → Keeps ways place logs levels story next_file state → Stands state story

-- A crash leaves a device at rest that stands for a prefix of the story, with all that must not be lost.
abbrev pub CrashLeavesPrefix : Type 0
CrashLeavesPrefix =
    (state : State) (story : Story) (image : Named (List ℕ))
    → IsSound state → Stands state story → PlainImage state image → LeavesPrefix image story

-- So does one inside a call, of the story whose prefixes have the reading.
abbrev pub ReadingLeavesPrefix : Type 0
ReadingLeavesPrefix =
    (story : Story) (image : Named (List ℕ))
    → IsAtRest (restarted image) → ReadsIn story story.floor image → LeavesPrefix image story

-- A crash inside a call leaves a prefix of the story that the device stands for before it, or of the one that it stands
-- for behind an Ok.
abbrev pub CallLeavesPrefix : Type 0
CallLeavesPrefix =
    (state : State) (change : Change) (before behind : Story)
    → Stands state before → ((after : State) → done change state ≡ Some after → Stands after behind) → InsideCall state change before behind
