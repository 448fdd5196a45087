-- A crash of the device, and what it leaves of the story.
use Rattle.std.specs.Prelude.{◌≡◌, ℕ, ◌+◌, ◌≤◌, ◌||◌, Bool, true, false, List, length, Option, Some, None, Ok, if◌then◌else◌}
use Rattle.keel_base.specs.Counts.{raised}
use Rattle.keel_base.specs.declared.memory.OutOfMemory.{OutOfMemory}
use Rattle.keel_disk.specs.declared.rule.Arranged.TheVariants as arranged
use Rattle.keel_disk.specs.declared.rule.Pick.{Pick}
use Rattle.keel_disk.specs.Directory.{Named}
use Rattle.keel_disk.specs.Image.{restarted}
use Rattle.keel_disk.specs.Plain.{PlainImage, image_read}
use Rattle.keel_disk.specs.Told.{Told, Crashes, CrashedTo}
use Rattle.keel_directory.specs.Standing.{ReadsAs}
use Rattle.keel_disk.specs.Seen.{Seen, IsArranged}
use Rattle.keel_machine.specs.States.{State, Story, Footing, Known, Unknown, Mode, Shut, Nothing, Crashed, is_open, is_left, cut_story, point_of}

-- a store is open, or its device was left so that the story is known
abbrev pub has_story : Mode → Bool
has_story mode = is_open mode.phase || is_left mode.left

-- the device is an image of what it was, in which no fragment is good by chance
pub record LeavesPlain (before after : Told) : Type 0 where
  pub image : Named (List ℕ)
  pub plain : PlainImage before.state image
  pub leaves : after.state ≡ restarted image
  pub last : after.last ≡ before.last
  pub forged : after.forged ≡ before.forged

-- it is an image in which one is, and that was counted
pub record LeavesForged (before after : Told) : Type 0 where
  pub crashed : CrashedTo before after
  pub counted : after.forged ≡ raised before.forged

-- The directory reads as what so many batches of the story lead to, and none that must not be lost is missing.
pub record IsPrefix (count : ℕ) (story : Story) (image : Named (List ℕ)) : Type 0 where
  pub not_lost : story.floor ≤ count
  pub within : count ≤ length story.log + length story.limbo
  pub reads : ReadsAs image (point_of (cut_story count story))

-- where a store is or was open, a crash leaves a first part of its story
abbrev pub LeavesOf : Bool → ℕ → Story → Named (List ℕ) → Type 0
LeavesOf false count story image = Unit {0}
LeavesOf true count story image = IsPrefix count story image

-- What a crash leaves. Of a known device: so many batches of the story, unless the image is forged.
abbrev pub Leaves : Footing → Mode → Story → Option Told → Option ℕ → Option Told → Type 0
Leaves Known mode story (Some before) (Some count) (Some after) =
    LeavesPlain before after × LeavesOf (has_story mode) count story (image_read after.state)
Leaves Known mode story (Some before) None (Some after) = LeavesForged before after
Leaves Unknown mode story before None after = Crashes {E = OutOfMemory} before (Ok true) after
Leaves _ mode story _ _ _ = ⊥

-- A crash is had on a simulated device alone, and is the one that was handed in.
pub record CrashAnswers (s : State) (pick : Pick) (kept : Option ℕ) (device : Seen) : Type 0 where
  pub simulated : s.device.simulated ≡ true
  pub leaves : Leaves s.footing s.mode s.story s.device.told kept device.told
  pub rest : IsArranged {E = OutOfMemory} (arranged.Crashed pick) s.device (Ok true) device

abbrev pub mode_crashed : Mode → Mode
mode_crashed mode = record { phase = Shut; left = if has_story mode then Crashed else Nothing }

-- an open store is dropped, and the story is what is left of it; or nothing is known any more
abbrev pub crash_after : State → Option ℕ → State
crash_after s (Some count) = record s { mode = mode_crashed s.mode; story = cut_story count s.story }
crash_after s None = record s { mode = record { phase = Shut; left = Nothing }; footing = Unknown }
