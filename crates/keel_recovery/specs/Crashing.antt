-- What a crash leaves of a story.
use Rattle.std.specs.Prelude.{◌⊎◌, ℕ, ◌+◌, ◌≤◌, List, length}
use Rattle.keel_disk.specs.declared.change.Change.{Change}
use Rattle.keel_disk.specs.Directory.{Named}
use Rattle.keel_disk.specs.State.{State}
use Rattle.keel_disk.specs.Image.{restarted}
use Rattle.keel_disk.specs.Plain.{PlainMid}
use Rattle.keel_disk.specs.Sound.{IsAtRest}
use Rattle.keel_machine.specs.States.{Story, cut_story}
use Rattle.keel_recovery.specs.BootLaws.{IsAfterCrash}
use Rattle.keel_recovery.specs.Standing.{ReadsIn, Stands}

-- What a crash leaves is a device at rest that stands for so many batches of the story, with all that must not be lost.
pub record LeavesPrefix (image : Named (List ℕ)) (story : Story) : Type 0 where
  pub count : ℕ
  pub not_lost : story.floor ≤ count
  pub within : count ≤ length story.log + length story.limbo
  pub at_rest : IsAtRest (restarted image)
  pub after_crash : IsAfterCrash (cut_story count story)
  pub stands : Stands (restarted image) (cut_story count story)

-- every plain image inside the call has a reading among the prefixes of the story before it or of the one behind its Ok
abbrev pub InsideCall : State → Change → Story → Story → Type 0
InsideCall state change before behind =
    (image : Named (List ℕ)) → PlainMid state change image → ReadsIn before before.floor image ⊎ ReadsIn behind behind.floor image
