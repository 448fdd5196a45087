-- The laws of a store whose boot hasn't cleared.
use Rattle.std.specs.Prelude.{◌≡◌, ℕ, ◌≤◌, List, [], length}
use Rattle.keel_directory.specs.TableFiles.{TableFile}
use Rattle.keel_disk.specs.Sound.{IsOneToOne}
use Rattle.keel_disk.specs.State.{State}
use Rattle.keel_machine.specs.States.{Story}
use Rattle.keel_recovery.specs.Booting.{IsBooting}
use Rattle.keel_recovery.specs.Standing.{Stands}

-- a story as a crash leaves it, or as a first opening begins it
pub record IsAfterCrash (story : Story) : Type 0 where
  pub none_in_limbo : story.limbo ≡ []
  pub all_stay : story.floor ≡ length story.log

-- its device stands for the story
abbrev pub BootingStands : Type 0
BootingStands =
    (bound : ℕ) (old : State) (levels : List TableFile) (story : Story) (next_file : ℕ) (state : State)
    → IsOneToOne state → story.floor ≤ length story.log → IsBooting bound old levels story next_file state → Stands state story
