-- What a store that is closed, by a crash or without one, leaves of its device, so that a later opening can boot from it.
use Rattle.std.specs.Prelude.{◌≤◌, length}
use Rattle.keel_disk.specs.Sound.{IsOneToOne}
use Rattle.keel_disk.specs.State.{State}
use Rattle.keel_disk.specs.Steady.{AllRead, CutsExist}
use Rattle.keel_machine.specs.States.{Story}
use Rattle.keel_recovery.specs.Booting.{NoCuts, ReadsSteady}
use Rattle.keel_recovery.specs.Readings.{AreListed, ReadsWithin}
use Rattle.keel_recovery.specs.Standing.{Stands}

-- The device of a store that was left stands for the story. It may have operations waiting and files that aren't firm, and batches
-- may be in limbo. Its tables are there whatever a crash does, and the names that it shows are numbered as high as any.
pub record IsLeft (state : State) (story : Story) : Type 0 where
  pub one_to_one : IsOneToOne state
  pub cuts : CutsExist state
  pub uncut : NoCuts state
  pub read : AllRead state
  pub floor_within : story.floor ≤ length story.log
  pub stands : Stands state story
  pub listed : AreListed state
  pub within : ReadsWithin state
  pub steady : ReadsSteady (length state.files) state state
