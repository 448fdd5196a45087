-- What the device stands for that a run hands back.
use Rattle.std.specs.Prelude.{◌≡◌, true, ◌<◌, ◌-◌, ◌^◌, Option}
use Rattle.keel_disk.specs.Told.{Told}
use Rattle.keel_machine.specs.Crash.{has_story}
use Rattle.keel_machine.specs.States.{State, Footing, Known}
use Rattle.keel_machine.specs.Turns.{Event, Writing, Resuming, Flushing}
use Rattle.keel_recovery.specs.Machine.{StandsIn, StepIsSafe, ResumeIsSafe, FlushIsSafe, forged_of}

-- no crash of the run left a forged image; a count at its end would say nothing
pub record NoneForged (before after : Option Told) : Type 0 where
  pub counts : forged_of before < 2 ^ 64 - 1
  pub same : forged_of after ≡ forged_of before

-- A run on a known device on which no crash left a forged image ends on a known device. Where there is a story, it
-- stands for the story: after any further crash, an opening finds the first of the logged writes, with every
-- acknowledged synced one.
pub record Recovers (footing : Footing) (handed_in : Option Told) (last : State) : Type 0 where
  pub known : footing ≡ Known → NoneForged handed_in last.device.told → last.footing ≡ Known
  pub stands : last.footing ≡ Known → has_story last.mode ≡ true → StandsIn last.device.told last.story

-- A crash inside the call of a write step, of a resume step or of a flush step leaves the first of the logged writes.
abbrev pub TurnIsSafe : State → Event → State → Type 0
TurnIsSafe s (Writing held made) next = StepIsSafe s made next
TurnIsSafe s (Resuming drafts held made) next = ResumeIsSafe s made next
TurnIsSafe s (Flushing draft held made) next = FlushIsSafe s made next
TurnIsSafe s event next = Unit {0}
