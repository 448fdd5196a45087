-- What it is that a device stands for a story.
use Rattle.std.specs.Prelude.{ℕ, List}
use Rattle.keel_base.specs.Points.{Point}
use Rattle.keel_base.specs.Prefixes as prefixes
use Rattle.keel_directory.specs.Standing.{ReadsAs, StandsRead}
use Rattle.keel_disk.specs.Directory.{Named}
use Rattle.keel_disk.specs.Standing as device
use Rattle.keel_disk.specs.State.{State}
use Rattle.keel_machine.specs.States.{Story}

-- the point is one that a crash may leave of the story, behind at least so many batches
abbrev pub InPrefixes : Story → ℕ → Point → Type 0
InPrefixes story least point = prefixes.InPrefixes story.start story.log story.limbo least point

-- the directory has a sound reading, which gives such a point
abbrev pub ReadsIn : Story → ℕ → Named (List ℕ) → Type 0
ReadsIn story least image = device.ReadsIn ReadsAs story.start story.log story.limbo least image

-- the device stands for the story
abbrev pub Stands : State → Story → Type 0
Stands state story = StandsRead state story.start story.log story.limbo story.floor
