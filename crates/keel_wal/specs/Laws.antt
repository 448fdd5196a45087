-- What holds of the definitions.
use Rattle.keel_disk.specs.Sound.{IsSound}
use Rattle.keel_disk.specs.Told.{Told}
use Rattle.keel_wal.specs.Replays.{IsOrderly}

-- A device as calls and crashes leave it has files with names of the store alone, and no name twice.
abbrev pub SoundIsOrderly : Type 0
SoundIsOrderly = (told : Told) → IsSound told.state → IsOrderly told
