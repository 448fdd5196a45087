-- Laws of the device model.
use Rattle.std.specs.Prelude.{◌≡◌, ◌⊎◌, ℕ, List, Result, IsSomeAnd}
use Rattle.keel_disk.specs.declared.change.Change.{Change}
use Rattle.keel_disk.specs.declared.error.DiskError.{DiskError}
use Rattle.keel_disk.specs.Directory.{Named}
use Rattle.keel_disk.specs.State.{State}
use Rattle.keel_disk.specs.Step.{done, DiskStep}
use Rattle.keel_disk.specs.Image.{Image, Mid, restarted}
use Rattle.keel_disk.specs.Plain.{PlainImage, PlainMid, image_read}
use Rattle.keel_disk.specs.Sound.{IsSound, IsAtRest, IsLawful}

-- a crash inside a call leaves an image of the device before it, or of the device that an Ok leaves
abbrev pub CrashInsideCall : Type 0
CrashInsideCall =
    (state : State) (change : Change) (image : Named (List ℕ)) → Mid state change image
    → Image state image ⊎ IsSomeAnd (done change state) (λ after. Image after image)

-- and a plain image of one of them, where it is plain
abbrev pub PlainCrashInsideCall : Type 0
PlainCrashInsideCall =
    (state : State) (change : Change) (image : Named (List ℕ)) → PlainMid state change image
    → PlainImage state image ⊎ IsSomeAnd (done change state) (λ after. PlainImage after image)

-- every answer of a call leaves a sound device sound
abbrev pub CallsKeepSound : Type 0
CallsKeepSound =
    (state : State) (change : Change) (answer : Result (Unit {0}) DiskError) (after : State)
    → IsSound state → IsLawful change → DiskStep state change answer after → IsSound after

-- every crash of a sound device leaves one at rest
abbrev pub CrashesComeToRest : Type 0
CrashesComeToRest = (state : State) (image : Named (List ℕ)) → IsSound state → Image state image → IsAtRest (restarted image)

-- of a device at rest a crash leaves what reads give, and nothing of it is good by chance
abbrev pub OneImageAtRest : Type 0
OneImageAtRest =
    (state : State) → IsAtRest state
    → PlainImage state (image_read state) × ((image : Named (List ℕ)) → Image state image → image ≡ image_read state)
