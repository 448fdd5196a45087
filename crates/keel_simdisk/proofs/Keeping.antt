-- A device stays sound where a call is made, and where it isn't for want of memory.
use Rattle.std.proofs.Common.{◌≡◌, Result, Ok, Err, OnOk, OnErr, sym, subst, unwrap_or}
use Rattle.keel_disk.specs.declared.change.Change.{Change}
use Rattle.keel_disk.specs.State.{State}
use Rattle.keel_disk.specs.Step.{done}
use Rattle.keel_disk.specs.Sound.{IsSound, IsLawful}
use Rattle.keel_disk.proofs.SoundSteps.{sound-done, sound-or}

pub sound_on : {T E : Type 0} (result : Result T E) (before next after : State) → OnOk result (after ≡ next) → OnErr result (after ≡ before) → IsSound next → IsSound before → IsSound after
sound_on (Ok value) before next after ok err sound was = subst IsSound (sym ok) sound
sound_on (Err error) before next after ok err sound was = subst IsSound (sym err) was

pub sound_made : (change : Change) (state : State) → IsLawful change → IsSound state → IsSound (unwrap_or (done change state) state)
sound_made change state lawful sound = sound-or (done change state) state (sound-done change state lawful sound) sound
