use Rattle.keel_disk.proofs.SoundSteps.{sound-step}
use Rattle.keel_disk.proofs.laws.calls_keep_sound.Goals as goal

pub returns : goal.returns
returns c = λ state change answer after sound lawful step. sound-step answer change state after sound lawful step
