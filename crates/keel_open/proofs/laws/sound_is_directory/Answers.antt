use Rattle.keel_open.proofs.Joining.{sound_is_directory}
use Rattle.keel_open.proofs.laws.sound_is_directory.Goals as goal

pub returns : goal.returns
returns c = sound_is_directory
