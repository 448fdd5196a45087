use Rattle.keel_directory.proofs.Needed.{unneeded}
use Rattle.keel_directory.proofs.laws.unneeded_files.Goals as goal

pub returns : goal.returns
returns c = unneeded
