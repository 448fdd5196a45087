use Rattle.keel_directory.proofs.Those.{first_first}
use Rattle.keel_directory.proofs.laws.first_is_first.Goals as goal

pub returns : goal.returns
returns c = first_first
