use Rattle.keel_directory.proofs.Those.{least_least}
use Rattle.keel_directory.proofs.laws.least_is_least.Goals as goal

pub returns : goal.returns
returns c = least_least
