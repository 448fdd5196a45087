use Rattle.keel_directory.proofs.Those.{logs_those}
use Rattle.keel_directory.proofs.laws.logs_are_those.Goals as goal

pub returns : goal.returns
returns c = logs_those
