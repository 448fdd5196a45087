use Rattle.keel_open.proofs.Joining.{logs_complete}
use Rattle.keel_open.proofs.laws.logs_complete.Goals as goal

pub returns : goal.returns
returns c = logs_complete
