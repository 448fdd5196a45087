use Rattle.keel_recovery.proofs.FlushEnding.{flush_ends}
use Rattle.keel_recovery.proofs.flush_laws.flush_ends.Goals as goal

pub returns : goal.returns
returns c = flush_ends
