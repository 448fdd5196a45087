use Rattle.keel_recovery.proofs.FlushStays.{logs_stay}
use Rattle.keel_recovery.proofs.flush_laws.logs_stay.Goals as goal

pub returns : goal.returns
returns c = logs_stay
