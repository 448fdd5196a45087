use Rattle.keel_recovery.proofs.Stands.{way_is_read}
use Rattle.keel_recovery.proofs.laws.way_is_read.Goals as goal

pub returns : goal.returns
returns c = way_is_read
