use Rattle.keel_recovery.proofs.Stands.{way_reads}
use Rattle.keel_recovery.proofs.laws.way_reads.Goals as goal

pub returns : goal.returns
returns c = way_reads
