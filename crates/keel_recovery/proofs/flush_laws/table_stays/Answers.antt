use Rattle.keel_recovery.proofs.FlushStays.{table_stays}
use Rattle.keel_recovery.proofs.flush_laws.table_stays.Goals as goal

pub returns : goal.returns
returns c = table_stays
