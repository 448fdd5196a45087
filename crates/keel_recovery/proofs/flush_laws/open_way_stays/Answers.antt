use Rattle.keel_recovery.proofs.FlushStays.{open_way_stays}
use Rattle.keel_recovery.proofs.flush_laws.open_way_stays.Goals as goal

pub returns : goal.returns
returns c = open_way_stays
