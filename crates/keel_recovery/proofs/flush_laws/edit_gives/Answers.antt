use Rattle.keel_recovery.proofs.FlushGiving.{edit_gives}
use Rattle.keel_recovery.proofs.flush_laws.edit_gives.Goals as goal

pub returns : goal.returns
returns c = edit_gives
