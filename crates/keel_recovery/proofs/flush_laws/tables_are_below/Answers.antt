use Rattle.keel_recovery.proofs.FlushTables.{tables_are_below}
use Rattle.keel_recovery.proofs.flush_laws.tables_are_below.Goals as goal

pub returns : goal.returns
returns c = tables_are_below
