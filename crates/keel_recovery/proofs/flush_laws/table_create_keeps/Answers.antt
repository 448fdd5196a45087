use Rattle.keel_recovery.proofs.FlushTables.{table_create_keeps}
use Rattle.keel_recovery.proofs.flush_laws.table_create_keeps.Goals as goal

pub returns : goal.returns
returns c = table_create_keeps
