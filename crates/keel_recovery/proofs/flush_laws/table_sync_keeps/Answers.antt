use Rattle.keel_recovery.proofs.FlushTables.{table_sync_keeps}
use Rattle.keel_recovery.proofs.flush_laws.table_sync_keeps.Goals as goal

pub returns : goal.returns
returns c = table_sync_keeps
