use Rattle.keel_recovery.proofs.FlushTables.{table_append_keeps}
use Rattle.keel_recovery.proofs.flush_laws.table_append_keeps.Goals as goal

pub returns : goal.returns
returns c = table_append_keeps
