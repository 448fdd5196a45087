use Rattle.keel_recovery.proofs.FlushTables.{table_name_keeps}
use Rattle.keel_recovery.proofs.flush_laws.table_name_keeps.Goals as goal

pub returns : goal.returns
returns c = table_name_keeps
