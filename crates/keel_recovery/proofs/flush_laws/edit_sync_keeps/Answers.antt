use Rattle.keel_recovery.proofs.FlushEditing.{edit_sync_keeps}
use Rattle.keel_recovery.proofs.flush_laws.edit_sync_keeps.Goals as goal

pub returns : goal.returns
returns c = edit_sync_keeps
