use Rattle.keel_recovery.proofs.FlushEditing.{edit_append_keeps}
use Rattle.keel_recovery.proofs.flush_laws.edit_append_keeps.Goals as goal

pub returns : goal.returns
returns c = edit_append_keeps
