use Rattle.keel_recovery.proofs.SafeFlushes.{flushes_are_safe}
use Rattle.keel_recovery.proofs.laws.flushes_are_safe.Goals as goal

pub returns : goal.returns
returns c = flushes_are_safe
