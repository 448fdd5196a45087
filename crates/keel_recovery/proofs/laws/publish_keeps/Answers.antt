use Rattle.keel_recovery.proofs.Publishing.{publish_keeps}
use Rattle.keel_recovery.proofs.laws.publish_keeps.Goals as goal

pub returns : goal.returns
returns c = publish_keeps
