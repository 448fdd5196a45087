use Rattle.keel_recovery.proofs.Framing.{create_keeps}
use Rattle.keel_recovery.proofs.laws.create_keeps.Goals as goal

pub returns : goal.returns
returns c = create_keeps
