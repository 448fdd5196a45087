use Rattle.keel_recovery.proofs.Opened.{opening_boots}
use Rattle.keel_recovery.proofs.laws.opening_boots.Goals as goal

pub returns : goal.returns
returns c = opening_boots
