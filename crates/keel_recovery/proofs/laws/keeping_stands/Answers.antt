use Rattle.keel_recovery.proofs.Stands.{keeping_stands}
use Rattle.keel_recovery.proofs.laws.keeping_stands.Goals as goal

pub returns : goal.returns
returns c = keeping_stands
