use Rattle.keel_recovery.proofs.Covered.{covered_stands}
use Rattle.keel_recovery.proofs.laws.covered_stands.Goals as goal

pub returns : goal.returns
returns c = covered_stands
