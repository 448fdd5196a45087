use Rattle.keel_recovery.proofs.Bearing.{covered_bears}
use Rattle.keel_recovery.proofs.laws.covered_bears.Goals as goal

pub returns : goal.returns
returns c = covered_bears
