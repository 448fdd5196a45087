use Rattle.keel_recovery.proofs.Covered.{starts_covered}
use Rattle.keel_recovery.proofs.laws.starts_covered.Goals as goal

pub returns : goal.returns
returns c = starts_covered
