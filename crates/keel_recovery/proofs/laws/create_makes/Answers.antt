use Rattle.keel_recovery.proofs.Growing.{create_makes}
use Rattle.keel_recovery.proofs.laws.create_makes.Goals as goal

pub returns : goal.returns
returns c = create_makes
