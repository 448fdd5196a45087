use Rattle.keel_directory.proofs.Settled.{settled_stands}
use Rattle.keel_directory.proofs.laws.settled_stands.Goals as goal

pub returns : goal.returns
returns c = settled_stands
