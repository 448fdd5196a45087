use Rattle.keel_disk.proofs.Settling.{settled_twice}
use Rattle.keel_disk.proofs.laws.settled_twice.Goals as goal

pub returns : goal.returns
returns c = settled_twice
