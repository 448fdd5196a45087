use Rattle.keel_merge.proofs.Having.{has_the_newest}
use Rattle.keel_merge.proofs.laws.has_the_newest.Goals as goal

pub returns : goal.returns
returns c = has_the_newest
