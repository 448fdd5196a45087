use Rattle.keel_version.proofs.Newest.{looks_in_each}
use Rattle.keel_version.proofs.laws.looks_in_each.Goals as goal

pub returns : goal.returns
returns c = looks_in_each
