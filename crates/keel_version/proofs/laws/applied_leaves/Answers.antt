use Rattle.keel_version.proofs.Members.{applied_leaves}
use Rattle.keel_version.proofs.laws.applied_leaves.Goals as goal

pub returns : goal.returns
returns c = applied_leaves
