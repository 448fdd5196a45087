use Rattle.keel_merge.proofs.Unique.{one_merge}
use Rattle.keel_merge.proofs.laws.one_merge.Goals as goal

pub returns : goal.returns
returns c = one_merge
