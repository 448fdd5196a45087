use Rattle.keel_levels.proofs.Saying as laws
use Rattle.keel_levels.proofs.laws.newest_splits.Goals as goal

pub returns : goal.returns
returns c = laws.newest_splits
