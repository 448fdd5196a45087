use Rattle.keel_levels.proofs.Saying as laws
use Rattle.keel_levels.proofs.laws.batches_fold.Goals as goal

pub returns : goal.returns
returns c = laws.batches_fold
