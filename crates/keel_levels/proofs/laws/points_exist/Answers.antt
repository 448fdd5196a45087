use Rattle.keel_levels.proofs.Saying as laws
use Rattle.keel_levels.proofs.laws.points_exist.Goals as goal

pub returns : goal.returns
returns c = laws.points_exist
