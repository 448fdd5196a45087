use Rattle.keel_levels.proofs.Valuing as laws
use Rattle.keel_levels.proofs.laws.ranges_are_of_maps.Goals as goal

pub returns : goal.returns
returns c = laws.ranges_are_of_maps
