use Rattle.keel_frag.proofs.Plainness.{fronts_are_plain}
use Rattle.keel_frag.proofs.laws.fronts_are_plain.Goals as goal

pub returns : goal.returns
returns c = fronts_are_plain
