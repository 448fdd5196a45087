use Rattle.keel_handler.proofs.Alone.{has_one}
use Rattle.keel_handler.proofs.laws.one_standing.Goals as goal

pub returns : goal.returns
returns c = has_one
