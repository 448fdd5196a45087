use Rattle.keel_handler.proofs.Alone.{found}
use Rattle.keel_handler.proofs.laws.standing_is_found.Goals as goal

pub returns : goal.returns
returns c = found
