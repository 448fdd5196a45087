use Rattle.keel_open.proofs.Joining.{new_is_new}
use Rattle.keel_open.proofs.laws.new_is_new.Goals as goal

pub returns : goal.returns
returns c = new_is_new
