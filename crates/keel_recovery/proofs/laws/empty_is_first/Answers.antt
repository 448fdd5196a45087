use Rattle.keel_recovery.proofs.Examples.{empty_is_first}
use Rattle.keel_recovery.proofs.laws.empty_is_first.Goals as goal

pub returns : goal.returns
returns c = empty_is_first
