use Rattle.keel_levels.proofs.Saying as laws
use Rattle.keel_levels.proofs.laws.order_is_free.Goals as goal

pub returns : goal.returns
returns c = laws.order_is_free
