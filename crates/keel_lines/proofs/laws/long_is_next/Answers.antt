use Rattle.keel_lines.proofs.Deliveries as laws
use Rattle.keel_lines.proofs.laws.long_is_next.Goals as goal

pub returns : goal.returns
returns c = laws.long_is_next
