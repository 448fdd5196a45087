use Rattle.keel_lines.proofs.Deliveries as laws
use Rattle.keel_lines.proofs.laws.are_first.Goals as goal

pub returns : goal.returns
returns c = laws.are_first
