use Rattle.keel_lines.proofs.Deliveries as laws
use Rattle.keel_lines.proofs.laws.whole_taken.Goals as goal

pub returns : goal.returns
returns c = laws.whole_taken
