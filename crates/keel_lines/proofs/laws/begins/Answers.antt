use Rattle.keel_lines.proofs.Deliveries as laws
use Rattle.keel_lines.proofs.laws.begins.Goals as goal

pub returns : goal.returns
returns c = laws.begins
