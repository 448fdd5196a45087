use Rattle.keel_lines.proofs.Deliveries as laws
use Rattle.keel_lines.proofs.laws.adds_line.Goals as goal

pub returns : goal.returns
returns c = laws.adds_line
