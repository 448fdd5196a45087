use Rattle.keel_lines.proofs.Deliveries as laws
use Rattle.keel_lines.proofs.laws.ends_lines.Goals as goal

pub returns : goal.returns
returns c = laws.ends_lines
