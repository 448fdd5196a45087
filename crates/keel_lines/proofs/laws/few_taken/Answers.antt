use Rattle.keel_lines.proofs.Deliveries as laws
use Rattle.keel_lines.proofs.laws.few_taken.Goals as goal

pub returns : goal.returns
returns c = laws.few_taken
