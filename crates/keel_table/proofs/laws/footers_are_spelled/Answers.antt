use Rattle.keel_table.proofs.Spelled.{footers_spelled}
use Rattle.keel_table.proofs.laws.footers_are_spelled.Goals as goal

pub returns : goal.returns
returns c = footers_spelled
