use Rattle.keel_table.proofs.Spelled.{indexes_spelled}
use Rattle.keel_table.proofs.laws.indexes_are_spelled.Goals as goal

pub returns : goal.returns
returns c = indexes_spelled
