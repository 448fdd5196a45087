use Rattle.keel_table.proofs.Spelled.{blocks_spelled}
use Rattle.keel_table.proofs.laws.blocks_are_spelled.Goals as goal

pub returns : goal.returns
returns c = blocks_spelled
