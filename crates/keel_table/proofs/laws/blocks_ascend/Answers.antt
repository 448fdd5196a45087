use Rattle.keel_table.proofs.Joined as joined
use Rattle.keel_table.proofs.laws.blocks_ascend.Goals as goal

pub returns : goal.returns
returns c = joined.blocks_ascend
