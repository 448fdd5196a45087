use Rattle.keel_table.proofs.Sizes as sizes
use Rattle.keel_table.proofs.laws.one_row_size.Goals as goal

pub returns : goal.returns
returns c = sizes.one_row_size
