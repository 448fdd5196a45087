use Rattle.keel_table.proofs.Sizes as sizes
use Rattle.keel_table.proofs.laws.tables_are_small.Goals as goal

pub returns : goal.returns
returns c = sizes.tables_are_small
