use Rattle.keel_table.proofs.Sizes as sizes
use Rattle.keel_table.proofs.laws.files_are_small.Goals as goal

pub returns : goal.returns
returns c = sizes.files_are_small
