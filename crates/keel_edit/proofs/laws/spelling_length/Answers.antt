use Rattle.keel_edit.proofs.Lengths.{spelling_length}
use Rattle.keel_edit.proofs.laws.spelling_length.Goals as goal

pub returns : goal.returns
returns c = spelling_length
