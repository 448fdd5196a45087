use Rattle.keel_edit.proofs.Fitting.{one_spelling}
use Rattle.keel_edit.proofs.laws.one_spelling.Goals as goal

pub returns : goal.returns
returns c = one_spelling
