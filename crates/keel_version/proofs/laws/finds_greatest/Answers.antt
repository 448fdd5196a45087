use Rattle.keel_version.proofs.Newest.{finds_greatest}
use Rattle.keel_version.proofs.laws.finds_greatest.Goals as goal

pub returns : goal.returns
returns c = finds_greatest
