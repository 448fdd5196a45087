use Rattle.keel_trash.proofs.Ticks.{end_unseen}
use Rattle.keel_trash.proofs.laws.end_is_unseen.Goals as goal

pub returns : goal.returns
returns c = end_unseen
