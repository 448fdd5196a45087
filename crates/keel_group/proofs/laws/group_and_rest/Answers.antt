use Rattle.keel_group.proofs.Dividing.{all_of}
use Rattle.keel_group.proofs.laws.group_and_rest.Goals as goal

pub returns : goal.returns
returns c = all_of
