use Rattle.keel_group.proofs.Sizing.{is_longest_prefix}
use Rattle.keel_group.proofs.laws.longest_prefix.Goals as goal

pub returns : goal.returns
returns c = is_longest_prefix
