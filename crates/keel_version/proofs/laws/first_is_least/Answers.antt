use Rattle.keel_version.proofs.Members.{first_is_least}
use Rattle.keel_version.proofs.laws.first_is_least.Goals as goal

pub returns : goal.returns
returns c = first_is_least
