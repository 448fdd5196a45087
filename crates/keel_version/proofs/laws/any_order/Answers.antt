use Rattle.keel_version.proofs.Newest.{any_order}
use Rattle.keel_version.proofs.laws.any_order.Goals as goal

pub returns : goal.returns
returns c = any_order
