use Rattle.keel_name.proofs.Listings.{in_order}
use Rattle.keel_name.proofs.laws.one_order.Goals as goal

pub returns : goal.returns
returns c = in_order
