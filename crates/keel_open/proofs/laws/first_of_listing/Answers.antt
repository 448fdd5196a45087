use Rattle.keel_open.proofs.Using.{first_of_listing}
use Rattle.keel_open.proofs.laws.first_of_listing.Goals as goal

pub returns : goal.returns
returns c = first_of_listing
