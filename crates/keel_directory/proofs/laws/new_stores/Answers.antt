use Rattle.keel_directory.proofs.Needed.{new_read}
use Rattle.keel_directory.proofs.laws.new_stores.Goals as goal

pub returns : goal.returns
returns c = new_read
