use Rattle.keel_frag.proofs.Existing.{has_reading}
use Rattle.keel_frag.proofs.laws.has_reading.Goals as goal

pub returns : goal.returns
returns c = has_reading
