use Rattle.keel_frag.proofs.Continuing.{payloads_stay}
use Rattle.keel_frag.proofs.laws.payloads_stay.Goals as goal

pub returns : goal.returns
returns c = payloads_stay
