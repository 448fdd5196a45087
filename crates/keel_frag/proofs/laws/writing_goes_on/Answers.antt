use Rattle.keel_frag.proofs.Continuing.{going_on}
use Rattle.keel_frag.proofs.laws.writing_goes_on.Goals as goal

pub returns : goal.returns
returns c = going_on
