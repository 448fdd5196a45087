use Rattle.keel_frag.proofs.Continuing.{making}
use Rattle.keel_frag.proofs.laws.writing_makes.Goals as goal

pub returns : goal.returns
returns c = making
