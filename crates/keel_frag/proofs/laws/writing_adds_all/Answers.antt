use Rattle.keel_frag.proofs.Continuing.{adding_all}
use Rattle.keel_frag.proofs.laws.writing_adds_all.Goals as goal

pub returns : goal.returns
returns c = adding_all
