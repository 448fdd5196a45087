use Rattle.keel_name.proofs.Spellings.{printed_injective}
use Rattle.keel_name.proofs.laws.one_spelling.Goals as goal

pub returns : goal.returns
returns c = printed_injective
