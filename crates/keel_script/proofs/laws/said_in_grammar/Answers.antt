use Rattle.keel_script.proofs.OwnLines.{said_in_grammar}
use Rattle.keel_script.proofs.laws.said_in_grammar.Goals as goal

pub returns : goal.returns
returns c = said_in_grammar
