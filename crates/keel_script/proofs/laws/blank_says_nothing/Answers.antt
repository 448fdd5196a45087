use Rattle.keel_script.proofs.OwnLines.{blank_says_nothing}
use Rattle.keel_script.proofs.laws.blank_says_nothing.Goals as goal

pub returns : goal.returns
returns c = blank_says_nothing
