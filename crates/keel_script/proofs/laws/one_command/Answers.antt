use Rattle.keel_script.proofs.Commands.{says_one}
use Rattle.keel_script.proofs.laws.one_command.Goals as goal

pub returns : goal.returns
returns c = says_one
