use Rattle.keel_script.proofs.OwnLines.{own_line}
use Rattle.keel_script.proofs.laws.own_line.Goals as goal

pub returns : goal.returns
returns c = own_line
