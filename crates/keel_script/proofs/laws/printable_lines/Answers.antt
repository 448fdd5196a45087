use Rattle.keel_script.proofs.OwnLines.{says_printable}
use Rattle.keel_script.proofs.laws.printable_lines.Goals as goal

pub returns : goal.returns
returns c = says_printable
