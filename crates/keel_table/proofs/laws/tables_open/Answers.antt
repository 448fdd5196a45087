use Rattle.keel_table.proofs.Opens.{tables_open_law}
use Rattle.keel_table.proofs.laws.tables_open.Goals as goal

pub returns : goal.returns
returns c = tables_open_law
