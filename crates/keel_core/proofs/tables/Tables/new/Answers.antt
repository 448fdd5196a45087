use Rattle.keel_core.proofs.Unopened.{none_opened, tables_unopened}
use Rattle.keel_core.proofs.tables.Tables.new.Goals as goal

pub returns-clause-tables : goal.returns-clause-tables
returns-clause-tables c = tables_unopened c.args.entries

pub returns-clause-opened : goal.returns-clause-opened
returns-clause-opened c files is = none_opened c.args.entries files is
