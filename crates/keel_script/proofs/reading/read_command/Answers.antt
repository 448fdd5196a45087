use Rattle.keel_script.proofs.Commands.{found, only, refused}
use Rattle.keel_script.proofs.reading.read_command.Goals as goal

pub returns-clause-found : goal.returns-clause-found
returns-clause-found c = found c.args.line.now c.command.result c.command.ensures

pub returns-clause-only : goal.returns-clause-only
returns-clause-only c = only c.args.line.now c.command.result c.command.ensures

pub returns-clause-refused : goal.returns-clause-refused
returns-clause-refused c = refused c.args.line.now c.command.result c.command.ensures
