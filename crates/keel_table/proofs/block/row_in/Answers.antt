use Rattle.std.proofs.Common.{ap, ◌∙◌, sym}
use Rattle.keel_table.specs.Opening.{rows_in}
use Rattle.keel_table.proofs.Walk.{row_found, one_asked, none_found}
use Rattle.keel_table.proofs.block.row_in.Goals as goal

pub returns-in-Ok-clause-found : goal.returns-in-Ok-clause-found
returns-in-Ok-clause-found c =
    one_asked c.args.key.now (rows_in c.args.before.now c.args.entry.now c.args.body.now) c.in-Ok.rows c.in-Ok.ensures.found ∙ ap row_found (sym c.row_of.ensures)

pub returns-in-Err-clause-found : goal.returns-in-Err-clause-found
returns-in-Err-clause-found c = none_found c.args.key.now (rows_in c.args.before.now c.args.entry.now c.args.body.now) c.in-Err.fault c.in-Err.ensures.found
