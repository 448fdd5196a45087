use Rattle.std.proofs.Common.{arith, List, subst}
use Rattle.std.specs.Prelude.{Result}
use Rattle.keel_base.specs.declared.row.Row.{Row}
use Rattle.keel_table.specs.Opening.{Damage, rows_in}
use Rattle.keel_table.specs.Answers.{Finds}
use Rattle.keel_table.proofs.Spelled.{found_fits}
use Rattle.keel_table.proofs.Walk.{all_asked}
use Rattle.keel_table.proofs.block.rows_in.Goals as goal

pub returns-clause-found : goal.returns-clause-found
returns-clause-found c =
    subst (λ (found : Result (List Row) Damage). Finds (λ (rows : List Row). rows) c.asked_in.result found) (all_asked (rows_in c.args.before.now c.args.entry.now c.args.body.now)) c.asked_in.ensures.found

pub returns-clause-fit : goal.returns-clause-fit
returns-clause-fit c =
    found_fits c.args.before.now c.args.entry.now c.args.body.now c.asked_in.result (λ i. omega (arith, c.type_inv.body i))
    (subst (λ (found : Result (List Row) Damage). Finds (λ (rows : List Row). rows) c.asked_in.result found) (all_asked (rows_in c.args.before.now c.args.entry.now c.args.body.now)) c.asked_in.ensures.found)
