use Rattle.std.proofs.Common.{Option, Result, sym, subst}
use Rattle.keel_table.specs.declared.fault.TableFault.{TableFault}
use Rattle.keel_open.specs.declared.refusal.OpenRefusal.{OpenRefusal}
use Rattle.keel_open.specs.TableAnswers.{DamageTells}
use Rattle.keel_open.proofs.Damages.{other_size, opening_tells}
use Rattle.keel_open.proofs.tables.damage_of.Goals as goal

pub returns-then-size-table-clause-damage : goal.returns-then-size-table-clause-damage
returns-then-size-table-clause-damage g c = other_size (g.D.Disk.seen c.args.disk.now).told c.args.table.now c.args.size c.requires c.if-size-table.true

pub returns-clause-damage : goal.returns-clause-damage
returns-clause-damage g c =
    let told = (g.D.Disk.seen c.args.disk.now).told in
    let t = c.args.table.now in
    let opened = c.open_table-opened in
    subst (λ (answer : Result (Option TableFault) OpenRefusal). DamageTells told t answer) (sym c.damage_told.ensures)
    (opening_tells told t c.args.size opened.result c.if-size-table.false c.requires opened.ensures.small opened.ensures.answer)
