use Rattle.std.proofs.Common.{Option, subst}
use Rattle.keel_open.specs.declared.tables.DamagedTable.{DamagedTable}
use Rattle.keel_open.specs.TableAnswers.{ChosenTells}
use Rattle.keel_open.proofs.Refusing.{missing_tells, open_tells, damaged_tells}
use Rattle.keel_open.proofs.tables.check_tables.Goals as goal

pub returns-in-Some-clause-tables : goal.returns-in-Some-clause-tables
returns-in-Some-clause-tables g c = missing_tells (g.D.Disk.seen c.args.disk.now).told c.args.listing.now c.args.tables.now c.in-Some.number c.requires.tells c.requires.within c.in-Some.ensures

pub returns-in-Ok-None-clause-tables : goal.returns-in-Ok-None-clause-tables
returns-in-Ok-None-clause-tables g c =
    let told = (g.D.Disk.seen c.args.disk.now).told in
    let tables = c.args.tables.now in
    let none = subst (λ (found : Option DamagedTable). ChosenTells told tables found) c.in-Ok-None.field-0-is c.in-Ok-None.ensures.damage in
    open_tells told c.args.listing.now tables c.requires.tells c.requires.within c.in-None.ensures none

pub returns-in-Ok-Some-clause-tables : goal.returns-in-Ok-Some-clause-tables
returns-in-Ok-Some-clause-tables g c =
    let told = (g.D.Disk.seen c.args.disk.now).told in
    let tables = c.args.tables.now in
    let some = subst (λ (found : Option DamagedTable). ChosenTells told tables found) c.in-Ok-Some.field-0-is c.in-Ok-Some.ensures.damage in
    damaged_tells told c.args.listing.now tables c.in-Ok-Some.field-0-0 c.requires.tells c.requires.within c.in-None.ensures some
