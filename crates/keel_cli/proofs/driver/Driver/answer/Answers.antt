use Rattle.keel_cli.specs.Sessions.{driven_in}
use Rattle.keel_cli.proofs.Driving.{drives}
use Rattle.keel_cli.proofs.driver.Driver.answer.Goals as goal

pub returns-in-Some : goal.returns-in-Some
returns-in-Some g c session stands covered = c.in-Some.ensures.out session stands

pub returns : goal.returns
returns g c session stands covered =
    let same = c.in_default.ensures.same in
    rw same
    (drives g.row.V.Denot c.args.self.now c.answer.new.self c.answer.result c.args.command.now session stands c.in_default.ensures.none
    (rw (c.options.ensures.same, same, ← stands.options) at c.answer.ensures (driven_in session) stands.store covered))
