use Rattle.keel_cli.proofs.Driving.{passed}
use Rattle.keel_cli.proofs.driver.Driver.pass.Goals as goal

pub returns-clause-out : goal.returns-clause-out
returns-clause-out g c session stands =
    let old = c.args.self.now in
    passed g.row.V.Denot old.store old.settings old.tick c.args.ticks c.saturating_add-self.result session stands c.saturating_add-self.ensures
