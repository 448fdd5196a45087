use Rattle.std.proofs.Common.{◌≡◌, not, arith}
use Rattle.std.proofs.lemmas.Grind.{common_steps}
use Rattle.keel_handler.specs.Recovery.{stops_work}
use Rattle.keel_handler.proofs.Standing.{work_listed}
use Rattle.keel_handler.proofs.handler.Handler.work_stops.Goals as goal

pub returns-then-not-self-clause-stands : goal.returns-then-not-self-clause-stands
returns-then-not-self-clause-stands c =
    let value : not c.self.inside.auto ≡ stops_work c.args.self.now = grind (arith, common_steps) in
    rw value (work_listed c.args.self.now)

pub returns-else-not-self-clause-stands : goal.returns-else-not-self-clause-stands
returns-else-not-self-clause-stands c =
    let value : c.self.inside.given_up ≡ stops_work c.args.self.now = grind (arith, common_steps) in
    rw value (work_listed c.args.self.now)
