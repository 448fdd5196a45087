use Rattle.keel_handler.proofs.Standing.{stops_listed}
use Rattle.keel_handler.proofs.handler.Handler.stops.Goals as goal

pub returns-clause-stands : goal.returns-clause-stands
returns-clause-stands c =
    rw (c.standing_severity.ensures, ← c.self.view_is)
    (λ failures stands. stops_listed c.self.inside.paranoid failures c.self.inside.standing stands)
