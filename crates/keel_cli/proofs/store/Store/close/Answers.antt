use Rattle.keel_cli.specs.Stores.{Open, Stands}
use Rattle.keel_cli.proofs.Carrying.{closed_run}
use Rattle.keel_cli.proofs.store.Store.close.Goals as goal

pub returns : goal.returns
returns g c s stands =
    let core = c.in-Open.core in
    let closed = c.close-tickets.new.self in
    let stood : Stands (Open core c.in-Open.field-1) s = rw (← c.self.view_is, ← c.in-Open.ensures.value) at stands in
    rw c.finish.ensures (closed_run core closed c.in-Open.field-1 c.close-tickets.result c.close-tickets.ensures.turn s stood.0)
