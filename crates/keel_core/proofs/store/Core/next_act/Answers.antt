use Rattle.keel_core.specs.Flights.{batches_flying, flying}
use Rattle.keel_core.specs.Trails.{limbo_in}
use Rattle.keel_core.proofs.Segmenting.{have_ops}
use Rattle.keel_core.proofs.store.Core.next_act.Goals as goal

pub returns-in-Some-clause-limbo : goal.returns-in-Some-clause-limbo
returns-in-Some-clause-limbo g c = rw (← c.self.view_is) (have_ops (limbo_in c.self.inside.trail) c.self.invariant.limbo)

pub returns-in-Some-clause-flying : goal.returns-in-Some-clause-flying
returns-in-Some-clause-flying g c = rw (← c.self.view_is) (have_ops (batches_flying (flying c.self.inside.queue.group)) c.self.invariant.group)

pub returns-in-None-clause-limbo : goal.returns-in-None-clause-limbo
returns-in-None-clause-limbo g c = rw (← c.self.view_is) (have_ops (limbo_in c.self.inside.trail) c.self.invariant.limbo)
