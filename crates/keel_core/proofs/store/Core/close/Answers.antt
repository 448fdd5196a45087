use Rattle.keel_core.proofs.Shutdowns.{shuts_goes}
use Rattle.keel_core.proofs.store.Core.close.Goals as goal

pub returns : goal.returns
returns g c = record { turn = rw (c.close_jobs.ensures, c.close_queue.ensures, c.close_group.ensures, c.open_tickets-tickets.ensures) (shuts_goes c.args.self.now) }
