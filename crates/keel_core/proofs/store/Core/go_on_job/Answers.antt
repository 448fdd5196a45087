use Rattle.keel_core.proofs.BootStarts.{on_made, on_want}
use Rattle.keel_core.proofs.store.Core.go_on_job.Goals as goal

pub returns-in-Ok : goal.returns-in-Ok
returns-in-Ok g c = on_made c.args.self.now _ c.args.booted c.args.running c.in-Ok.made c.in-Ok.ensures

pub returns-in-Err : goal.returns-in-Err
returns-in-Err g c = on_want c.args.self.now _ c.args.booted c.args.running c.in-Err.running (rw (← c.self.view_is) at c.in-Err.ensures)
