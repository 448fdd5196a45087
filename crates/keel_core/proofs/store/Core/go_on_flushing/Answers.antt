use Rattle.std.proofs.Common.{ap}
use Rattle.keel_core.specs.Views.{CoreView}
use Rattle.keel_core.proofs.FlushStarts.{on_made, on_want}
use Rattle.keel_core.proofs.store.Core.go_on_flushing.Goals as goal

pub returns-in-Ok : goal.returns-in-Ok
returns-in-Ok g c = on_made c.args.self.now _ _ c.args.running c.in-Ok.made (ap (λ (v : CoreView). v.flush_job) c.advance_flush.view_is) c.in-Ok.ensures

pub returns-in-Err : goal.returns-in-Err
returns-in-Err g c = on_want c.args.self.now _ c.advance_flush.inside.flush_job c.args.running c.in-Err.running (rw (← c.self.view_is) at c.in-Err.ensures)
