use Rattle.std.proofs.Common.{sym, ◌∙◌}
use Rattle.keel_core.proofs.BootCovers.{no_rows}
use Rattle.keel_core.proofs.store.Core.advance_running.Goals as goal

pub advance-requires-clause-closes : goal.advance-requires-clause-closes
advance-requires-clause-closes g c = rw (← c.self.view_is) (no_rows c.self.inside.mem.rows (sym c.weight.ensures.value ∙ c.if-weight-ne0.false))
