use Rattle.std.proofs.Common.{◌≡◌, ℕ, false, below_more, sym, ◌∙◌}
use Rattle.keel_version.specs.Picking.{is_ready}
use Rattle.keel_version.proofs.picking.ready_level.Goals as goal

pub loop-level-preserved : goal.loop-level-preserved
loop-level-preserved c =
    below_more (λ (level : ℕ). is_ready c.args.options.now c.args.busy.now c.args.tables.now level ≡ false) c.loop-level.level c.loop-level.invariant (sym c.is_ready.ensures ∙ c.if-is_ready.false)
