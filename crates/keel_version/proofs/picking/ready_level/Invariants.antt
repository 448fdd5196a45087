use Rattle.std.proofs.Common.{◌≡◌, ℕ, ◌<◌, false}
use Rattle.keel_version.specs.Picking.{is_ready}
use Rattle.keel_version.proofs.picking.ready_level.Given as goal

abbrev pub invariant-loop-level : goal.invariant-loop-level
invariant-loop-level l = (level : ℕ) → level < l.level → is_ready l.options l.busy l.tables level ≡ false
