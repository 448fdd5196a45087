use Rattle.keel_version.proofs.Levels.{at_level0}
use Rattle.keel_version.proofs.picking.is_over.Goals as goal

pub returns-then-level-eq0 : goal.returns-then-level-eq0
returns-then-level-eq0 c = at_level0 c.args.options.now c.args.tables.now c.count_on.result c.args.level c.if-level-eq0.true c.count_on.ensures
