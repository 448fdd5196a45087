use Rattle.std.proofs.Common.{length}
use Rattle.keel_core.proofs.reading.+find.Given as goal

abbrev pub decreases-find : goal.decreases-find
decreases-find l = length l.full.now
