use Rattle.std.proofs.Common.{length}
use Rattle.keel_draft.proofs.Newest.{IsGathering}
use Rattle.keel_draft.proofs.gathering.gather.Given as goal

abbrev pub invariant-rows : goal.invariant-rows
invariant-rows l = IsGathering l.fn.mem.rows l.rows l.gathering

abbrev pub decreases-rows : goal.decreases-rows
decreases-rows l = length l.rows
