use Rattle.std.proofs.Common.{take}
use Rattle.keel_merge.specs.Taking.{seen, AreSeen}
use Rattle.keel_merge.proofs.look.look.Given as goal

abbrev pub invariant-loop-at : goal.invariant-loop-at
invariant-loop-at l = AreSeen (take l.at l.lists) (seen l.best)
