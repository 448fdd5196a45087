use Rattle.keel_trash.specs.State.{AreQueued}
use Rattle.keel_checks.proofs.deletions.agree.Given as goal

abbrev pub invariant-loop-now : goal.invariant-loop-now
invariant-loop-now l = AreQueued l.trash l.space
