use Rattle.keel_merge.specs.Taking.{seen}
use Rattle.keel_merge.proofs.Looking.{seen_more}
use Rattle.keel_merge.proofs.look.look.Goals as goal

pub loop-at-preserved : goal.loop-at-preserved
loop-at-preserved c =
    seen_more c.args.lists.now c.loop-at.at c.index-lists-at.result (seen c.loop-at.best) (seen c.in_ok-best.best)
    c.loop-at-test.true c.index-lists-at.is c.loop-at.invariant c.in_ok-best.ensures.0 c.in_ok-best.ensures.1
