use Rattle.keel_simdisk.proofs.Waiting.{one_more}
use Rattle.keel_simdisk.proofs.tree.Tree.wait.Goals as goal

pub invariant_of-self-in_default-operate : goal.invariant_of-self-in_default-operate
invariant_of-self-in_default-operate c =
    one_more _ _ _ _ c.args.operation _ c.self.invariant c.in_default.ensures.items c.in_default-operate.ensures.ok
