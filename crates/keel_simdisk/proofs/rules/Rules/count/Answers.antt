use Rattle.keel_simdisk.proofs.Meeting.{met_counts}
use Rattle.keel_simdisk.proofs.rules.Rules.count.Goals as goal

pub returns-then-met-len : goal.returns-then-met-len
returns-then-met-len c =
    rw (← c.self.view_is, c.in-Some.is)
    (λ call met. met_counts call c.self.inside.items.items c.in-Some.met c.index.result.now c.count_down.result c.index.ensures c.count_down.ensures met)
