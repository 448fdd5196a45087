use Rattle.std.proofs.Common.{◌∙◌, arith, sym}
use Rattle.keel_region.proofs.Descending.{most_left}
use Rattle.keel_region.proofs.Growing.{has_left, left_less}
use Rattle.keel_region.proofs.tree.+leftmost.Goals as goal

pub leftmost-requires : goal.leftmost-requires
leftmost-requires t c =
    let slots = c.args.pool.now.slots in
    let there = sym c.in-Some-get.ensures in (
      omega (arith, c.decreases, left_less (λ entry. Unit {0}) slots c.args.root c.in-Some.slot c.in-Some-get.node c.requires c.in-Some.is there),
      has_left (λ entry. Unit {0}) slots c.args.root c.in-Some.slot c.in-Some-get.node c.requires c.in-Some.is there,
    )

pub returns-in-Some-get : goal.returns-in-Some-get
returns-in-Some-get t c = λ tree stands rooted.
    most_left c.args.pool.now.slots c.in-Some.slot c.in-Some-get.node (sym c.in-Some-get.ensures) c.args.best c.leftmost.result c.leftmost.ensures
    tree stands (rooted ∙ c.in-Some.is)
