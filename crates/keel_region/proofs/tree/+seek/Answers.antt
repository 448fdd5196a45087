use Rattle.std.proofs.Common.{◌∙◌, arith, sym}
use Rattle.keel_region.specs.Order.{entry_before}
use Rattle.keel_region.specs.Spans.{IsHeld}
use Rattle.keel_region.proofs.Descending.{go_left, go_right}
use Rattle.keel_region.proofs.Growing.{has_left, has_right, left_less, right_less, own_held}
use Rattle.keel_region.proofs.Orders.{Precedes-before}
use Rattle.keel_region.proofs.tree.+seek.Goals as goal

pub is_before-requires : goal.is_before-requires
is_before-requires t c =
    (own_held (IsHeld c.args.region.now.bytes) c.args.pool.now.slots c.args.root c.in-Some.slot c.in-Some-get.node c.requires c.in-Some.is (sym c.in-Some-get.ensures)).key

pub seek-requires : goal.seek-requires
seek-requires t c =
    let held = IsHeld c.args.region.now.bytes in
    let slots = c.args.pool.now.slots in
    let there = sym c.in-Some-get.ensures in (
      omega (arith, c.decreases, right_less held slots c.args.root c.in-Some.slot c.in-Some-get.node c.requires c.in-Some.is there),
      has_right held slots c.args.root c.in-Some.slot c.in-Some-get.node c.requires c.in-Some.is there,
    )

pub seek-requires-else-is_before : goal.seek-requires-else-is_before
seek-requires-else-is_before t c =
    let held = IsHeld c.args.region.now.bytes in
    let slots = c.args.pool.now.slots in
    let there = sym c.in-Some-get.ensures in (
      omega (arith, c.decreases, left_less held slots c.args.root c.in-Some.slot c.in-Some-get.node c.requires c.in-Some.is there),
      has_left held slots c.args.root c.in-Some.slot c.in-Some-get.node c.requires c.in-Some.is there,
    )

pub returns-then-is_before : goal.returns-then-is_before
returns-then-is_before t c = λ tree stands rooted.
    let bytes = c.args.region.now.bytes in
    go_right bytes c.args.pool.now.slots (entry_before bytes c.args.key.now c.args.seq) c.in-Some.slot c.in-Some-get.node (sym c.in-Some-get.ensures) c.args.best c.seek.result
    (sym c.is_before.ensures ∙ c.if-is_before.true) (Precedes-before bytes c.args.key.now c.args.seq) c.seek.ensures tree stands (rooted ∙ c.in-Some.is)

pub returns-else-is_before : goal.returns-else-is_before
returns-else-is_before t c = λ tree stands rooted.
    let bytes = c.args.region.now.bytes in
    go_left bytes c.args.pool.now.slots (entry_before bytes c.args.key.now c.args.seq) c.in-Some.slot c.in-Some-get.node (sym c.in-Some-get.ensures) c.args.best c.seek-else-is_before.result
    (sym c.is_before.ensures ∙ c.if-is_before.false) c.seek-else-is_before.ensures tree stands (rooted ∙ c.in-Some.is)
