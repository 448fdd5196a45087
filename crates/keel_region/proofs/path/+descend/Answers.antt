use Rattle.std.proofs.Common.{◌≡◌, ◌∙◌, Bool, [], ◌∷◌, length, arith, sym, ap}
use Rattle.std.specs.Prelude.{if◌then◌else◌}
use Rattle.std.proofs.lemmas.List.{length-append}
use Rattle.keel_region.specs.Spans.{IsHeld}
use Rattle.keel_region.specs.Turns.{greatest_height}
use Rattle.keel_region.specs.Ways.{child_towards}
use Rattle.keel_region.proofs.Growing.{has_left, has_right, left_less, right_less, own_held}
use Rattle.keel_region.proofs.Routes.{left_lower, right_lower, room, longer_way}
use Rattle.keel_region.proofs.path.+descend.Goals as goal

pub push-requires : goal.push-requires
push-requires t c =
    let slots = c.args.pool.now.slots in
    let less = room (IsHeld c.args.region.now.bytes) slots c.args.root c.in-Some.slot c.in-Some-get.node c.requires.tree c.in-Some.is (sym c.in-Some-get.ensures) c.requires.balanced
    (length c.args.path.now) greatest_height c.requires.room in
    omega (arith, less)

pub is_before-requires : goal.is_before-requires
is_before-requires t c =
    (own_held (IsHeld c.args.region.now.bytes) c.args.pool.now.slots c.args.root c.in-Some.slot c.in-Some-get.node c.requires.tree c.in-Some.is (sym c.in-Some-get.ensures)).key

pub descend-requires : goal.descend-requires
descend-requires t c =
    let held = IsHeld c.args.region.now.bytes in
    let slots = c.args.pool.now.slots in
    let there = sym c.in-Some-get.ensures in
    let low = right_lower held slots c.args.root c.in-Some.slot c.in-Some-get.node c.requires.tree c.in-Some.is there c.requires.balanced in (
      omega (arith, c.decreases, right_less held slots c.args.root c.in-Some.slot c.in-Some-get.node c.requires.tree c.in-Some.is there),
      (
        has_right held slots c.args.root c.in-Some.slot c.in-Some-get.node c.requires.tree c.in-Some.is there,
        (low.balanced, omega (arith, low.lower, c.requires.room, ap length c.push.ensures, length-append c.args.path.now (c.in-Some.slot ∷ []))),
      ),
    )

pub descend-requires-else-is_before : goal.descend-requires-else-is_before
descend-requires-else-is_before t c =
    let held = IsHeld c.args.region.now.bytes in
    let slots = c.args.pool.now.slots in
    let there = sym c.in-Some-get.ensures in
    let low = left_lower held slots c.args.root c.in-Some.slot c.in-Some-get.node c.requires.tree c.in-Some.is there c.requires.balanced in (
      omega (arith, c.decreases, left_less held slots c.args.root c.in-Some.slot c.in-Some-get.node c.requires.tree c.in-Some.is there),
      (
        has_left held slots c.args.root c.in-Some.slot c.in-Some-get.node c.requires.tree c.in-Some.is there,
        (low.balanced, omega (arith, low.lower, c.requires.room, ap length c.push.ensures, length-append c.args.path.now (c.in-Some.slot ∷ []))),
      ),
    )

pub returns-then-is_before : goal.returns-then-is_before
returns-then-is_before t c =
    let slots = c.args.pool.now.slots in
    let node = c.in-Some-get.node in
    let there = sym c.in-Some-get.ensures in
    let low = right_lower (IsHeld c.args.region.now.bytes) slots c.args.root c.in-Some.slot node c.requires.tree c.in-Some.is there c.requires.balanced in
    let towards : child_towards c.args.region.now.bytes c.args.key.now c.args.seq node ≡ node.right =
    ap (λ (b : Bool). if b then node.right else node.left) (sym c.is_before.ensures ∙ c.if-is_before.true) in
    longer_way c.args.region.now.bytes c.args.key.now c.args.seq slots c.in-Some.slot node there node.right towards c.args.root c.args.path.now c.push.new.self c.descend.new.path
    c.in-Some.is c.push.ensures low.lower c.descend.ensures

pub returns-else-is_before : goal.returns-else-is_before
returns-else-is_before t c =
    let slots = c.args.pool.now.slots in
    let node = c.in-Some-get.node in
    let there = sym c.in-Some-get.ensures in
    let low = left_lower (IsHeld c.args.region.now.bytes) slots c.args.root c.in-Some.slot node c.requires.tree c.in-Some.is there c.requires.balanced in
    let towards : child_towards c.args.region.now.bytes c.args.key.now c.args.seq node ≡ node.left =
    ap (λ (b : Bool). if b then node.right else node.left) (sym c.is_before.ensures ∙ c.if-is_before.false) in
    longer_way c.args.region.now.bytes c.args.key.now c.args.seq slots c.in-Some.slot node there node.left towards c.args.root c.args.path.now c.push.new.self c.descend-else-is_before.new.path
    c.in-Some.is c.push.ensures low.lower c.descend-else-is_before.ensures
