use Rattle.std.proofs.Common.{◌≡◌, ◌∙◌, ℕ, List, Some, true, false, arith, sym, ap}
use Rattle.keel_region.specs.Order.{entry_before}
use Rattle.keel_region.specs.Spans.{bytes_at, IsHeld}
use Rattle.keel_region.specs.Trees.{is_up_to}
use Rattle.keel_region.proofs.Descending.{go_left, go_right, up_to_down, passes_up, fails_up}
use Rattle.keel_region.proofs.Growing.{has_left, has_right, left_less, right_less, own_held}
use Rattle.keel_region.proofs.tree.+behind.Goals as goal

pub bytes-requires : goal.bytes-requires
bytes-requires t c =
    (own_held (IsHeld c.args.region.now.bytes) c.args.pool.now.slots c.args.root c.in-Some.slot c.in-Some-get.node c.requires.tree c.in-Some.is (sym c.in-Some-get.ensures)).key

pub behind-requires : goal.behind-requires
behind-requires t c =
    let held = IsHeld c.args.region.now.bytes in
    let slots = c.args.pool.now.slots in
    let there = sym c.in-Some-get.ensures in (
      omega (arith, c.decreases, left_less held slots c.args.root c.in-Some.slot c.in-Some-get.node c.requires.tree c.in-Some.is there),
      (has_left held slots c.args.root c.in-Some.slot c.in-Some-get.node c.requires.tree c.in-Some.is there, c.requires.own),
    )

pub behind-requires-else-is_before : goal.behind-requires-else-is_before
behind-requires-else-is_before t c =
    let held = IsHeld c.args.region.now.bytes in
    let slots = c.args.pool.now.slots in
    let there = sym c.in-Some-get.ensures in (
      omega (arith, c.decreases, right_less held slots c.args.root c.in-Some.slot c.in-Some-get.node c.requires.tree c.in-Some.is there),
      (has_right held slots c.args.root c.in-Some.slot c.in-Some-get.node c.requires.tree c.in-Some.is there, c.requires.own),
    )

pub returns-then-is_before : goal.returns-then-is_before
returns-then-is_before t c = λ tree stands rooted.
    let bytes = c.args.region.now.bytes in
    let entry = c.args.entry.now in
    let node = c.in-Some-get.node in
    let fails : entry_before bytes (bytes_at bytes node.entry.key) (Some node.entry.seq) entry ≡ true =
    ap (λ (key : List ℕ). entry_before bytes key (Some node.entry.seq) entry) (sym c.bytes.ensures) ∙ sym c.is_before.ensures ∙ c.if-is_before.true in
    go_left bytes c.args.pool.now.slots (is_up_to bytes entry) c.in-Some.slot node (sym c.in-Some-get.ensures) c.args.best c.behind.result
    (fails_up bytes entry node.entry fails) c.behind.ensures tree stands (rooted ∙ c.in-Some.is)

pub returns-else-is_before : goal.returns-else-is_before
returns-else-is_before t c = λ tree stands rooted.
    let bytes = c.args.region.now.bytes in
    let entry = c.args.entry.now in
    let node = c.in-Some-get.node in
    let passes : entry_before bytes (bytes_at bytes node.entry.key) (Some node.entry.seq) entry ≡ false =
    ap (λ (key : List ℕ). entry_before bytes key (Some node.entry.seq) entry) (sym c.bytes.ensures) ∙ sym c.is_before.ensures ∙ c.if-is_before.false in
    go_right bytes c.args.pool.now.slots (is_up_to bytes entry) c.in-Some.slot node (sym c.in-Some-get.ensures) c.args.best c.behind-else-is_before.result
    (passes_up bytes entry node.entry passes) (up_to_down bytes entry) c.behind-else-is_before.ensures tree stands (rooted ∙ c.in-Some.is)
