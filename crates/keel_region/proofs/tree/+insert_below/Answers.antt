use Rattle.std.proofs.Common.{◌≡◌, ◌∙◌, Option, Some, List, ℕ, true, false, arith, sym, ap, subst}
use Rattle.keel_region.specs.declared.pool.Slot.{Slot}
use Rattle.keel_region.specs.Order.{entry_before}
use Rattle.keel_region.specs.Spans.{IsHeld}
use Rattle.keel_region.proofs.Growing.{has_left, has_right, left_less, right_less, own_held}
use Rattle.keel_region.proofs.Planting.{Puts, own_test, put_left, put_right, keep_left, keep_right, put_first}
use Rattle.keel_region.proofs.tree.+insert_below.Goals as goal

pub is_before-requires : goal.is_before-requires
is_before-requires t c =
    (own_held (IsHeld c.args.region.now.bytes) c.args.pool.now.slots c.args.root c.in-Some.slot c.in-Some-get.node c.requires.tree c.in-Some.is (sym c.in-Some-get.ensures)).key

pub insert_below-right-requires : goal.insert_below-right-requires
insert_below-right-requires t c =
    let bytes = c.args.region.now.bytes in
    let old = c.args.pool.now.slots in
    let there = sym c.in-Some-get.ensures in (
      omega (arith, c.decreases, right_less (IsHeld bytes) old c.args.root c.in-Some.slot c.in-Some-get.node c.requires.tree c.in-Some.is there),
      (c.requires.room, (has_right (IsHeld bytes) old c.args.root c.in-Some.slot c.in-Some-get.node c.requires.tree c.in-Some.is there, c.requires.own)),
    )

pub insert_below-left-requires : goal.insert_below-left-requires
insert_below-left-requires t c =
    let bytes = c.args.region.now.bytes in
    let old = c.args.pool.now.slots in
    let there = sym c.in-Some-get.ensures in (
      omega (arith, c.decreases, left_less (IsHeld bytes) old c.args.root c.in-Some.slot c.in-Some-get.node c.requires.tree c.in-Some.is there),
      (c.requires.room, (has_left (IsHeld bytes) old c.args.root c.in-Some.slot c.in-Some-get.node c.requires.tree c.in-Some.is there, c.requires.own)),
    )

pub returns-in-None-clause-puts : goal.returns-in-None-clause-puts
returns-in-None-clause-puts t c =
    let bytes = c.args.region.now.bytes in
    subst (λ (r : Option Slot). Puts bytes c.args.pool.now.slots c.take.new.self.slots c.args.entry r c.take.result) (sym c.in-None.is)
    (put_first bytes c.args.pool.now.slots c.take.new.self.slots c.args.entry c.take.result c.take.ensures.free c.take.ensures.taken c.take.ensures.others)

pub returns-then-is_unmoved-clause-puts : goal.returns-then-is_unmoved-clause-puts
returns-then-is_unmoved-clause-puts t c =
    let bytes = c.args.region.now.bytes in
    let old = c.args.pool.now.slots in
    let node = c.in-Some-get.node in
    let before : own_test bytes c.args.entry node.entry ≡ true =
    ap (λ (key : List ℕ). entry_before bytes key (Some c.args.entry.seq) node.entry) (sym c.bytes.ensures) ∙ sym c.is_before.ensures ∙ c.if-is_before.true in
    subst (λ (r : Option Slot). Puts bytes old c.insert_below-right.new.pool.slots c.args.entry r c.in-Some.slot) (sym c.in-Some.is)
    (keep_right bytes old c.insert_below-right.new.pool.slots c.args.entry c.in-Some.slot node (sym c.in-Some-get.ensures) c.insert_below-right.result
    before c.insert_below-right.ensures.puts (c.is_unmoved.ensures.slot c.if-is_unmoved.true) (c.is_unmoved.ensures.height c.if-is_unmoved.true ∙ c.height-before.ensures))

pub returns-else-is_unmoved-clause-puts : goal.returns-else-is_unmoved-clause-puts
returns-else-is_unmoved-clause-puts t c =
    let bytes = c.args.region.now.bytes in
    let old = c.args.pool.now.slots in
    let node = c.in-Some-get.node in
    let before : own_test bytes c.args.entry node.entry ≡ true =
    ap (λ (key : List ℕ). entry_before bytes key (Some c.args.entry.seq) node.entry) (sym c.bytes.ensures) ∙ sym c.is_before.ensures ∙ c.if-is_before.true in
    subst (λ (r : Option Slot). Puts bytes old c.balance.new.pool.slots c.args.entry r c.balance.result) (sym c.in-Some.is)
    (put_right bytes old c.insert_below-right.new.pool.slots c.balance.new.pool.slots c.args.entry c.in-Some.slot node (sym c.in-Some-get.ensures)
    c.insert_below-right.result c.balance.result before c.insert_below-right.ensures.puts c.balance.ensures.joins)

pub returns-then-is_unmoved-2-clause-puts : goal.returns-then-is_unmoved-2-clause-puts
returns-then-is_unmoved-2-clause-puts t c =
    let bytes = c.args.region.now.bytes in
    let old = c.args.pool.now.slots in
    let node = c.in-Some-get.node in
    let behind : own_test bytes c.args.entry node.entry ≡ false =
    ap (λ (key : List ℕ). entry_before bytes key (Some c.args.entry.seq) node.entry) (sym c.bytes.ensures) ∙ sym c.is_before.ensures ∙ c.if-is_before.false in
    subst (λ (r : Option Slot). Puts bytes old c.insert_below-left.new.pool.slots c.args.entry r c.in-Some.slot) (sym c.in-Some.is)
    (keep_left bytes old c.insert_below-left.new.pool.slots c.args.entry c.in-Some.slot node (sym c.in-Some-get.ensures) c.insert_below-left.result
    behind c.insert_below-left.ensures.puts (c.is_unmoved-else-is_before.ensures.slot c.if-is_unmoved-2.true) (c.is_unmoved-else-is_before.ensures.height c.if-is_unmoved-2.true ∙ c.height-before-else-is_before.ensures))

pub returns-else-is_unmoved-2-clause-puts : goal.returns-else-is_unmoved-2-clause-puts
returns-else-is_unmoved-2-clause-puts t c =
    let bytes = c.args.region.now.bytes in
    let old = c.args.pool.now.slots in
    let node = c.in-Some-get.node in
    let behind : own_test bytes c.args.entry node.entry ≡ false =
    ap (λ (key : List ℕ). entry_before bytes key (Some c.args.entry.seq) node.entry) (sym c.bytes.ensures) ∙ sym c.is_before.ensures ∙ c.if-is_before.false in
    subst (λ (r : Option Slot). Puts bytes old c.balance-else-is_before.new.pool.slots c.args.entry r c.balance-else-is_before.result) (sym c.in-Some.is)
    (put_left bytes old c.insert_below-left.new.pool.slots c.balance-else-is_before.new.pool.slots c.args.entry c.in-Some.slot node (sym c.in-Some-get.ensures)
    c.insert_below-left.result c.balance-else-is_before.result behind c.insert_below-left.ensures.puts c.balance-else-is_before.ensures.joins)
