use Rattle.std.proofs.Common.{refl, arith}
use Rattle.keel_region.specs.declared.pool.Node.{Node}
use Rattle.keel_region.specs.Turns.{IsOver, RaisesLeft, RaisesRight, LeansLeft, LeansRight, Evens}
use Rattle.keel_region.proofs.Heights.{evens_left, evens_right, evens_over}
use Rattle.keel_region.proofs.Trees.{turned_left, turned_right, rejoined}
use Rattle.keel_region.proofs.tree.balance.Goals as goal

pub returns-then-left-saturating_add-clause-joins : goal.returns-then-left-saturating_add-clause-joins
returns-then-left-saturating_add-clause-joins c =
    let node = c.args.node in
    let next : Node = record { entry = node.entry; left = c.lean_left-left.result; right = node.right; height = node.height } in
    turned_left LeansLeft RaisesLeft Evens c.args.pool.now.slots c.lean_left-left.new.pool.slots c.raise_left.new.pool.slots c.args.slot.place node next c.raise_left.result refl refl
    c.lean_left-left.ensures.turns c.raise_left.ensures.joins
    (λ left right lower tree low high leans raised. evens_left left right lower tree (omega arith) leans raised)

pub returns-then-right-saturating_add-clause-joins : goal.returns-then-right-saturating_add-clause-joins
returns-then-right-saturating_add-clause-joins c =
    let node = c.args.node in
    let next : Node = record { entry = node.entry; left = node.left; right = c.lean_right-right.result; height = node.height } in
    turned_right LeansRight RaisesRight Evens c.args.pool.now.slots c.lean_right-right.new.pool.slots c.raise_right.new.pool.slots c.args.slot.place node next c.raise_right.result refl refl
    c.lean_right-right.ensures.turns c.raise_right.ensures.joins
    (λ left right lower tree low high leans raised. evens_right left right lower tree (omega arith) leans raised)

pub returns-else-right-saturating_add-clause-joins : goal.returns-else-right-saturating_add-clause-joins
returns-else-right-saturating_add-clause-joins c =
    rejoined IsOver Evens c.args.pool.now.slots c.write.new.pool.slots c.args.slot.place c.args.node c.args.slot c.write.ensures.joins
    (λ left right tree low high over. evens_over left right tree (omega arith) (omega arith) over)
