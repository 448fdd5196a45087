use Rattle.std.proofs.Common.{Option, Some, None, refl, sym, subst, arith}
use Rattle.keel_region.specs.declared.pool.Slot.{Slot}
use Rattle.keel_region.specs.Trees.{Tree, Rebuilds}
use Rattle.keel_region.specs.Turns.{RaisesLeft, LeansRight}
use Rattle.keel_region.proofs.Trees.{turned, unturned, unturned_at, leaf_is, leaf_below}
use Rattle.keel_region.proofs.tree.lean_right.Goals as goal

pub returns-in-None-clause-turns : goal.returns-in-None-clause-turns
returns-in-None-clause-turns c =
    let old = c.args.pool.now.slots in
    subst (λ (r : Option Slot). Rebuilds LeansRight old old r None) (sym c.in-None.is)
    (unturned LeansRight old None (λ tree stands rooted. subst (λ (t : Tree). LeansRight t t) (sym (leaf_is tree rooted)) refl))

pub returns-in-None-get-clause-turns : goal.returns-in-None-get-clause-turns
returns-in-None-get-clause-turns c =
    let old = c.args.pool.now.slots in
    subst (λ (r : Option Slot). Rebuilds LeansRight old old r (Some c.in-Some.slot)) (sym c.in-Some.is)
    (unturned LeansRight old (Some c.in-Some.slot)
    (λ tree stands rooted. subst (λ (t : Tree). LeansRight t t) (sym (leaf_below old tree (Some c.in-Some.slot) stands rooted (sym c.in-None-get.ensures))) refl))

pub returns-then-height-clause-turns : goal.returns-then-height-clause-turns
returns-then-height-clause-turns c =
    let old = c.args.pool.now.slots in
    let new = c.raise_left.new.pool.slots in
    subst (λ (r : Option Slot). Rebuilds LeansRight old new r (Some c.raise_left.result)) (sym c.in-Some.is)
    (turned RaisesLeft LeansRight old new c.in-Some.slot c.in-Some-get.node c.raise_left.result (sym c.in-Some-get.ensures) c.raise_left.ensures.joins
    (λ left right tree low high raised.
    record { turned = λ less. raised; same = λ le. absurd (omega (arith, le, low, high, c.height.ensures, c.height-in-Some-get.ensures, c.if-height.true)) }))

pub returns-else-height-clause-turns : goal.returns-else-height-clause-turns
returns-else-height-clause-turns c =
    let old = c.args.pool.now.slots in
    subst (λ (r : Option Slot). Rebuilds LeansRight old old r (Some c.in-Some.slot)) (sym c.in-Some.is)
    (unturned_at LeansRight old c.in-Some.slot c.in-Some-get.node (sym c.in-Some-get.ensures)
    (λ left right low high.
    record { turned = λ less. absurd (omega (arith, less, low, high, c.height.ensures, c.height-in-Some-get.ensures, c.if-height.false)); same = λ le. refl }))
