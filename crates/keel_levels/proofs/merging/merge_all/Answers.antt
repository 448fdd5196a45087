use Rattle.std.proofs.Common.{◌≡◌, true, Bool, List, [], length, arith, sym, subst}
use Rattle.keel_base.specs.declared.row.Row.{Row}
use Rattle.keel_merge.specs.Feeding.{MergeState, MayCome, to_come}
use Rattle.keel_merge.specs.Laws.{IsAlong}
use Rattle.keel_merge.specs.Merging.{IsMergeOf, rows_of}
use Rattle.keel_levels.specs.Merging.{GoesOn}
use Rattle.keel_levels.proofs.merging.merge_all.Goals as goal

begins : (lists : List (List Row)) (merge : MergeState) → MayCome merge lists → IsMergeOf (rows_of lists) true (to_come merge lists) → IsAlong lists true [] merge lists
begins lists merge may merges = record { may_come = may; merges = merges }

pub steps-init : goal.steps-init
steps-init c = λ ascending.
    let all : length c.args.lists.items ≡ c.len.result = omega arith in
    subst (λ (rows : List Row). IsAlong c.args.lists.items true rows c.in_ok-merge.merge c.args.lists.items) (sym c.new-rows.ensures)
    (begins c.args.lists.items c.in_ok-merge.merge (c.in_ok-merge.ensures.may_come c.args.lists.items all ascending) (c.in_ok-merge.ensures.merges c.args.lists.items all))

pub returns-then-branch : goal.returns-then-branch
returns-then-branch c = λ ascending.
    let on = c.in_ok-step.ensures c.args.lists.items (c.steps.invariant ascending) in
    subst (λ (ended : Bool). GoesOn c.args.lists.items c.step.new.rows c.step.new.merge c.step.new.lists.items ended) c.if-branch.true on

pub steps-preserved : goal.steps-preserved
steps-preserved c = λ ascending.
    let on = c.in_ok-step.ensures c.args.lists.items (c.steps.invariant ascending) in
    subst (λ (ended : Bool). GoesOn c.args.lists.items c.step.new.rows c.step.new.merge c.step.new.lists.items ended) c.if-branch.false on
