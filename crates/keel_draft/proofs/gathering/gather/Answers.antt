use Rattle.std.proofs.Common.{ℕ, List, [], subst, sym}
use Rattle.std.specs.Prelude.{All}
use Rattle.std.proofs.lemmas.List.Elements.{All-head}
use Rattle.keel_base.specs.declared.row.Row.{Row}
use Rattle.keel_base.specs.Rows.{IsRow}
use Rattle.keel_mem.specs.RowShown.{row_shown}
use Rattle.keel_mem.specs.Totals.{greatest_seq}
use Rattle.keel_draft.specs.Gathering.{HasGathered}
use Rattle.keel_draft.proofs.Newest.{IsGathering, begins, adds, skips}
use Rattle.keel_draft.proofs.gathering.gather.Goals as goal

pub rows-init : goal.rows-init
rows-init c =
    let all = c.args.mem.now.rows in
    let g = c.in_ok-gathering.gathering in
    begins all c.rows-rows.result g c.rows-rows.ensures.same c.rows-rows.ensures.order c.rows-rows.ensures.limits
    (subst (λ (first : ℕ). HasGathered first (greatest_seq all) [] g) c.first.ensures
    (subst (λ (last : ℕ). HasGathered c.first.result last [] g) c.last.ensures.value c.in_ok-gathering.ensures))

pub add-requires-clause-is_row : goal.add-requires-clause-is_row
add-requires-clause-is_row c =
    All-head IsRow (row_shown c.in-Some.row) c.next.new.self (subst (λ (rows : List Row). All IsRow rows) c.in-Some.ensures.steps c.rows.invariant.limits)

pub rows-preserved-in-Continue-branch-2 : goal.rows-preserved-in-Continue-branch-2
rows-preserved-in-Continue-branch-2 c =
    adds c.args.mem.now.rows c.next.new.self (row_shown c.in-Some.row) c.rows.gathering c.add.new.self
    (subst (λ (rows : List Row). IsGathering c.args.mem.now.rows rows c.rows.gathering) c.in-Some.ensures.steps c.rows.invariant) c.in_ok-add.ensures

pub rows-preserved : goal.rows-preserved
rows-preserved c =
    skips c.args.mem.now.rows c.next.new.self (row_shown c.in-Some.row) c.rows.gathering
    (subst (λ (rows : List Row). IsGathering c.args.mem.now.rows rows c.rows.gathering) c.in-Some.ensures.steps c.rows.invariant) (sym c.if-is_below.ensures)
