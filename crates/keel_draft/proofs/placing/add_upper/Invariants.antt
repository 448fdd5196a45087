use Rattle.std.proofs.Common.{◌≡◌, ◌==◌, ◌++◌, drop, filter}
use Rattle.keel_edit.specs.declared.edit.Added.{Added}
use Rattle.keel_draft.proofs.placing.add_upper.Given as goal

-- what was added with what is still to be added is all
abbrev pub invariant-loop-table : goal.invariant-loop-table
invariant-loop-table l =
    l.tables ++ filter (λ (table : Added). table.level == 0) (drop l.table-index l.live) ≡ l.initial.tables ++ filter (λ (table : Added). table.level == 0) l.live
