use Rattle.std.proofs.Common.{◌≡◌, ◌++◌, drop}
use Rattle.keel_draft.proofs.placing.add_all.Given as goal

-- what was added with what is still to be added is all
abbrev pub invariant-loop-table : goal.invariant-loop-table
invariant-loop-table l = l.tables ++ drop l.table-index l.new ≡ l.initial.tables ++ l.new
