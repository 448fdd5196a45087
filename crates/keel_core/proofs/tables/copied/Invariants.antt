use Rattle.std.proofs.Common.{◌≡◌, ◌++◌, drop}
use Rattle.keel_core.proofs.tables.copied.Given as goal

-- the copies with the entries that are left are all
abbrev pub invariant-loop-entry : goal.invariant-loop-entry
invariant-loop-entry l = l.copies ++ drop l.entry-index l.entries ≡ l.entries
