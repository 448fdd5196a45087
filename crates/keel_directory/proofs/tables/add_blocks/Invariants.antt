use Rattle.std.proofs.Common.{◌≡◌, ◌++◌, drop}
use Rattle.keel_directory.specs.TableFiles as spec
use Rattle.keel_directory.proofs.tables.add_blocks.Given as goal

-- the rows so far, with those of the blocks that are left, are all
abbrev pub invariant-loop-entry : goal.invariant-loop-entry
invariant-loop-entry l = l.rows.items ++ spec.block_rows l.bytes l.before (drop l.entry-index l.entries) ≡ l.initial.rows.items ++ spec.block_rows l.bytes l.fn.before l.entries
