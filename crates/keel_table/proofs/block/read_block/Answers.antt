use Rattle.std.proofs.Common.{List, ℕ}
use Rattle.keel_base.specs.declared.row.Row.{Row}
use Rattle.keel_table.specs.Opening.{checked_at, rows_in, block_found}
use Rattle.keel_table.proofs.Composing.{found_behind, failed_behind}
use Rattle.keel_table.proofs.block.read_block.Goals as goal

pub returns-in-Ok-clause-answer : goal.returns-in-Ok-clause-answer
unfolding block_found
returns-in-Ok-clause-answer g c =
    found_behind (λ (rows : List Row). rows) (checked_at c.args.entry.now.offset c.args.entry.now.size) (rows_in c.args.before.now c.args.entry.now) c.args.number (g.D.Disk.seen c.args.disk.now).told c.in-Ok.body c.rows_in.result
    c.in-Ok.ensures.answer (rw c.as_slice.ensures at c.rows_in.ensures.found)

pub returns-in-Err-clause-answer : goal.returns-in-Err-clause-answer
unfolding block_found
returns-in-Err-clause-answer g c =
    failed_behind (λ (rows : List Row). rows) (checked_at c.args.entry.now.offset c.args.entry.now.size) (λ (_ : List ℕ). rows_in c.args.before.now c.args.entry.now) c.args.number (g.D.Disk.seen c.args.disk.now).told c.in-Err.fault c.in-Err.ensures.answer
