use Rattle.std.proofs.Common.{List, ℕ, Option, Err}
use Rattle.keel_base.specs.declared.row.Row.{Row}
use Rattle.keel_table.specs.Opening.{checked_at, rows_in}
use Rattle.keel_table.specs.Walking.{row_among}
use Rattle.keel_table.proofs.Composing.{found_behind, failed_behind}
use Rattle.keel_table.proofs.Walk.{row_answers}
use Rattle.keel_table.proofs.block.read_row.Goals as goal

pub returns-in-Ok-clause-answer : goal.returns-in-Ok-clause-answer
returns-in-Ok-clause-answer g c =
    row_answers c.args.key.now c.args.before.now c.args.entry.now c.args.number (g.D.Disk.seen c.args.disk.now).told c.row_in.result
    (found_behind (λ (row : Option Row). row) (checked_at c.args.entry.now.offset c.args.entry.now.size) (λ (body : List ℕ). row_among c.args.key.now (rows_in c.args.before.now c.args.entry.now body)) c.args.number (g.D.Disk.seen c.args.disk.now).told c.in-Ok.body c.row_in.result
    c.in-Ok.ensures.answer (rw c.as_slice.ensures at c.row_in.ensures.found))

pub returns-in-Err-clause-answer : goal.returns-in-Err-clause-answer
returns-in-Err-clause-answer g c =
    row_answers c.args.key.now c.args.before.now c.args.entry.now c.args.number (g.D.Disk.seen c.args.disk.now).told (Err c.in-Err.fault)
    (failed_behind (λ (row : Option Row). row) (checked_at c.args.entry.now.offset c.args.entry.now.size) (λ (_ body : List ℕ). row_among c.args.key.now (rows_in c.args.before.now c.args.entry.now body)) c.args.number (g.D.Disk.seen c.args.disk.now).told c.in-Err.fault c.in-Err.ensures.answer)
