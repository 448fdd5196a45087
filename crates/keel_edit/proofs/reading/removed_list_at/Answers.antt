use Rattle.std.proofs.lemmas.Result.{err_from_is_err_and}
use Rattle.keel_fields.specs.Reading.{many_at}
use Rattle.keel_fields.proofs.Loop.{goes_on, ends, is_done}
use Rattle.keel_edit.specs.Reading.{removed_at}
use Rattle.keel_edit.proofs.reading.removed_list_at.Goals as goal

pub returns-in_err-table : goal.returns-in_err-table
returns-in_err-table c =
    let p = err_from_is_err_and c.from_residual.result c.from_residual.ensures.1 in
    rw (p.1, p.2) (ends c.in_err-table.field-0.0 removed_at c.loop.tables c.args.count c.loop.counter c.loop.rest.now (many_at removed_at c.args.count c.args.bytes.now) c.loop-test.true c.in_err-table.ensures c.loop.invariant)

pub loop-preserved : goal.loop-preserved
loop-preserved c =
    rw c.in_ok-push.ensures.ok (goes_on removed_at c.loop.tables c.args.count c.loop.counter c.loop.rest.now c.in_ok-table.table c.in_ok-table.after.now (many_at removed_at c.args.count c.args.bytes.now) c.loop-test.true c.in_ok-table.ensures c.loop.invariant)

pub returns : goal.returns
returns c = is_done removed_at c.loop.tables c.args.count c.loop.counter c.loop.rest.now (many_at removed_at c.args.count c.args.bytes.now) c.loop-test.false c.loop.invariant
