use Rattle.std.proofs.Common.{rules, length}
use Rattle.std.proofs.lemmas.Result.{err_from_is_err_and}
use Rattle.keel_table.specs.Walking.{key_asked}
use Rattle.keel_table.proofs.Walk.{walk_begins, walk_goes_on, walk_done, walk_fails, walk_spent}
use Rattle.keel_table.proofs.reading.rows_at.Goals as goal

pub returns-in_err-row : goal.returns-in_err-row
returns-in_err-row c =
    let p = err_from_is_err_and c.from_residual.result c.from_residual.ensures.1 in
    rw (p.1, p.2) (walk_fails c.in_err-row.field-0.0 (key_asked c.args.asked) _ c.loop.counter c.args.before.now c.args.last.now c.args.bytes.now c.loop.key.now c.loop.rest.now c.loop.rows c.loop-test.true c.in_err-row.ensures c.loop.invariant)

pub returns-then-is_empty : goal.returns-then-is_empty
returns-then-is_empty c =
    walk_done (key_asked c.args.asked) _ c.loop.counter c.args.before.now c.args.last.now c.args.bytes.now c.loop.key.now c.loop.rest.now c.in_ok-row.after.now c.loop.rows c.take_asked.new.rows _ c.loop-test.true c.in_ok-row.ensures (search rules) c.in_ok-take_asked.ensures c.loop.invariant

pub loop-preserved : goal.loop-preserved
loop-preserved c =
    walk_goes_on (key_asked c.args.asked) _ c.loop.counter c.args.before.now c.args.last.now c.args.bytes.now c.loop.key.now c.loop.rest.now c.in_ok-row.after.now c.loop.rows c.take_asked.new.rows _ c.loop-test.true c.in_ok-row.ensures (search rules) c.in_ok-take_asked.ensures c.loop.invariant

pub returns : goal.returns
returns c = walk_spent (key_asked c.args.asked) _ c.loop.counter c.args.before.now c.args.last.now c.args.bytes.now c.loop.key.now c.loop.rest.now c.loop.rows c.loop-test.false c.loop.invariant

pub loop-init : goal.loop-init
loop-init c = rw c.new-rows.ensures (walk_begins (key_asked c.args.asked) (length c.args.bytes.now) c.args.before.now c.args.last.now c.args.bytes.now)
