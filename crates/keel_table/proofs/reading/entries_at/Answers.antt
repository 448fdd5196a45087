use Rattle.std.proofs.Common.{◌≡◌, ◌+◌, ◌∙◌, arith, None, sym}
use Rattle.std.proofs.lemmas.Result.{err_from_is_err_and}
use Rattle.keel_table.specs.Fields.{entries_at}
use Rattle.keel_table.proofs.Loops.{entries_end, entries_go_on, entries_done, entries_left}
use Rattle.keel_table.proofs.reading.entries_at.Goals as goal

pub returns-in_err-entry : goal.returns-in_err-entry
returns-in_err-entry c =
    let p = err_from_is_err_and c.from_residual.result c.from_residual.ensures.1 in
    rw (p.1, p.2) (entries_end c.in_err-entry.field-0.0 c.loop.entries c.args.index c.args.blocks c.loop.counter c.loop.offset c.loop.rest.now (entries_at c.args.index c.args.blocks 0 None c.args.bytes.now) c.loop-test.true (rw c.as_slice.ensures at c.in_err-entry.ensures.entry) c.loop.invariant.0)

pub loop-preserved : goal.loop-preserved
loop-preserved c =
    let size : c.loop.offset + (c.from.result + 4) ≡ c.loop.offset + (c.in_ok-entry.entry.size + 4) = omega (arith, c.from.ensures) in
    rw c.in_ok-push.ensures.ok (entries_go_on c.loop.entries c.args.index c.args.blocks c.loop.counter c.loop.offset (c.loop.offset + (c.from.result + 4)) c.loop.rest.now c.in_ok-entry.entry c.in_ok-entry.after.now (entries_at c.args.index c.args.blocks 0 None c.args.bytes.now) c.loop-test.true size (rw c.as_slice.ensures at c.in_ok-entry.ensures.entry) c.loop.invariant.0, omega (arith, c.from.ensures, c.in_ok-entry.ensures.within))

pub returns-then-is_at_end : goal.returns-then-is_at_end
returns-then-is_at_end c = entries_done c.loop.entries c.args.index c.args.blocks c.loop.counter c.loop.offset c.loop.rest.now (entries_at c.args.index c.args.blocks 0 None c.args.bytes.now) c.loop-test.false (sym c.is_at_end.ensures ∙ c.if-is_at_end.true) c.loop.invariant.0

pub returns-else-is_at_end : goal.returns-else-is_at_end
returns-else-is_at_end c = entries_left c.loop.entries c.args.index c.args.blocks c.loop.counter c.loop.offset c.loop.rest.now (entries_at c.args.index c.args.blocks 0 None c.args.bytes.now) c.loop-test.false (sym c.is_at_end.ensures ∙ c.if-is_at_end.false) c.loop.invariant.0
