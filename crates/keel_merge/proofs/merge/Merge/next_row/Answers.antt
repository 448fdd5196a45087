use Rattle.std.proofs.Common.{Some, None}
use Rattle.keel_merge.proofs.Holding.{ended_steps, given_steps, given_may_come, fewer}
use Rattle.keel_merge.proofs.merge.Merge.next_row.Goals as goal

pub returns-in-Ok-None-clause-steps : goal.returns-in-Ok-None-clause-steps
returns-in-Ok-None-clause-steps c = λ coming may.
    ended_steps _ coming c.args.self.now c.rows.self c.take_least.new.self _ (c.rows.invariant.same coming may) (c.rows.invariant.may_come coming may)
    (rw c.in-Ok-None.field-0-is at c.in-Ok-None.ensures) c.last_row.ensures.after c.last_row.ensures.last

pub returns-in-Some-clause-steps : goal.returns-in-Some-clause-steps
returns-in-Some-clause-steps c = λ coming may.
    given_steps coming c.args.self.now c.rows.self c.take_least.new.self _ c.in-Ok-Some.row (Some c.in-Some.done)
    (c.rows.invariant.same coming may) (c.rows.invariant.may_come coming may)
    (rw c.in-Ok-Some.field-0-is at c.in-Ok-Some.ensures) c.in-Some.ensures.after c.in-Some.ensures.given

pub returns-in-Some-clause-may_come : goal.returns-in-Some-clause-may_come
returns-in-Some-clause-may_come c = λ coming may.
    given_may_come coming c.rows.self c.take_least.new.self _ c.in-Ok-Some.row (c.rows.invariant.may_come coming may)
    (rw c.in-Ok-Some.field-0-is at c.in-Ok-Some.ensures) c.in-Some.ensures.after

pub rows-smaller : goal.rows-smaller
rows-smaller c =
    fewer c.rows.self c.take_least.new.self _ c.in-Ok-Some.row _ (rw c.in-Ok-Some.field-0-is at c.in-Ok-Some.ensures) c.in_default.ensures.after

pub rows-preserved : goal.rows-preserved
rows-preserved c = record {
  may_come = λ coming may.
      given_may_come coming c.rows.self c.take_least.new.self _ c.in-Ok-Some.row (c.rows.invariant.may_come coming may)
      (rw c.in-Ok-Some.field-0-is at c.in-Ok-Some.ensures) c.in_default.ensures.after;
  same = λ coming may.
      given_steps coming c.args.self.now c.rows.self c.take_least.new.self _ c.in-Ok-Some.row None
      (c.rows.invariant.same coming may) (c.rows.invariant.may_come coming may)
      (rw c.in-Ok-Some.field-0-is at c.in-Ok-Some.ensures) c.in_default.ensures.after c.in_default.ensures.given;
}
