use Rattle.std.proofs.Common.{ap}
use Rattle.keel_machine.specs.declared.answers.Outcome.TheVariants as outcome
use Rattle.keel_core.specs.Flights.{flying, tickets_flying}
use Rattle.keel_core.proofs.Ordering.{over_in_order, given_settled}
use Rattle.keel_core.proofs.store.Core.give_up.Goals as goal

pub invariant_of-self : goal.invariant_of-self
invariant_of-self g c =
    let w = c.self.inside in
    let q = c.settle.ensures in
    over_in_order w.mem w.trail w.queue c.settle.new.self _ w.last_seq w.handed_seq w.next_file.number _ c.self.invariant
    (record { waiting = ap (λ v. v.items) q.waiting; group = q.group; added = q.outcomes; len = q.len; room = q.room; ticket = q.last_ticket; job = q.job })
    (given_settled (outcome.Failed c.log_failure-failure.result) (tickets_flying (flying w.queue.group)) tt)
