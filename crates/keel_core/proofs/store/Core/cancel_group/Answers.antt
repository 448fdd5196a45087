use Rattle.std.proofs.Common.{ap}
use Rattle.std.specs.Prelude.{is_some}
use Rattle.keel_machine.specs.declared.answers.Outcome.TheVariants as outcome
use Rattle.keel_core.specs.Flights.{flying, tickets_flying}
use Rattle.keel_core.proofs.Ordering.{cancelled_in_order, given_settled}
use Rattle.keel_core.proofs.StartTests.{number_within}
use Rattle.keel_core.proofs.store.Core.cancel_group.Goals as goal

pub invariant_of-self : goal.invariant_of-self
invariant_of-self g c =
    let w = c.self.inside in
    let q = c.cancel.ensures in
    cancelled_in_order w.mem w.trail w.queue c.cancel.new.self _ w.last_seq w.handed_seq w.next_file.number _ c.self.invariant
    (ap (λ v. v.items) q.waiting) q.group q.outcomes q.len q.room q.last_ticket
    (number_within (is_some (flying w.queue.group)) w.queue.job _ c.self.invariant.job (rw (← c.self.view_is) at c.requires) q.job)
    (given_settled (outcome.Failed c.args.failure) (tickets_flying (flying w.queue.group)) tt)
