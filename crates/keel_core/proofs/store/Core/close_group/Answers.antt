use Rattle.std.proofs.Common.{ap}
use Rattle.std.specs.Prelude.{is_some}
use Rattle.keel_machine.specs.declared.answers.Outcome.TheVariants as outcome
use Rattle.keel_core.specs.Flights.{flying, tickets_flying}
use Rattle.keel_core.proofs.Ordering.{cancelled_in_order, given_settled}
use Rattle.keel_core.proofs.Shutdowns.{number_kept}
use Rattle.keel_core.proofs.store.Core.close_group.Goals as goal

pub invariant_of-self : goal.invariant_of-self
invariant_of-self g c =
    let w = c.self.inside in
    let q = c.close_group.ensures in
    cancelled_in_order w.mem w.trail w.queue c.close_group.new.self _ w.last_seq w.handed_seq w.next_file.number _ c.self.invariant
    (ap (λ v. v.items) q.waiting) q.group q.outcomes q.len q.room q.last_ticket
    (number_kept (is_some (flying w.queue.group)) w.queue.job _ c.self.invariant.job q.job)
    (given_settled outcome.Closed (tickets_flying (flying w.queue.group)) tt)
