use Rattle.keel_machine.specs.declared.answers.Outcome.TheVariants as outcome
use Rattle.keel_group.specs.Queue.{tickets_of}
use Rattle.keel_core.proofs.Ordering.{turned_in_order, given_settled}
use Rattle.keel_core.proofs.store.Core.close_queue.Goals as goal

pub invariant_of-self : goal.invariant_of-self
invariant_of-self g c =
    let w = c.self.inside in
    let q = c.turn_away.ensures in
    turned_in_order w.mem w.trail w.queue c.turn_away.new.self _ w.last_seq w.handed_seq w.next_file.number _ c.self.invariant
    q.waiting q.group q.outcomes (given_settled outcome.Closed (tickets_of w.queue.waiting.items) tt) q.len q.room q.last_ticket q.job
