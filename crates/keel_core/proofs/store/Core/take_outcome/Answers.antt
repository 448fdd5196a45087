use Rattle.std.proofs.Common.{sym, ap, ◌∙◌}
use Rattle.keel_core.specs.Flights.{flying}
use Rattle.keel_core.proofs.Admitting.{taken_goes, waits_left}
use Rattle.keel_core.proofs.Ordering.{taken_in_order}
use Rattle.keel_core.proofs.store.Core.take_outcome.Goals as goal

pub invariant_of-self : goal.invariant_of-self
invariant_of-self g c =
    let w = c.self.inside in
    let q = c.take_outcome.ensures in
    taken_in_order w.mem w.trail w.queue c.take_outcome.new.self _ w.last_seq w.handed_seq w.next_file.number c.args.ticket c.self.invariant
    (ap (λ v. v.items) q.waiting) q.group q.outcomes q.len q.room q.last_ticket q.job

pub returns-clause-turn : goal.returns-clause-turn
returns-clause-turn g c =
    let q = c.take_outcome.ensures in
    rw (← c.self.view_is, q.waiting, q.group, q.outcomes, q.last_ticket, q.job) (taken_goes _ c.args.ticket c.take_outcome.result q.outcome)

pub returns-clause-waits : goal.returns-clause-waits
returns-clause-waits g c =
    let q = c.take_outcome.ensures in
    let w = c.self.inside in
    rw (← c.self.view_is) (λ waits. waits_left (flying w.queue.group) w.queue.waiting.items w.queue.outcomes.items c.args.ticket c.self.invariant.staged c.self.invariant.settled (sym q.outcome ∙ waits))
