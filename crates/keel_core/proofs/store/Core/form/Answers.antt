use Rattle.keel_core.proofs.Entering.{entered_in_order}
use Rattle.keel_core.proofs.store.Core.form.Goals as goal

pub invariant_of-self : goal.invariant_of-self
invariant_of-self g c =
    let w = c.self.inside in
    let q = c.form.ensures in
    entered_in_order w.mem w.trail w.queue c.form.new.self c.is_full-switches.result _ w.last_seq w.handed_seq w.next_file.number c.self.invariant
    (record {
      none = rw (← c.self.view_is) at c.requires.none;
      waiting = q.waiting;
      group = q.group;
      job = q.job;
      outcomes = q.outcomes;
      ticket = q.last_ticket;
      each = q.each;
      few = q.few;
    })
    (rw (← c.self.view_is) at c.requires.job)
