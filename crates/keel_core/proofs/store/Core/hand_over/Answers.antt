use Rattle.std.proofs.Common.{ap, ◌∙◌}
use Rattle.keel_machine.specs.Admission.{ops_of}
use Rattle.keel_draft.specs.Drafts.{count_ops}
use Rattle.keel_core.proofs.Ordering.{handed_in_order}
use Rattle.keel_core.proofs.store.Core.hand_over.Goals as goal

pub invariant_of-self : goal.invariant_of-self
invariant_of-self g c =
    let w = c.self.inside in
    let q = c.take_batches-batches.ensures in
    let t = c.hand.ensures in
    handed_in_order w.mem w.trail c.hand.new.self w.queue c.take_batches-batches.new.self _ w.last_seq w.handed_seq w.next_file.number c.count_ops.result c.take_batches-batches.result.items c.self.invariant
    (record { waiting = ap (λ v. v.items) q.waiting; group = q.group; outcomes = q.outcomes; ticket = q.last_ticket; job = q.job })
    q.batches (c.count_ops.ensures ∙ ap (λ l. count_ops (ops_of l)) c.deref.ensures.value)
    (record { shows = t.shown; limbo = t.limbo; len = t.count; room = t.room })
