use Rattle.std.proofs.Common.{◌∙◌, sym}
use Rattle.keel_group.proofs.Zipping.{same_items, shown_tickets}
use Rattle.keel_group.proofs.wait_queue.WaitQueue.tickets.Goals as goal

pub returns : goal.returns
returns c = c.as_slice.ensures.value ∙ sym (shown_tickets _ _ _ (same_items _ _ c.self.view_is) c.self.invariant.as_many)
