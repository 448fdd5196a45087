use Rattle.std.proofs.Common.{sym, ◌∙◌}
use Rattle.keel_group.proofs.Zipping.{same_items, shown_batches}
use Rattle.keel_group.proofs.wait_queue.WaitQueue.batches.Goals as goal

pub returns-clause-batches : goal.returns-clause-batches
returns-clause-batches c = c.as_slice.ensures.value ∙ sym (shown_batches _ _ _ (same_items _ _ c.self.view_is) c.self.invariant.as_many)
