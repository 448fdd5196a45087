use Rattle.std.proofs.Common.{◌∙◌, sym, ap}
use Rattle.keel_group.specs.Queue.{ops_count}
use Rattle.keel_group.proofs.Zipping.{same_items, shown_batches}
use Rattle.keel_group.proofs.wait_queue.WaitQueue.waiting_ops.Goals as goal

pub returns : goal.returns
returns c =
    c.ops_count.ensures
    ∙ ap ops_count (c.as_slice.ensures.value ∙ sym (shown_batches _ _ _ (same_items _ _ c.self.view_is) c.self.invariant.as_many))
