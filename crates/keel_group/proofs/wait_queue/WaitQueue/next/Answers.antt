use Rattle.std.proofs.Common.{ap, sym, take, ◌∙◌}
use Rattle.std.proofs.lemmas.List.{length-take-le}
use Rattle.keel_group.specs.Sizes.{group_size}
use Rattle.keel_group.proofs.Zipping.{same_items, shown_batches}
use Rattle.keel_group.proofs.wait_queue.WaitQueue.next.Goals as goal

pub returns-clause-batches : goal.returns-clause-batches
returns-clause-batches c =
    ap (λ k. take k c.as_slice-batches.result.now) c.group_size.ensures.size
    ∙ ap (λ l. take (group_size l) l) (c.as_slice-batches.ensures.value ∙ sym (shown_batches _ _ _ (same_items _ _ c.self.view_is) c.self.invariant.as_many))

pub returns-clause-count : goal.returns-clause-count
returns-clause-count c =
    length-take-le _ _ c.group_size.ensures.within
    ∙ c.group_size.ensures.size
    ∙ ap group_size (c.as_slice-batches.ensures.value ∙ sym (shown_batches _ _ _ (same_items _ _ c.self.view_is) c.self.invariant.as_many))
