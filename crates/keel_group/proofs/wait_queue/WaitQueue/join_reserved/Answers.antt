use Rattle.std.proofs.Common.{arith}
use Rattle.keel_group.proofs.Zipping.{same_items, shown_length, pushed_kept, pushed_view}
use Rattle.keel_group.proofs.wait_queue.WaitQueue.join_reserved.Goals as goal

pub invariant_of-self : goal.invariant_of-self
invariant_of-self c =
    pushed_kept _ _ _ _ c.args.ticket c.args.batch c.self.invariant c.requires.admissible
    (omega (arith, c.requires.few, shown_length _ _ _ (same_items _ _ c.self.view_is) c.self.invariant.as_many))
    c.push_reserved-2.ensures.items c.push_reserved.ensures.items

pub returns : goal.returns
returns c = pushed_view _ _ _ _ _ _ _ (same_items _ _ c.self.view_is) c.self.invariant.as_many c.push_reserved-2.ensures.items c.push_reserved.ensures.items
