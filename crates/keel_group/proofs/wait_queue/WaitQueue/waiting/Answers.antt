use Rattle.std.proofs.Common.{arith}
use Rattle.keel_group.proofs.Zipping.{same_items, shown_length}
use Rattle.keel_group.proofs.wait_queue.WaitQueue.waiting.Goals as goal

pub returns-clause-count : goal.returns-clause-count
returns-clause-count c = omega (arith, shown_length _ _ _ (same_items _ _ c.self.view_is) c.self.invariant.as_many)
