use Rattle.std.proofs.Common.{◌++◌, ◌∷◌, [], refl, ap, ◌∙◌, length, arith}
use Rattle.keel_group.specs.Queue.{ticketed}
use Rattle.keel_group.proofs.Zipping.{same_items, shown_length}
use Rattle.keel_group.proofs.wait_queue.WaitQueue.join.Goals as goal

pub returns-then-len : goal.returns-then-len
returns-then-len c = record {
  full = omega (arith, shown_length _ _ _ (same_items _ _ c.self.view_is) c.self.invariant.as_many);
  number = omega arith;
  kept = refl;
}

pub returns-then-is_err : goal.returns-then-is_err
returns-then-is_err c = record {
  room = omega (arith, shown_length _ _ _ (same_items _ _ c.self.view_is) c.self.invariant.as_many);
  kept = c.reserve.ensures.items;
}

pub join_reserved-requires-clause-few : goal.join_reserved-requires-clause-few
join_reserved-requires-clause-few c = omega (arith, ap length c.reserve.ensures.items, shown_length _ _ _ (same_items _ _ c.self.view_is) c.self.invariant.as_many)

pub returns : goal.returns
returns c = record {
  room = omega (arith, shown_length _ _ _ (same_items _ _ c.self.view_is) c.self.invariant.as_many);
  added = c.join_reserved.ensures ∙ ap (λ l. l ++ ticketed c.args.ticket c.args.batch ∷ []) c.reserve.ensures.items;
}
