use Rattle.std.proofs.Common.{ap, sym, ◌∙◌, length, drop, arith}
use Rattle.std.proofs.lemmas.List.{length-take-le}
use Rattle.keel_group.specs.Forming.{wants_sync}
use Rattle.keel_group.proofs.Zipping.{same_items, dropped_view}
use Rattle.keel_group.proofs.Dividing.{shown_within, shown_next, moved, moved_tickets, each_taken}
use Rattle.keel_group.proofs.wait_queue.WaitQueue.take_next.Goals as goal

pub move_front-requires-clause-some : goal.move_front-requires-clause-some
move_front-requires-clause-some c = omega (arith, shown_within _ _ _ (same_items _ _ c.self.view_is) c.self.invariant.as_many)

pub move_front-requires-2-clause-some : goal.move_front-requires-2-clause-some
move_front-requires-2-clause-some c = omega (arith, shown_within _ _ _ (same_items _ _ c.self.view_is) c.self.invariant.as_many)

pub returns-clause-formed : goal.returns-clause-formed
returns-clause-formed c =
    let batches = moved _ _ _ _ _ c.next-group.ensures.count c.requires.no_batches c.move_front.ensures.to in
    let tickets = moved _ _ _ _ _ c.next-group.ensures.count c.requires.no_tickets c.move_front-2.ensures.to in
    let next = shown_next _ _ _ (same_items _ _ c.self.view_is) c.self.invariant.as_many in
    record {
      batches = batches ∙ next;
      tickets = tickets ∙ moved_tickets _ _ _ (same_items _ _ c.self.view_is) c.self.invariant.as_many;
      sync = c.wants_sync-formed.ensures ∙ ap wants_sync c.next-group.ensures.batches;
      each = each_taken _ _ _ batches c.self.invariant.each;
      count = ap length (batches ∙ next ∙ sym c.next-group.ensures.batches) ∙ c.next-group.ensures.count;
      as_many = ap length tickets ∙ length-take-le _ _ (omega (arith, shown_within _ _ _ (same_items _ _ c.self.view_is) c.self.invariant.as_many));
      few = omega (arith, shown_within _ _ _ (same_items _ _ c.self.view_is) c.self.invariant.as_many);
    }

pub returns-clause-rest : goal.returns-clause-rest
returns-clause-rest c =
    dropped_view _ _ _ _ _ _ (same_items _ _ c.self.view_is) c.self.invariant.as_many
    (c.move_front-2.ensures.from ∙ ap (λ n. drop n c.self.inside.tickets.items) c.next-group.ensures.count)
    (c.move_front.ensures.from ∙ ap (λ n. drop n c.self.inside.batches.items) c.next-group.ensures.count)
