use Rattle.std.proofs.Common.{◌≡◌, Option, None, Some, length, set, sym, ap, subst, ◌∙◌, arith}
use Rattle.std.proofs.lemmas.List.{length-set, get_or_default}
use Rattle.std.specs.Prelude.{◌<◌, is_some}
use Rattle.keel_region.specs.declared.pool.Node.{Node}
use Rattle.keel_region.specs.Slots.{node_at, IsPool, PoolShown}
use Rattle.keel_region.proofs.Vacancies.{given_pool, taken_there}
use Rattle.keel_region.proofs.pool.Pool.give_back.Goals as goal

pub invariant_of-self : goal.invariant_of-self
invariant_of-self c =
    let slots = c.self.inside.nodes.items in
    let free = c.self.inside.free.items in
    let place = c.args.slot.place in
    let none : Option Node = None in
    let there : place < length slots = taken_there slots place (ap (λ (p : PoolShown). is_some (node_at p.slots place)) c.self.view_is ∙ c.requires) in
    let is : node_at slots place ≡ Some c.in-Some.node = get_or_default slots place None c.index.result.now there ∙ sym c.index.ensures ∙ c.in-Some.is in
    record {
      pool = subst (IsPool (set slots place None)) (sym c.push_reserved.ensures.items) (given_pool slots free place c.in-Some.node c.self.invariant.pool is);
      room = omega (arith, length-set slots place none, c.self.invariant.room, c.push_reserved.ensures.capacity);
    }
