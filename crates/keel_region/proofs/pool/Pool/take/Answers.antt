use Rattle.std.proofs.Common.{◌≡◌, ◌-◌, ◌<◌, ℕ, length, take, get_or, set, Some, sym, ap, subst, ◌∙◌, arith}
use Rattle.keel_region.specs.Slots.{IsPool, PoolShown}
use Rattle.keel_region.proofs.Vacancies.{taken_pool}
use Rattle.keel_region.proofs.pool.Pool.take.Goals as goal
use Rattle.std.proofs.lemmas.List.{length-set}

pub invariant_of-self : goal.invariant_of-self
invariant_of-self c =
    let slots = c.self.inside.nodes.items in
    let free = c.self.inside.free.items in
    let place = c.index-place.result.now in
    let count : c.len.result ≡ length free = omega (arith, c.len.ensures, c.self.inside.free.ok.0) in
    let count_again : c.len-2.result ≡ length free = omega (arith, c.len-2.ensures, c.self.inside.free.ok.0) in
    let some : 0 < length free = omega (arith, c.requires, ap (λ (p : PoolShown). p.spare) c.self.view_is) in
    let last : place ≡ get_or free (length free - 1) place = c.index-place.ensures ∙ ap (λ (n : ℕ). get_or free (n - 1) place) count in
    let left : c.truncate.new.self.items ≡ take (length free - 1) free = c.truncate.ensures.items ∙ ap (λ (n : ℕ). take (n - 1) free) count_again in
    record {
      pool = subst (IsPool (set slots place (Some c.args.node))) (sym left) (taken_pool slots free place c.args.node c.self.invariant.pool some last);
      room = omega (arith, length-set slots place (Some c.args.node), c.self.invariant.room, c.truncate.ensures.capacity);
    }
