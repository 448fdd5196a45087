use Rattle.std.proofs.Common.{refl, ap, arith}
use Rattle.keel_mem.specs.Shown.{MemShown}
use Rattle.keel_mem.specs.Totals.{weight_of}
use Rattle.keel_mem.proofs.Putting.{reserved_sound}
use Rattle.keel_mem.proofs.mem.Mem.reserve_ops.Goals as goal

pub invariant_of-self-2 : goal.invariant_of-self-2
invariant_of-self-2 c =
    let region = c.self.inside.region in
    let index = c.self.inside.index in
    let fits = c.if-not-has_weight_for.ensures.0 refl in
    reserved_sound region c.reserve.new.self index c.reserve-2.new.self c.self.inside.free_bytes c.self.inside.free_entries c.in_ok-bytes.bytes c.in_ok-entries.entries
    c.self.inside.first c.self.inside.last c.self.invariant c.reserve.ensures.bytes c.reserve-2.ensures.entries c.in_ok-reserve.ensures.ok c.in_ok-reserve-2.ensures.ok
    (omega (arith, fits, ap (λ (m : MemShown). weight_of m.rows) c.self.view_is))
