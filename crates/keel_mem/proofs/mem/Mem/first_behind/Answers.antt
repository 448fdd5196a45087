use Rattle.std.proofs.Common.{◌∙◌, sym, ap, arith}
use Rattle.keel_mem.specs.Shown.{MemShown}
use Rattle.keel_mem.specs.Totals.{first_of}
use Rattle.keel_mem.proofs.Putting.{first_where_none, first_where_some}
use Rattle.keel_mem.proofs.mem.Mem.first_behind.Goals as goal

pub returns-then-len-eq0 : goal.returns-then-len-eq0
returns-then-len-eq0 c =
    sym (first_where_none c.self.inside.region.bytes c.self.inside.index.entries c.args.seq (sym c.len.ensures.count ∙ c.if-len-eq0.true))
    ∙ ap (λ (m : MemShown). first_of m.rows c.args.seq) c.self.view_is

pub returns-else-len-eq0 : goal.returns-else-len-eq0
returns-else-len-eq0 c =
    c.self.invariant.first_is
    ∙ sym (first_where_some c.self.inside.region.bytes c.self.inside.index.entries c.args.seq (omega (arith, c.len.ensures.count, c.if-len-eq0.false)))
    ∙ ap (λ (m : MemShown). first_of m.rows c.args.seq) c.self.view_is
