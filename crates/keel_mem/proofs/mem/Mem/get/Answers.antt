use Rattle.std.proofs.Common.{refl, sym, ap, ◌∙◌}
use Rattle.std.specs.Option.{option_map}
use Rattle.keel_base.specs.Rows.{newest}
use Rattle.keel_mem.specs.Shown.{MemShown, row_in}
use Rattle.keel_mem.proofs.Answering.{finds_none, finds_some}
use Rattle.keel_mem.proofs.Newest.{newest_in, found_held}
use Rattle.keel_mem.proofs.mem.Mem.get.Goals as goal

pub returns-in_err-entry : goal.returns-in_err-entry
returns-in_err-entry c =
    let bytes = c.self.inside.region.bytes in
    let key = c.args.key.now in
    finds_none (newest key c.args.self.now.rows) c.from_residual.result
    (ap (λ (m : MemShown). newest key m.rows) (sym c.self.view_is) ∙ newest_in bytes key c.self.inside.index.entries c.self.invariant.order
    ∙ ap (option_map (row_in bytes)) (sym c.in_err-entry.ensures))
    c.from_residual.ensures

pub bytes-requires : goal.bytes-requires
bytes-requires c =
    (found_held c.self.inside.region.bytes c.args.key.now c.self.inside.index.entries c.in_ok-entry.entry c.self.invariant.held (sym c.in_ok-entry.ensures)).value

pub returns : goal.returns
returns c =
    let bytes = c.self.inside.region.bytes in
    let key = c.args.key.now in
    finds_some (newest key c.args.self.now.rows) (row_in bytes c.in_ok-entry.entry) _
    (ap (λ (m : MemShown). newest key m.rows) (sym c.self.view_is) ∙ newest_in bytes key c.self.inside.index.entries c.self.invariant.order
    ∙ ap (option_map (row_in bytes)) (sym c.in_ok-entry.ensures))
    (record { seq = refl; kind = refl; value = c.bytes.ensures })
