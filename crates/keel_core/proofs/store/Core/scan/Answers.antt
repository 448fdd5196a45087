use Rattle.std.proofs.Common.{sym, subst, ◌∙◌}
use Rattle.keel_core.specs.Scans.{AreRanges, rows_held}
use Rattle.keel_core.specs.Views.{CoreView}
use Rattle.keel_core.proofs.Answering.{scanned_goes}
use Rattle.keel_core.proofs.store.Core.scan.Goals as goal

pub returns : goal.returns
returns g c =
    let r = c.rows_between-found.ensures in
    let taken = c.in-Ok-take.ensures.ok in
    let ranges = subst (λ (v : CoreView). AreRanges c.args.from.now c.args.to.now (rows_held v.immutable v.rows) c.in-Ok.front) (sym c.self.view_is) c.in-Ok.ensures in
    record {
      turn = rw (← c.self.view_is, c.put_back.ensures) (scanned_goes _ c.args.from.now c.args.to.now _ c.rows_between-found.new.self c.in-Ok.front c.rows_between-found.result c.scanned.result ranges c.scanned.ensures
          (λ order told files seen readable opened. r.reads order told files seen readable (taken.opened files opened)) (r.tables ∙ taken.entries_now ∙ sym taken.entries_before) r.quiet);
    }
