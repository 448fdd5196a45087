use Rattle.std.proofs.Common.{sym, ap, ◌∙◌}
use Rattle.keel_core.specs.Gets.{latest}
use Rattle.keel_core.specs.Views.{CoreView}
use Rattle.keel_core.proofs.Getting.{stored_goes}
use Rattle.keel_core.proofs.store.Core.get_stored.Goals as goal

pub returns : goal.returns
returns g c =
    let r = c.get-found.ensures in
    let taken = c.in-Ok.ensures.ok in
    let none = ap (λ (v : CoreView). latest c.args.key.now v.immutable v.rows) c.self.view_is ∙ c.requires.none in
    record {
      turn = rw (← c.self.view_is, c.put_back.ensures) (stored_goes _ c.args.key.now _ c.get-found.new.self c.get-found.result c.got_stored.result none c.got_stored.ensures
          (λ told files seen readable opened. r.reads told files seen readable (taken.opened files opened)) (r.tables ∙ taken.entries_now ∙ sym taken.entries_before) r.quiet);
    }
