use Rattle.std.proofs.Common.{◌≡◌, true, sym, ap, ◌∙◌}
use Rattle.keel_disk.specs.Seen.{Seen}
use Rattle.keel_cli.specs.Stores.{Shows}
use Rattle.keel_cli.proofs.Carrying.{crashed, crash_cut, dropped, not_crashed_on, shows_as, stayed}
use Rattle.keel_cli.proofs.store.Store.crash.Goals as goal
use Rattle.keel_cli.proofs.store.Store.crash.Goals.{in-Ok, in-Err}

pub returns-then-not-simulated : goal.returns-then-not-simulated
returns-then-not-simulated g c s stands covered =
    let pick = c.args.pick in
    not_crashed_on c.args.options.now s pick.dirops pick.keep pick.garbage pick.seed c.args.self.now stands (sym (c.if-not-simulated.ensures s stands))

pub returns : goal.returns
returns g c s stands covered =
    let pick = c.args.pick in
    let before : Seen = g.V.Disk.seen c.take_device-device.result in
    let behind : Seen = g.V.Disk.seen c.crash-crashed.new.self in
    let did = c.crash-crashed.ensures in
    let shown : Shows c.args.self.now before = rw c.self.view_is at c.take_device-device.ensures in
    let is : s.state.device ≡ before = sym (shows_as c.args.self.now s before stands shown) in
    let simulated : before.simulated ≡ true = ap (λ (d : Seen). d.simulated) (sym is) ∙ sym (c.if-not-simulated.ensures s stands) in
    elim c.match-crashed.branch [
      | in-Ok w ↦
          rw w.result-is
          (crashed c.args.options.now s pick.dirops pick.keep pick.garbage pick.seed behind covered
          (dropped s.state pick before behind w.in-Ok.field-0 is simulated (rw w.in-Ok.is at did.answer) (rw w.in-Ok.is at did.told) (rw w.in-Ok.is at did.rest)))
      | in-Err w ↦
          rw w.result-is
          (crash_cut c.args.options.now s pick.dirops pick.keep pick.garbage pick.seed behind _
          (stayed pick before behind w.in-Err.field-0 (rw w.in-Err.is at did.told) (rw w.in-Err.is at did.rest) ∙ sym is))
    ]
