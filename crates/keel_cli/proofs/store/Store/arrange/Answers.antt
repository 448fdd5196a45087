use Rattle.keel_disk.specs.Seen.{Seen}
use Rattle.keel_cli.specs.Stores.{Stands, StandsForSome, Closed, Open}
use Rattle.keel_cli.proofs.Carrying.{arrange_told, arranged_open, arranged_shut}
use Rattle.keel_cli.proofs.store.Store.arrange.Goals as goal
use Rattle.keel_cli.proofs.store.Store.arrange.Goals.{in-Closed, in-Open}

pub invariant_of-self : goal.invariant_of-self
invariant_of-self g c =
    elim c.match-self.branch [
      | in-Closed w ↦ rw w.self-inside-is tt
      | in-Open w ↦
          let told : StandsForSome w.in-Open.core = rw w.in-Open.is at c.self.invariant in
          rw w.self-inside-is (arrange_told w.in-Open.core w.arrange-in-Open.new.self c.args.rule w.arrange-in-Open.result w.arrange-in-Open.ensures.turn told)
    ]

pub returns : goal.returns
returns g c s stands =
    let D = g.V.Disk in
    elim c.match-self.branch [
      | in-Closed w ↦
          let before : Seen = D.seen w.in-Closed.device in
          let shut : Stands (Closed before) s = rw (← c.self.view_is, w.in-Closed.is) at stands in
          let did = w.arrange.ensures in
          rw (w.self-inside-is, w.result-is)
          (arranged_shut s c.args.rule before (D.seen w.arrange.new.self) w.arrange.result shut did.answer did.told did.rest)
      | in-Open w ↦
          let stood : Stands (Open w.in-Open.core w.in-Open.field-1) s = rw (← c.self.view_is, w.in-Open.is) at stands in
          rw (w.self-inside-is, w.result-is)
          (arranged_open s c.args.rule w.in-Open.core w.arrange-in-Open.new.self w.in-Open.field-1 w.arrange-in-Open.result stood w.arrange-in-Open.ensures.turn)
    ]
