use Rattle.std.proofs.Common.{true, false, refl}
use Rattle.keel_disk.specs.Seen.{Seen}
use Rattle.keel_machine.specs.Turns.{after, Listing}
use Rattle.keel_cli.specs.Jobs.{driven}
use Rattle.keel_cli.specs.Stores.{Stands, StandsForSome, Closed, Open}
use Rattle.keel_cli.proofs.Carrying.{listed, list_answers, list_told, open_mode, open_device}
use Rattle.keel_cli.proofs.store.Store.list.Goals as goal
use Rattle.keel_cli.proofs.store.Store.list.Goals.{in-Closed, in-Open}

pub invariant_of-self : goal.invariant_of-self
invariant_of-self g c =
    elim c.match-self.branch [
      | in-Closed w ↦ rw w.self-inside-is tt
      | in-Open w ↦
          let told : StandsForSome w.in-Open.core = rw w.in-Open.is at c.self.invariant in
          rw w.self-inside-is (list_told w.in-Open.core w.list-in-Open.new.self w.list-in-Open.result w.list-in-Open.ensures.turn told)
    ]

pub returns : goal.returns
returns g c s stands =
    let D = g.V.Disk in
    elim c.match-self.branch [
      | in-Closed w ↦
          let shows : Seen = D.seen w.list.new.self in
          let shut : Stands (Closed (D.seen w.in-Closed.device)) s = rw (← c.self.view_is, w.in-Closed.is) at stands in
          let did = w.list.ensures in
          let answers = list_answers s.state (D.seen w.in-Closed.device) shows w.list.result shut.device did.listing did.order did.quiet in
          rw (w.self-inside-is, w.result-is)
          (listed c.args.options.now s (driven (after s.state (Listing w.list.result) shows) s.jobs) (Closed shows) false w.list.result w.list_answer.result shut.shut
          (record { shut = shut.shut; device = refl; jobs = shut.jobs }) refl (record { turn = (answers, refl); jobs = refl }) w.list_answer.ensures.ok w.list_answer.ensures.err)
      | in-Open w ↦
          let core = w.list-in-Open.new.self in
          let stood : Stands (Open w.in-Open.core w.in-Open.field-1) s = rw (← c.self.view_is, w.in-Open.is) at stands in
          let gone = w.list-in-Open.ensures.turn.goes s.state stood.0 in
          let next = driven (after s.state (Listing w.list-in-Open.result) core.device) s.jobs in
          rw (w.self-inside-is, w.result-is)
          (listed c.args.options.now s next (Open core w.in-Open.field-1) true w.list-in-Open.result w.list_answer-in-Open.result (open_mode w.in-Open.core s.state stood.0)
          (gone.1, stood.1) (open_device core next.state gone.1) (record { turn = (gone.0, refl); jobs = refl }) w.list_answer-in-Open.ensures.ok w.list_answer-in-Open.ensures.err)
    ]
