use Rattle.std.proofs.Common.{refl}
use Rattle.keel_disk.specs.Seen.{Seen}
use Rattle.keel_machine.specs.States.{Unknown}
use Rattle.keel_cli.specs.Sessions.{unopened}
use Rattle.keel_cli.specs.Stores.{Shows}
use Rattle.keel_cli.proofs.Carrying.{expected, opened_run, opened_told, refused_run, shut_where}
use Rattle.keel_cli.proofs.store.Store.open.Goals as goal

pub invariant_of-self : goal.invariant_of-self
invariant_of-self g c =
    let shows : Seen = g.V.Disk.seen c.take_device-device.result in
    opened_told c.args.options.now c.in-Ok.core (unopened Unknown shows) (c.in-Ok.ensures.ok (unopened Unknown shows) refl tt)

pub returns-in-Ok : goal.returns-in-Ok
returns-in-Ok g c s stands covered =
    let shows : Seen = g.V.Disk.seen c.take_device-device.result in
    let shown : Shows c.args.self.now shows = rw c.self.view_is at c.take_device-device.ensures in
    let shut = shut_where c.args.self.now s shows c.requires stands shown in
    rw c.none.ensures
    (opened_run c.args.options.now s c.in-Ok.core shows _ shut (c.in-Ok.ensures.ok s.state shut.device (expected s.state shut.shut covered)) c.last_seq-seq.ensures)

pub returns-in-Err : goal.returns-in-Err
returns-in-Err g c s stands covered =
    let shows : Seen = g.V.Disk.seen c.take_device-device.result in
    let shown : Shows c.args.self.now shows = rw c.self.view_is at c.take_device-device.ensures in
    let shut = shut_where c.args.self.now s shows c.requires stands shown in
    refused_run c.args.options.now s _ shows _ c.refusal_reply.result c.one.result shut
    (c.in-Err.ensures.refused s.state shut.device) c.refusal_reply.ensures.printed c.refusal_reply.ensures.cut c.one.ensures.ok c.one.ensures.err
