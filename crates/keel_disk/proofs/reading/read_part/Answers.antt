use Rattle.std.proofs.Common.{◌<◌, length, arith, Ok}
use Rattle.keel_disk.specs.Told.{TellsRead}
use Rattle.keel_disk.proofs.Filing.{part_read}
use Rattle.keel_disk.proofs.reading.read_part.Goals as goal

pub returns-in-Ok-clause-bytes : goal.returns-in-Ok-clause-bytes
returns-in-Ok-clause-bytes g c =
    let told = (g.D.Disk.seen c.args.disk.now).told in
    let some : 0 < c.min-length.result = omega (arith, c.min-length.ensures, c.from.ensures, c.requires.some) in
    let read : TellsRead c.args.name (length c.args.front.now) c.min-length.result told (Ok c.in-Ok.part) = rw (← c.len.ensures) c.in-Ok.ensures.bytes in
    part_read c.args.name told c.args.front.now c.in-Ok.part c.min-length.result some c.requires.begins read
