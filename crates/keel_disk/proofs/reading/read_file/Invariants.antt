use Rattle.std.proofs.Common.{◌-◌, length, None}
use Rattle.keel_disk.specs.Files.{Begins}
use Rattle.keel_disk.specs.Seen.{IsQuiet}
use Rattle.keel_disk.proofs.reading.read_file.Given as goal

abbrev pub invariant-parts : goal.invariant-parts
invariant-parts g l = let D = g.D.Disk in Begins l.name (D.seen l.disk).told l.bytes × IsQuiet (D.seen l.fn.disk) None (D.seen l.disk)

abbrev pub decreases-parts : goal.decreases-parts
decreases-parts g l = l.size - length l.bytes
