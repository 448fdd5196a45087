use Rattle.std.proofs.Common.{◌-◌, ◌^◌, None}
use Rattle.keel_disk.specs.Seen.{IsQuiet}
use Rattle.keel_wal.proofs.Walking.{ReadSoFar}
use Rattle.keel_wal.proofs.reading.read_listed.Given as goal

abbrev pub invariant-logs : goal.invariant-logs
invariant-logs g l =
    let D = g.D.Disk in
    ReadSoFar (D.seen l.fn.disk).told l.fn.min_log l.least l.logs.files.items l.logs.numbers.items × IsQuiet (D.seen l.fn.disk) None (D.seen l.disk)

abbrev pub decreases-logs : goal.decreases-logs
decreases-logs g l = 2 ^ 64 - l.least
