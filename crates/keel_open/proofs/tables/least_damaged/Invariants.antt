use Rattle.std.proofs.Common.{◌≤◌, drop, length, None}
use Rattle.keel_disk.specs.Seen.{IsQuiet}
use Rattle.keel_open.specs.TableAnswers.{ChosenTells}
use Rattle.keel_open.proofs.tables.least_damaged.Given as goal

abbrev pub invariant-tables : goal.invariant-tables
invariant-tables g l =
    let D = g.D.Disk in
    (l.left ≤ length l.tables) × ChosenTells (D.seen l.fn.disk).told (drop l.left l.tables) l.found × IsQuiet (D.seen l.fn.disk) None (D.seen l.disk)

abbrev pub decreases-tables : goal.decreases-tables
decreases-tables g l = l.left
