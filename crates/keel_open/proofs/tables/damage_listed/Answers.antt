use Rattle.std.proofs.Common.{sym}
use Rattle.keel_open.proofs.Damages.{unlisted_tells}
use Rattle.keel_open.proofs.tables.damage_listed.Goals as goal

pub returns-in-None-clause-damage : goal.returns-in-None-clause-damage
returns-in-None-clause-damage g c = unlisted_tells (g.D.Disk.seen c.args.disk.now).told c.args.listing.now c.args.table.now c.requires.tells c.requires.name (sym c.in-None.ensures)
