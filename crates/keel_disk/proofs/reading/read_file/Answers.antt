use Rattle.std.proofs.Common.{sym, subst, List, ℕ}
use Rattle.keel_disk.specs.Files.{Begins}
use Rattle.keel_disk.proofs.Faults.{quiet_itself}
use Rattle.keel_disk.proofs.Filing.{nothing_begins}
use Rattle.keel_disk.proofs.reading.read_file.Goals as goal

pub parts-init : goal.parts-init
parts-init g c =
    let told = (g.D.Disk.seen c.args.disk.now).told in (
      subst (λ (front : List ℕ). Begins c.args.name told front) (sym c.new-bytes.ensures) (nothing_begins c.args.name told),
      quiet_itself (g.D.Disk.seen c.args.disk.now),
    )
