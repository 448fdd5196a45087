use Rattle.keel_disk.proofs.SoundSteps.{own-read}
use Rattle.keel_simdisk.proofs.medium.Medium.list.Goals as goal

pub list-requires : goal.list-requires
list-requires c = own-read c.self.inside.tree c.self.invariant
