use Rattle.keel_disk.proofs.SoundSteps.{sound-failed}
use Rattle.keel_simdisk.proofs.Keeping.{sound_on}
use Rattle.keel_simdisk.proofs.medium.Medium.fail.Goals as goal

pub invariant_of-self : goal.invariant_of-self
invariant_of-self c =
    sound_on c.fail.result c.self.inside.tree _ c.fail.new.self c.fail.ensures.ok c.fail.ensures.err (sound-failed c.args.change.now c.args.keep c.self.inside.tree c.requires c.self.invariant) c.self.invariant
