use Rattle.keel_simdisk.proofs.Keeping.{sound_on, sound_made}
use Rattle.keel_simdisk.proofs.medium.Medium.make.Goals as goal

pub invariant_of-self : goal.invariant_of-self
invariant_of-self c =
    sound_on c.make.result c.self.inside.tree _ c.make.new.self c.make.ensures.ok c.make.ensures.err (sound_made c.args.change.now c.self.inside.tree c.requires c.self.invariant) c.self.invariant
