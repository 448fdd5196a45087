use Rattle.std.proofs.Common.{sym, subst}
use Rattle.keel_disk.specs.Sound.{IsSound}
use Rattle.keel_simdisk.specs.Crash.{IsImageLeft}
use Rattle.keel_simdisk.proofs.Leaving.{left_is, left_rests}
use Rattle.keel_simdisk.proofs.medium.Medium.restarted.Goals as goal

pub invariant_of-result : goal.invariant_of-result
invariant_of-result c = subst IsSound (sym c.in_ok-crashed.ensures.tree) (left_rests c.args.pick c.self.inside.tree c.self.invariant).sound

pub returns-in_err-crashed-clause-image : goal.returns-in_err-crashed-clause-image
returns-in_err-crashed-clause-image c = subst (IsImageLeft c.args.pick) c.self.view_is (left_is c.args.pick c.self.inside.tree c.self.invariant)

pub returns-clause-image : goal.returns-clause-image
returns-clause-image c = subst (IsImageLeft c.args.pick) c.self.view_is (left_is c.args.pick c.self.inside.tree c.self.invariant)
