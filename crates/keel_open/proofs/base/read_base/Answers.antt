use Rattle.std.proofs.Common.{Option, Err, subst}
use Rattle.keel_disk.specs.Told.{Told}
use Rattle.keel_open.specs.Manifests.{CurrentTells}
use Rattle.keel_open.proofs.Basing.{current_tells}
use Rattle.keel_open.proofs.base.read_base.Goals as goal

pub returns-in-Err-clause-base : goal.returns-in-Err-clause-base
returns-in-Err-clause-base g c =
    let e = c.in-Err.refusal in
    current_tells (g.D.Disk.seen c.args.disk.now).told e (subst (λ (told : Option Told). CurrentTells told (Err e)) c.in_ok-listing.ensures.quiet.same c.in-Err.ensures.names)
