use Rattle.std.proofs.Common.{refl}
use Rattle.keel_cli.proofs.Driving.{kept_open, set_to, out_of_range}
use Rattle.keel_cli.proofs.driver.Driver.set_option.Goals as goal

pub returns-then-is_open-clause-out : goal.returns-then-is_open-clause-out
returns-then-is_open-clause-out g c session stands = kept_open g.row.V.Denot c.args.self.now c.args.name c.args.value session stands c.if-is_open.ensures

pub returns-in-Ok-clause-out : goal.returns-in-Ok-clause-out
returns-in-Ok-clause-out g c session stands =
    let old = c.args.self.now in
    set_to g.row.V.Denot old.store old.settings c.set.new.self old.tick c.args.value c.args.name session stands c.if-is_open.ensures (c.in-Ok.ensures.cause.0 refl) c.in-Ok.ensures.ok

pub returns-in-Err-clause-out : goal.returns-in-Err-clause-out
returns-in-Err-clause-out g c session stands =
    let old = c.args.self.now in
    out_of_range g.row.V.Denot old.store old.settings c.set.new.self old.tick c.args.value c.args.name c.in-Err.range session stands c.if-is_open.ensures
    (λ within. absurd (let no = c.in-Err.ensures.cause.1 within in cc)) c.in-Err.ensures.err c.in-Err.ensures.range
