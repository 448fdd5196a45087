use Rattle.std.proofs.Common.{◌∙◌, ap}
use Rattle.keel_base.specs.declared.options.Options.{Options}
use Rattle.keel_cli.specs.Telling.{error_reply}
use Rattle.keel_cli.proofs.Carrying.{error_run}
use Rattle.keel_cli.proofs.telling.error.Goals as goal

pub returns : goal.returns
returns g c s stands =
    error_run c.args.core.now c.standing.result c.error_reply.result s stands c.standing.ensures.turn
    (c.error_reply.ensures ∙ ap (λ (o : Options). error_reply o.paranoid c.standing.result) c.options.ensures)
