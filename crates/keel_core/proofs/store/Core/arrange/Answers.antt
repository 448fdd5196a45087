use Rattle.std.proofs.Common.{refl}
use Rattle.keel_core.proofs.Tellings.{arranged_goes}
use Rattle.keel_core.proofs.store.Core.arrange.Goals as goal

pub returns-clause-turn : goal.returns-clause-turn
returns-clause-turn g c =
    rw (← c.self.view_is) (arranged_goes _ _ c.args.rule c.arrange.result c.arrange.ensures.answer c.arrange.ensures.told c.arrange.ensures.rest refl)
