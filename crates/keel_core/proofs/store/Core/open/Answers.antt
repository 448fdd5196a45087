use Rattle.keel_core.proofs.OpenedStore.{opens_parts}
use Rattle.keel_core.proofs.store.Core.open.Goals as goal

pub returns-in-Ok-of-clause-ok : goal.returns-in-Ok-of-clause-ok
returns-in-Ok-of-clause-ok g c s is expects =
    let r = c.in-Ok.ensures in
    opens_parts s c.args.options c.in-Ok.found c.in-Ok-of.parts c.of_parts.result _ _ c.in-Ok-of.ensures c.of_parts.ensures r.runs_on r.next is expects r.store r.tells r.quiet
