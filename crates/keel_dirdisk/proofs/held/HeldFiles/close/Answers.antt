use Rattle.std.proofs.Common.{not, rules}
use Rattle.std.proofs.lemmas.Fn.{filter_same}
use Rattle.keel_base.specs.Name.{name_eq}
use Rattle.keel_dirdisk.proofs.held.HeldFiles.close.Goals as goal

pub returns-clause-files : goal.returns-clause-files
returns-clause-files g c = filter_same _ (λ held. not (name_eq held.name c.args.name)) _ (λ x b f called. search rules) _ _ c.retain.ensures.filtered
