use Rattle.std.proofs.Common.{rules, ap, ◌∙◌}
use Rattle.std.proofs.lemmas.Fn.{filter_same}
use Rattle.keel_levels.specs.Ranges.{between}
use Rattle.keel_levels.proofs.range.between.Goals as goal

pub returns : goal.returns
returns c =
    c.from_vec.ensures ∙ filter_same _ _ _ (λ x b f' k. search rules) _ _ c.retain.ensures.filtered
    ∙ ap (between c.args.from.now c.args.to.now) c.into_vec-rows.ensures
