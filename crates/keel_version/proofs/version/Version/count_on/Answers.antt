use Rattle.std.proofs.Common.{sym, ap, ◌∙◌}
use Rattle.std.specs.Prelude.{◌==◌, count_by}
use Rattle.std.proofs.lemmas.List.Sums.{length-filter}
use Rattle.keel_edit.specs.declared.edit.Added.{Added}
use Rattle.keel_version.proofs.version.Version.count_on.Goals as goal

pub returns : goal.returns
returns c =
    rw (← c.self.view_is)
    (c.count_on.ensures ∙ ap (count_by (λ (t : Added). t.level == c.args.level)) c.as_slice.ensures.value
    ∙ sym (length-filter (λ (t : Added). t.level == c.args.level) c.self.inside.tables.items))
