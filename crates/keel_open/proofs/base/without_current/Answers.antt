use Rattle.std.proofs.Common.{ap, ◌∙◌}
use Rattle.keel_open.specs.Listed.{first_listed}
use Rattle.keel_open.proofs.Basing.{used_tells, new_tells}
use Rattle.keel_open.proofs.base.without_current.Goals as goal

pub returns-in-Some-clause-base : goal.returns-in-Some-clause-base
returns-in-Some-clause-base c = λ told tells none.
    used_tells told c.args.listing c.in-Some.file c.requires tells none (c.in-Some.ensures ∙ ap first_listed c.as_slice.ensures)

pub returns-in-None-clause-base : goal.returns-in-None-clause-base
returns-in-None-clause-base c = λ told tells none.
    new_tells told c.args.listing c.empty.result c.next_file.result c.args.listing c.requires tells none (c.in-None.ensures ∙ ap first_listed c.as_slice.ensures) c.empty.ensures
