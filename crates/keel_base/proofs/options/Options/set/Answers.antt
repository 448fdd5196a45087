use Rattle.std.proofs.Common.{sym, subst}
use Rattle.keel_base.specs.declared.options.Options.{Options}
use Rattle.keel_base.specs.Options.{AreInRange, SetsOne}
use Rattle.keel_base.proofs.Choosing.{sets_one, stays_in_range}
use Rattle.keel_base.proofs.options.Options.set.Goals as goal

pub returns-clause-one : goal.returns-clause-one
returns-clause-one c =
    subst (λ (new : Options). SetsOne c.args.name c.args.value c.args.self.now new) (sym c.changed.ensures) (sets_one c.args.name c.args.value c.args.self.now c.requires)

pub returns-clause-in_range : goal.returns-clause-in_range
returns-clause-in_range c all = subst AreInRange (sym c.changed.ensures) (stays_in_range c.args.name c.args.value c.args.self.now c.requires all)
