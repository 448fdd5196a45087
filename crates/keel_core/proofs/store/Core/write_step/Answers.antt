use Rattle.std.proofs.Common.{sym, ◌∙◌}
use Rattle.keel_core.proofs.Resting.{rest_goes, rest_nearer, rest_same}
use Rattle.keel_core.proofs.Standing.{same_wanted, wants_goes}
use Rattle.keel_core.proofs.store.Core.write_step.Goals as goal

pub returns-then-is_ready-clause-turn : goal.returns-then-is_ready-clause-turn
returns-then-is_ready-clause-turn g c = record {
  goes = λ s stands. c.act.ensures.turn.goes s c.args.held stands (rest_same c.args.self.now s c.args.held stands ∙ sym c.in-None.ensures.rest);
}

pub returns-else-is_ready-clause-turn : goal.returns-else-is_ready-clause-turn
returns-else-is_ready-clause-turn g c = record {
  goes = λ s stands. (wants_goes c.args.self.now c.args.self.now (same_wanted c.args.self.now)).goes s c.args.held stands (rest_same c.args.self.now s c.args.held stands ∙ sym c.in-None.ensures.rest);
}

pub returns-in-Some-clause-turn : goal.returns-in-Some-clause-turn
returns-in-Some-clause-turn g c =
    rw (c.rest_with.ensures.step, c.rest_with.ensures.view)
    (rest_goes c.args.self.now c.in-Some.rest c.args.held c.in-Some.ensures.rests c.in-Some.ensures.rest)

pub returns-in-Some-clause-nearer : goal.returns-in-Some-clause-nearer
returns-in-Some-clause-nearer g c =
    rw (c.rest_with.ensures.step, c.rest_with.ensures.view)
    (rest_nearer c.args.self.now c.in-Some.rest c.in-Some.ensures.rests c.in-Some.ensures.finds)
