use Rattle.std.proofs.Common.{rules, sym, ◌∙◌}
use denote.Enum.Bare.{same_true}
use Rattle.keel_base.specs.contracts.failure.Call.{the_type}
use Rattle.keel_simdisk.proofs.Meeting.{met_here}
use Rattle.keel_simdisk.proofs.rules.Rules.first.Goals as goal

pub returns-then-eq-clause-met : goal.returns-then-eq-clause-met
returns-then-eq-clause-met c =
    met_here c.args.call c.deref-armed-items.result.now c.args.self.now c.loop-place.place _
    (c.deref-armed-items.ensures.value ∙ c.self.view_is) c.loop-place-test.true
    (record { kind = same_true the_type (search rules) _ _ (sym c.eq.ensures ∙ c.if-eq.true); times_left = c.if-armed-gt0.true })
    c.loop-place.invariant
