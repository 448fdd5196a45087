use Rattle.std.proofs.Common.{ap, sym, ◌∙◌, arith}
use Rattle.keel_core.specs.Views.{CoreView}
use Rattle.keel_core.proofs.Calling.{quiet_same}
use Rattle.keel_core.proofs.FlushRests.{draws_below, flush_rests_goes, flush_wants}
use Rattle.keel_core.proofs.store.Core.flush_step.Goals as goal

pub returns-in-Some : goal.returns-in-Some
returns-in-Some g c = record { turn = flush_rests_goes c.args.self.now c.in-Some.rest c.args.held c.in-Some.ensures.rests c.in-Some.ensures.rest }

pub go_on_flushing-requires-clause-draws : goal.go_on_flushing-requires-clause-draws
go_on_flushing-requires-clause-draws g c = λ draws.
    let next = ap (λ (v : CoreView). v.next_file) c.self.view_is in
    let flush = ap (λ (v : CoreView). v.flush) (sym c.self.view_is) ∙ sym c.take.ensures.value ∙ c.in-Some-take.is in
    let below = draws_below c.args.self.now c.args.held c.args.self.now.flush c.in-Some-take.running flush (sym c.flush_rest.ensures.rest ∙ c.in_default.is) draws in
    omega (arith, next, below)

pub returns-then-not-is_ready : goal.returns-then-not-is_ready
returns-then-not-is_ready g c = record { turn = flush_wants c.args.self.now c.args.self.now.device c.args.held (sym c.flush_rest.ensures.rest ∙ c.in_default.is) (quiet_same c.args.self.now.device) }
