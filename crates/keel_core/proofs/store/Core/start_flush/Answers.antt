use Rattle.std.proofs.Common.{◌+◌, ap, subst}
use Rattle.keel_core.specs.Flushes.{Advances}
use Rattle.keel_core.specs.Views.{CoreView}
use Rattle.keel_core.proofs.Calling.{quiet_same}
use Rattle.keel_core.proofs.FlushRests.{flush_wants}
use Rattle.keel_core.proofs.FlushStarts.{start_goes}
use Rattle.keel_core.proofs.store.Core.start_flush.Goals as goal

pub returns-in_default : goal.returns-in_default
returns-in_default g c = record { turn = λ held none. flush_wants c.args.self.now c.args.self.now.device held none (quiet_same c.args.self.now.device) }

pub returns : goal.returns
returns g c =
    let number = ap (λ (v : CoreView). v.flush_job + 1) c.advance_flush.view_is in
    let advanced = subst (λ n. Advances c.args.self.now n c.in-Ok.running c.advance_flush-answer.result c.advance_flush-answer.new.self) number c.advance_flush-answer.ensures in
    rw c.made_in.ensures (record {
      turn = λ held none. start_goes c.args.self.now c.advance_flush-answer.new.self c.in-Ok.running c.advance_flush-answer.result c.requires.cleared c.requires.none c.in-Ok.ensures advanced held none;
    })
