use Rattle.std.proofs.Common.{sym}
use Rattle.keel_core.proofs.BootRests.{boot_wants}
use Rattle.keel_core.proofs.BootStarts.{start_goes}
use Rattle.keel_core.proofs.Calling.{quiet_same}
use Rattle.keel_core.proofs.store.Core.begin_job.Goals as goal

pub returns-in_default : goal.returns-in_default
returns-in_default g c = record { turn = λ held none. boot_wants c.args.self.now c.args.self.now.device held none (quiet_same c.args.self.now.device) }

pub returns : goal.returns
returns g c =
    let old = c.args.self.now in
    rw c.made_in.ensures (record {
      turn = λ held none. start_goes old c.advance-answer.new.self _ c.next_job-number.result c.has_booted-booted.result c.advance-answer.result c.requires.begins c.requires.below c.in-Ok.ensures
          c.next_job-number.ensures (sym c.has_booted-booted.ensures) c.advance-answer.ensures held none;
    })
