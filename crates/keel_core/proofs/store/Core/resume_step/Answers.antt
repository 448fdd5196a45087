use Rattle.std.proofs.Common.{sym, ◌∙◌}
use Rattle.keel_core.proofs.BootRests.{boot_rests_goes}
use Rattle.keel_core.proofs.BootStarts.{run_goes}
use Rattle.keel_core.proofs.store.Core.resume_step.Goals as goal

pub returns-in-Some : goal.returns-in-Some
returns-in-Some g c = record { turn = boot_rests_goes c.args.self.now c.in-Some.rest c.args.held c.in-Some.ensures.rests c.in-Some.ensures.rest }

pub returns-in-Some-take_running : goal.returns-in-Some-take_running
returns-in-Some-take_running g c = record {
  turn = run_goes c.args.self.now c.take_running.new.self c.go_on_job.new.self c.in-Some-take_running.booted c.in-Some-take_running.running c.go_on_job.result c.args.held
      c.in-Some-take_running.ensures.0 c.in-Some-take_running.ensures.1 c.go_on_job.ensures (sym c.boot_rest.ensures.rest ∙ c.in_default.is);
}
