use Rattle.keel_machine.proofs.Stopping.{manifest_failure_stops}
use Rattle.keel_machine.proofs.laws.manifest_failure_stops.Goals as goal

pub returns : goal.returns
returns c = manifest_failure_stops
