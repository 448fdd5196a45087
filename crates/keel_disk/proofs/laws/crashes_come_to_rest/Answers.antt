use Rattle.keel_disk.proofs.Resting.{crash_rests}
use Rattle.keel_disk.proofs.laws.crashes_come_to_rest.Goals as goal

pub returns : goal.returns
returns c = crash_rests
