use Rattle.keel_machine.proofs.BootLength.{boot_ends}
use Rattle.keel_machine.proofs.laws.boot_ends.Goals as goal

pub returns : goal.returns
returns c = boot_ends
