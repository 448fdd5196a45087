use Rattle.keel_recovery.proofs.BootSaysAll.{roll_gives}
use Rattle.keel_recovery.proofs.boot_laws.roll_gives.Goals as goal

pub returns : goal.returns
returns c = roll_gives
