use Rattle.keel_recovery.proofs.BootAll.{boot_call_keeps}
use Rattle.keel_recovery.proofs.BootSaysAll.{roll_gives}
use Rattle.keel_recovery.proofs.boot_laws.boot_call_keeps.Goals as goal

pub returns : goal.returns
returns c = boot_call_keeps roll_gives
