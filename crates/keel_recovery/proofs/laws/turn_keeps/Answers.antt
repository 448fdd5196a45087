use Rattle.keel_recovery.proofs.BootAll.{boot_call_keeps}
use Rattle.keel_recovery.proofs.BootSaysAll.{roll_gives}
use Rattle.keel_recovery.proofs.Machine.{turn_keeps}
use Rattle.keel_recovery.proofs.Opened.{opening_boots}
use Rattle.keel_recovery.proofs.laws.turn_keeps.Goals as goal

pub returns : goal.returns
returns c = turn_keeps opening_boots (boot_call_keeps roll_gives)
