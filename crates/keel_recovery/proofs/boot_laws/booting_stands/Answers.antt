use Rattle.keel_recovery.proofs.BootRolls.{booting_stands}
use Rattle.keel_recovery.proofs.boot_laws.booting_stands.Goals as goal

pub returns : goal.returns
returns c = booting_stands
