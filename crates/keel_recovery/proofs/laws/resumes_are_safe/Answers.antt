use Rattle.keel_recovery.proofs.BootAll.{boot_call_keeps}
use Rattle.keel_recovery.proofs.BootSaysAll.{roll_gives}
use Rattle.keel_recovery.proofs.SafeResumes.{resumes_are_safe}
use Rattle.keel_recovery.proofs.laws.resumes_are_safe.Goals as goal

pub returns : goal.returns
returns c = resumes_are_safe (boot_call_keeps roll_gives)
