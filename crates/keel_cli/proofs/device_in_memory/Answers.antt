use Rattle.keel_recovery.proofs.Examples.{empty_is_first}
use Rattle.keel_cli.proofs.device_in_memory.Goals as goal

pub returns : goal.returns
returns c = rw c.new.ensures.empty empty_is_first
