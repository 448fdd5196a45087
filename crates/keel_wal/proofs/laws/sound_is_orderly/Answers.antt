use Rattle.keel_wal.proofs.Orderly.{sound_orderly}
use Rattle.keel_wal.proofs.laws.sound_is_orderly.Goals as goal

pub returns : goal.returns
returns c = sound_orderly
