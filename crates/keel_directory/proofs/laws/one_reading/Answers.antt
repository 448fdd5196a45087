use Rattle.keel_directory.proofs.OneReading.{reading_one}
use Rattle.keel_directory.proofs.laws.one_reading.Goals as goal

pub returns : goal.returns
returns c = reading_one
