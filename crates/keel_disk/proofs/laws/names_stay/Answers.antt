use Rattle.keel_disk.proofs.Steadily.{steady_stays, present_stays}
use Rattle.keel_disk.proofs.laws.names_stay.Goals as goal

pub returns-clause-steady : goal.returns-clause-steady
returns-clause-steady c = steady_stays

pub returns-clause-present : goal.returns-clause-present
returns-clause-present c = present_stays
